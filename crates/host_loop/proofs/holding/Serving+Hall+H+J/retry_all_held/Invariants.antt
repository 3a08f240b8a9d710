use Rattle.std.proofs.Common.{◌≡◌}
use Rattle.host_loop.specs.Going.{Serves}
use Rattle.host_loop.proofs.holding.Serving+Hall+H+J.retry_all_held.Given as goal

-- the loop serves on
abbrev pub invariant-loop : goal.invariant-loop
invariant-loop g l = record {
  serving : Serves g.D.Desk.meaning g.L.Links.state l.run l.links l.self;
  plan : g.L.Links.plan l.links ≡ g.L.Links.plan l.fn.links;
}
