use Rattle.std.proofs.Common.{◌≡◌, IsTrue}
use Rattle.host_loop.specs.Held.{SomeIsHeld}
use Rattle.host_loop.specs.Going.{Serves}
use Rattle.host_loop.proofs.holding.Serving+Hall+H+J.look.Given as goal

-- the loop serves on
abbrev pub invariant-loop-at : goal.invariant-loop-at
invariant-loop-at g l = record {
  serving : Serves g.D.Desk.meaning g.L.Links.state l.run l.links l.self;
  plan : g.L.Links.plan l.links ≡ g.L.Links.plan l.fn.links;
  held : IsTrue l.one → SomeIsHeld l.self.conns;
}
