use Rattle.std.proofs.Common.{◌-◌}
use Rattle.wire_walk.proofs.PassedOver.{AreItemsPassed}
use Rattle.known_parts.proofs.passing.pass_items.Given as goal

-- what is left behind the rest is what is left behind all
abbrev pub invariant-loop-step : goal.invariant-loop-step
invariant-loop-step g l = AreItemsPassed g.W.WireProtocol.wire l.levels l.tag (l.count - l.step) l.rest l.fn.count l.fn.rest
