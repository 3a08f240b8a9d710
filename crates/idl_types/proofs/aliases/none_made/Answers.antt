use Rattle.idl_types.proofs.Made.{none_next}
use Rattle.idl_types.proofs.aliases.none_made.Goals as goal

pub loop-place-preserved : goal.loop-place-preserved
loop-place-preserved c = none_next c.loop-place.made.items c.push.new.self.items c.in_ok-push.ensures.items c.loop-place.invariant
