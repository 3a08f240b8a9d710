use Rattle.std.proofs.Common.{rules}
use Rattle.idl_const.proofs.OwedSteps.{given_next}
use Rattle.idl_const.proofs.field_rows.put_given.Goals as goal

pub loop-id-preserved : goal.loop-id-preserved
loop-id-preserved c =
    given_next c.loop-id.row.items c.push_back.new.self.items c.loop-id.given.items c.pop_front.new.self.items _ _ _ c.in_ok-push_back.ensures.items c.in-Some.ensures.items
    (search rules) c.loop-id.invariant
