use Rattle.std.proofs.Common.{None, refl, slice_index_or}
use Rattle.idl_types.proofs.Sets.{bases_next, bases_end}
use Rattle.idl_types.proofs.inherited.parents_sets.Goals as goal

pub loop-parent-preserved : goal.loop-parent-preserved
loop-parent-preserved c =
    bases_next c.args.made.now c.args.parents.now c.loop-parent.parent-index (slice_index_or c.args.parents.now c.loop-parent.parent-index None) c.in_ok-base_of.field-0
    c.loop-parent.sets.items c.push.new.self.items c.loop-parent-test.true refl c.in_ok-base_of.ensures c.in_ok-push.ensures.items c.loop-parent.invariant

pub returns : goal.returns
returns c = bases_end c.args.made.now c.args.parents.now c.loop-parent.sets.items c.loop-parent.parent-index c.loop-parent-test.false c.loop-parent.invariant
