use Rattle.idl_types.specs.Inherited.{HasBoth}
use Rattle.idl_types.proofs.Sets.{from_nothing, kept_right}
use Rattle.idl_types.proofs.offers.with_functions.Goals as goal

pub returns : goal.returns
returns c =
    kept_right (HasBoth c.args.sets.now c.args.base c.args.functions.now) c.put_both-done.new.set c.put_both-done.result c.kept.result c.kept.ensures
    (from_nothing c.put_both-done.result c.args.sets.now c.args.base c.args.functions.now c.new-set.result c.put_both-done.new.set c.new-set.ensures.empty c.put_both-done.ensures)
