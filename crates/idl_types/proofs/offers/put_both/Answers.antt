use Rattle.idl_types.proofs.Sets.{both_put}
use Rattle.idl_types.proofs.offers.put_both.Goals as goal

pub returns : goal.returns
returns c =
    both_put c.put_functions.result c.args.sets.now c.args.base c.args.functions.now c.args.set.now c.put_base.new.set c.put_functions.new.set
    (c.in_ok-put_base.ensures {u = tt}) c.put_functions.ensures
