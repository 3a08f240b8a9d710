use Rattle.idl_types.proofs.Sets.{no_base_put, no_set_put}
use Rattle.idl_types.proofs.offers.put_base.Goals as goal

pub returns-in_default : goal.returns-in_default
returns-in_default c = no_base_put c.args.sets.now c.args.base c.args.set.now c.in_default.is

pub returns-in-None : goal.returns-in-None
returns-in-None c = no_set_put c.args.sets.now c.args.base c.in-Some.which c.get.result c.args.set.now c.in-Some.is c.get.ensures.lookup c.in-None.is
