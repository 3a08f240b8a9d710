use Rattle.idl_types.proofs.Inheriting.{told}
use Rattle.idl_types.proofs.inherited.inherited_names.Goals as goal

pub returns : goal.returns
returns c = λ program are is.
    told program c.args.parents.now c.args.services.now c.in_ok-offered.offered.sets.items c.in_ok-offered.offered.made.items c.as_slice.result.now
    c.in_ok-inherited.inherited.items c.in_ok-offered.ensures c.as_slice.ensures.value c.in_ok-inherited.ensures are is
