use Rattle.idl_types.specs.declared.offers.Offered.{Offered}
use Rattle.idl_types.specs.Inherited.{AreOffered}
use Rattle.idl_types.proofs.Inheriting.{none_offered}
use Rattle.idl_types.proofs.Sets.{kept_right, on_ok_of}
use Rattle.idl_types.proofs.inherited.offered_in_order.Goals as goal

pub returns : goal.returns
returns c =
    kept_right (λ (o : Offered). AreOffered c.args.parents.now c.args.services.now o.sets.items o.made.items) c.offer_each-done.new.offered c.offer_each-done.result c.kept.result c.kept.ensures
    (on_ok_of _ c.offer_each-done.result c.offer_each-done.ensures
    (none_offered c.args.parents.now c.args.services.now c.in_ok-offered.offered.sets.items c.in_ok-offered.offered.made.items (c.in_ok-offered.ensures {u = tt})))
