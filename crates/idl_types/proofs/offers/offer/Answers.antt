use Rattle.std.proofs.Common.{rules}
use Rattle.idl_types.proofs.Inheriting.{shared, added}
use Rattle.idl_types.proofs.offers.offer.Goals as goal

pub returns-in-Some : goal.returns-in-Some
returns-in-Some c =
    shared c.put_made.result c.args.parents.now c.args.services.now c.args.offered.now.sets.items c.args.offered.now.made.items c.as_slice.result.now c.put_made.new.made.items
    c.args.service c.in-Some.which c.entry_at.result c.in_ok-base.base c.functions_at-functions.result.now c.functions_at-functions.ensures
    (search (rules, c.is_empty.ensures, c.if-is_empty.true)) c.entry_at.ensures c.as_slice.ensures.value c.in_ok-base.ensures c.in-Some.is c.put_made.ensures

pub returns : goal.returns
returns c =
    added c.offer_new.result c.args.parents.now c.args.services.now c.args.service c.entry_at.result c.in_ok-base.base c.functions_at-functions.result.now c.as_slice.result.now
    c.args.offered.now c.offer_new.new.offered c.functions_at-functions.ensures c.entry_at.ensures c.as_slice.ensures.value c.in_ok-base.ensures c.offer_new.ensures
