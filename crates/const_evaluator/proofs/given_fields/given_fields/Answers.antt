use Rattle.const_evaluator.proofs.ListsGiven.{lists_given}
use Rattle.const_evaluator.proofs.given_fields.given_fields.Goals as goal

pub returns : goal.returns
returns c = λ program s v.
    lists_given program c.args.structs.now c.args.services.now c.new-lists.result.items c.put_structs.new.lists.items c.put_services.new.lists.items c.new-lists.ensures.items
    c.in_ok-put_structs.ensures c.in_ok-put_services.ensures s v
