use Rattle.std.proofs.Common.{[], ◌∷◌}
use Rattle.std.proofs.lemmas.Result.{err_from_is_err_and}
use Rattle.check_model.specs.Passes.{not_exception, struct_loop}
use Rattle.check_passes.proofs.InOrder.{stops, goes_on}
use Rattle.check_passes.proofs.passes.struct_fault.Goals as goal

pub returns-in_err-first_fault : goal.returns-in_err-first_fault
returns-in_err-first_fault c program files structs meanings finite same =
    let p = err_from_is_err_and c.from_residual.result c.from_residual.ensures.1 in
    rw (p.1, p.2)
    (stops program (not_exception ∷ []) (struct_loop ∷ []) c.in_err-first_fault.field-0.0 (c.in_err-first_fault.ensures program (files, structs, meanings) same))

pub returns : goal.returns
returns c program files structs meanings finite same =
    goes_on program (not_exception ∷ []) (struct_loop ∷ []) c.first_fault-2.result (c.in_ok-first_fault.ensures program (files, structs, meanings) same)
    (c.first_fault-2.ensures program finite same)
