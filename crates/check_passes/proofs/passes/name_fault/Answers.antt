use Rattle.std.proofs.Common.{[], ◌∷◌, Err}
use Rattle.std.proofs.lemmas.Result.{err_from_is_err_and}
use Rattle.std.specs.Prelude.{⊤}
use Rattle.check_model.specs.Passes.{dotted_name, duplicate_name, unknown_type}
use Rattle.check_passes.proofs.InOrder.{stops, goes_on}
use Rattle.check_passes.proofs.passes.name_fault.Goals as goal

pub returns-in_err-first_fault : goal.returns-in_err-first_fault
returns-in_err-first_fault c program files same =
    let p = err_from_is_err_and c.from_residual.result c.from_residual.ensures.1 in
    rw (p.1, p.2)
    (stops program (dotted_name ∷ []) (duplicate_name ∷ unknown_type ∷ []) c.in_err-first_fault.field-0.0 (c.in_err-first_fault.ensures program tt same))

pub returns-in_err-first_fault-2 : goal.returns-in_err-first_fault-2
returns-in_err-first_fault-2 c program files same =
    let p = err_from_is_err_and c.from_residual-in_err-first_fault-2.result c.from_residual-in_err-first_fault-2.ensures.1 in
    let fault = c.in_err-first_fault-2.field-0.0 in
    rw (p.1, p.2)
    (goes_on {A = ⊤} program (dotted_name ∷ []) (duplicate_name ∷ unknown_type ∷ []) (Err fault) (c.in_ok-first_fault.ensures program tt same)
    (stops program (duplicate_name ∷ []) (unknown_type ∷ []) fault (c.in_err-first_fault-2.ensures program tt same)))

pub returns : goal.returns
returns c program files same =
    goes_on program (dotted_name ∷ []) (duplicate_name ∷ unknown_type ∷ []) c.first_fault-3.result (c.in_ok-first_fault.ensures program tt same)
    (goes_on program (duplicate_name ∷ []) (unknown_type ∷ []) c.first_fault-3.result (c.in_ok-first_fault-2.ensures program tt same)
    (c.first_fault-3.ensures program files same))
