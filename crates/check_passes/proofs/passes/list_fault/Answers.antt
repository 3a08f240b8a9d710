use Rattle.std.proofs.Common.{[], ◌∷◌, Err}
use Rattle.std.proofs.lemmas.Result.{err_from_is_err_and}
use Rattle.std.specs.Prelude.{⊤}
use Rattle.check_model.specs.Passes.{typedef_cycle, field_id, duplicate_id, enum_number, service_cycle}
use Rattle.check_passes.proofs.InOrder.{stops, goes_on}
use Rattle.check_passes.proofs.passes.list_fault.Goals as goal

pub returns-in_err-first_fault : goal.returns-in_err-first_fault
returns-in_err-first_fault c program typedef service same =
    let p = err_from_is_err_and c.from_residual.result c.from_residual.ensures.1 in
    rw (p.1, p.2)
    (stops program (typedef_cycle ∷ []) (field_id ∷ duplicate_id ∷ enum_number ∷ service_cycle ∷ []) c.in_err-first_fault.field-0.0 (c.in_err-first_fault.ensures program typedef same))

pub returns-in_err-first_fault-2 : goal.returns-in_err-first_fault-2
returns-in_err-first_fault-2 c program typedef service same =
    let p = err_from_is_err_and c.from_residual-in_err-first_fault-2.result c.from_residual-in_err-first_fault-2.ensures.1 in
    let fault = c.in_err-first_fault-2.field-0.0 in
    rw (p.1, p.2)
    (goes_on {A = ⊤} program (typedef_cycle ∷ []) (field_id ∷ duplicate_id ∷ enum_number ∷ service_cycle ∷ []) (Err fault) (c.in_ok-first_fault.ensures program typedef same)
    (stops program (field_id ∷ []) (duplicate_id ∷ enum_number ∷ service_cycle ∷ []) fault (c.in_err-first_fault-2.ensures program tt same)))

pub returns-in_err-first_fault-3 : goal.returns-in_err-first_fault-3
returns-in_err-first_fault-3 c program typedef service same =
    let p = err_from_is_err_and c.from_residual-in_err-first_fault-3.result c.from_residual-in_err-first_fault-3.ensures.1 in
    let fault = c.in_err-first_fault-3.field-0.0 in
    rw (p.1, p.2)
    (goes_on {A = ⊤} program (typedef_cycle ∷ []) (field_id ∷ duplicate_id ∷ enum_number ∷ service_cycle ∷ []) (Err fault) (c.in_ok-first_fault.ensures program typedef same)
    (goes_on {A = ⊤} program (field_id ∷ []) (duplicate_id ∷ enum_number ∷ service_cycle ∷ []) (Err fault) (c.in_ok-first_fault-2.ensures program tt same)
    (stops program (duplicate_id ∷ []) (enum_number ∷ service_cycle ∷ []) fault (c.in_err-first_fault-3.ensures program tt same))))

pub returns-in_err-first_fault-4 : goal.returns-in_err-first_fault-4
returns-in_err-first_fault-4 c program typedef service same =
    let p = err_from_is_err_and c.from_residual-in_err-first_fault-4.result c.from_residual-in_err-first_fault-4.ensures.1 in
    let fault = c.in_err-first_fault-4.field-0.0 in
    rw (p.1, p.2)
    (goes_on {A = ⊤} program (typedef_cycle ∷ []) (field_id ∷ duplicate_id ∷ enum_number ∷ service_cycle ∷ []) (Err fault) (c.in_ok-first_fault.ensures program typedef same)
    (goes_on {A = ⊤} program (field_id ∷ []) (duplicate_id ∷ enum_number ∷ service_cycle ∷ []) (Err fault) (c.in_ok-first_fault-2.ensures program tt same)
    (goes_on {A = ⊤} program (duplicate_id ∷ []) (enum_number ∷ service_cycle ∷ []) (Err fault) (c.in_ok-first_fault-3.ensures program tt same)
    (stops program (enum_number ∷ []) (service_cycle ∷ []) fault (c.in_err-first_fault-4.ensures program tt same)))))

pub returns : goal.returns
returns c program typedef service same =
    goes_on program (typedef_cycle ∷ []) (field_id ∷ duplicate_id ∷ enum_number ∷ service_cycle ∷ []) c.first_fault-5.result (c.in_ok-first_fault.ensures program typedef same)
    (goes_on program (field_id ∷ []) (duplicate_id ∷ enum_number ∷ service_cycle ∷ []) c.first_fault-5.result (c.in_ok-first_fault-2.ensures program tt same)
    (goes_on program (duplicate_id ∷ []) (enum_number ∷ service_cycle ∷ []) c.first_fault-5.result (c.in_ok-first_fault-3.ensures program tt same)
    (goes_on program (enum_number ∷ []) (service_cycle ∷ []) c.first_fault-5.result (c.in_ok-first_fault-4.ensures program tt same)
    (c.first_fault-5.ensures program service same))))
