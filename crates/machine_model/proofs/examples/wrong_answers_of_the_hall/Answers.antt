use Rattle.std.proofs.Common.{◌≡◌, refl, ℕ, ◌≤◌, length, ap, arith}
use Rattle.std.proofs.lemmas.Bool.{true≢false, false≢true}
use Rattle.streams.specs.Cause.{next_count}
use Rattle.machine_model.specs.HallState.{HallState}
use Rattle.machine_model.proofs.WrongSteps.{differ, first_job, first_outcome}
use Rattle.machine_model.proofs.examples.wrong_answers_of_the_hall.Goals as goal

pub returns-clause-taken_out_of_order : goal.returns-clause-taken_out_of_order
returns-clause-taken_out_of_order c = λ new t. differ 0 1 refl (ap first_job t.1)

pub returns-clause-collected_out_of_order : goal.returns-clause-collected_out_of_order
returns-clause-collected_out_of_order c = λ new t. differ 0 1 refl (ap first_outcome t.1)

pub returns-clause-closed_before_the_last_job : goal.returns-clause-closed_before_the_last_job
returns-clause-closed_before_the_last_job c = λ new t. differ 2 0 refl (ap length t.0)

pub returns-clause-closed_before_the_last_outcome : goal.returns-clause-closed_before_the_last_outcome
returns-clause-closed_before_the_last_outcome c = λ new t. differ 2 0 refl (ap length t.0)

pub returns-clause-empty_and_closed : goal.returns-clause-empty_and_closed
returns-clause-empty_and_closed c = λ new t. true≢false t.1

pub returns-clause-closed_and_open : goal.returns-clause-closed_and_open
returns-clause-closed_and_open c = λ new t. false≢true t.1

pub returns-clause-submitted_to_a_closed_hall : goal.returns-clause-submitted_to_a_closed_hall
returns-clause-submitted_to_a_closed_hall c = λ new t. true≢false t.0

pub returns-clause-another_answer : goal.returns-clause-another_answer
returns-clause-another_answer c = λ new t. differ 6 5 refl (t.2.1.0)

pub returns-clause-called_after_a_fault : goal.returns-clause-called_after_a_fault
returns-clause-called_after_a_fault c = λ new t. true≢false t.2.0

pub returns-clause-fault_without_a_cause : goal.returns-clause-fault_without_a_cause
returns-clause-fault_without_a_cause c = λ t. let f : next_count 0 ≤ t.0 = t.2.1 in let e : 0 ≡ t.0 = ap (λ (h : HallState ℕ ℕ ℕ). h.faults) t.2.2 in let g : ⊥ = omega arith in g

pub returns-clause-fault_untold : goal.returns-clause-fault_untold
returns-clause-fault_untold c = λ new one t.
    let e : t.0 ≡ 0 = t.3 in
    let f : new.faults ≡ t.0 = ap (λ (h : HallState ℕ ℕ ℕ). h.faults) t.2.1.1 in
    let g : ⊥ = omega (arith, one) in
    g

pub returns-clause-fault_forgotten : goal.returns-clause-fault_forgotten
returns-clause-fault_forgotten c = λ new t. true≢false t.2.0
