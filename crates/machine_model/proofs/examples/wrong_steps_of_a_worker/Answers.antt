use Rattle.std.proofs.Common.{refl, ℕ, Some, ap, ◌∙◌, ⊎_elim}
use Rattle.host_model.specs.TinyDesk.{tiny_desk}
use Rattle.machine_model.specs.Worker.{WorkerState, key_held}
use Rattle.machine_model.proofs.WrongSteps.{differ, kind_of, payload_of, call_made, connection_in, reply_in, outcome_kind}
use Rattle.machine_model.proofs.examples.wrong_steps_of_a_worker.Goals as goal

pub returns-clause-taken_with_a_job_in_worker : goal.returns-clause-taken_with_a_job_in_worker
returns-clause-taken_with_a_job_in_worker c = λ worker t. differ 1 0 refl (ap kind_of t.0)

pub returns-clause-applied_twice : goal.returns-clause-applied_twice
returns-clause-applied_twice c = λ worker t. differ 2 1 refl (ap kind_of t.1)

pub returns-clause-tried_again : goal.returns-clause-tried_again
returns-clause-tried_again c = λ worker t. differ 3 1 refl (ap kind_of t.1)

pub returns-clause-silent_payload_is_called : goal.returns-clause-silent_payload_is_called
returns-clause-silent_payload_is_called c = λ worker t. differ 0 10 refl (ap call_made (ap tiny_desk.decide (ap payload_of t.1) ∙ t.2))

pub returns-clause-another_call : goal.returns-clause-another_call
returns-clause-another_call c = λ worker t. differ 10 11 refl (ap call_made (ap tiny_desk.decide (ap payload_of t.1) ∙ t.2))

pub returns-clause-applied_under_another_key : goal.returns-clause-applied_under_another_key
returns-clause-applied_under_another_key c = λ worker t. differ 0 1 refl (ap (λ (h : WorkerState ℕ). connection_in (key_held h)) t.1)

pub returns-clause-put_under_another_key : goal.returns-clause-put_under_another_key
returns-clause-put_under_another_key c = λ worker t. differ 0 1 refl (ap connection_in t.0.0)

pub returns-clause-put_with_another_outcome : goal.returns-clause-put_with_another_outcome
returns-clause-put_with_another_outcome c = λ worker t. ⊎_elim (λ e. differ 20 5 refl (ap reply_in e)) (λ e. differ 5 0 refl (ap (λ s. reply_in (Some s)) e)) t.0.1

pub returns-clause-put_without_a_call : goal.returns-clause-put_without_a_call
returns-clause-put_without_a_call c = λ worker t. ⊎_elim (λ e. differ 0 5 refl (ap reply_in e)) (λ e. differ 5 0 refl (ap (λ s. reply_in (Some s)) e)) t.0.1

pub returns-clause-oneway_is_answered : goal.returns-clause-oneway_is_answered
returns-clause-oneway_is_answered c = λ worker t. ⊎_elim (λ e. differ 0 7 refl (ap reply_in e)) (λ e. differ 7 0 refl (ap (λ s. reply_in (Some s)) e)) t.0.1

pub returns-clause-call_is_not_answered : goal.returns-clause-call_is_not_answered
returns-clause-call_is_not_answered c = λ worker t. ⊎_elim (λ e. differ 7 0 refl (ap reply_in e)) (λ e. differ 1 2 refl (ap outcome_kind e)) t.0.1
