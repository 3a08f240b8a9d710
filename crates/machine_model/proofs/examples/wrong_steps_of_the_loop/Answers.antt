use Rattle.std.proofs.Common.{refl, ◌+◌, ◌<◌, ◌≤◌, [], ap, arith, length}
use Rattle.machine_model.specs.Loop.{Loop}
use Rattle.machine_model.proofs.WrongSteps.{differ, some_list, first_in}
use Rattle.machine_model.proofs.examples.wrong_steps_of_the_loop.Goals as goal

pub returns-clause-one_too_many_open : goal.returns-clause-one_too_many_open
returns-clause-one_too_many_open c = λ new t. let f : 1024 < 1024 = t.0 in let g : ⊥ = omega arith in g

pub returns-clause-read_while_a_reply_is_unwritten : goal.returns-clause-read_while_a_reply_is_unwritten
returns-clause-read_while_a_reply_is_unwritten c = λ new t. some_list 5 [] t.2.1

pub returns-clause-read_while_a_payload_is_under_way : goal.returns-clause-read_while_a_payload_is_under_way
returns-clause-read_while_a_payload_is_under_way c = λ new t. differ 0 1 refl (t.2.0)

pub returns-clause-read_past_the_size : goal.returns-clause-read_past_the_size
returns-clause-read_past_the_size c = λ new t. let f : 0 + 5 ≤ 4 = t.4 (omega arith) in let g : ⊥ = omega arith in g

pub returns-clause-written_without_a_reply : goal.returns-clause-written_without_a_reply
returns-clause-written_without_a_reply c = λ new t. let f : 1 ≤ 0 = t.2 in let g : ⊥ = omega arith in g

pub returns-clause-ended_while_a_payload_is_under_way : goal.returns-clause-ended_while_a_payload_is_under_way
returns-clause-ended_while_a_payload_is_under_way c = λ new t. differ 0 1 refl (t.1.0)

pub returns-clause-given_up_as_at_its_end : goal.returns-clause-given_up_as_at_its_end
returns-clause-given_up_as_at_its_end c = λ new t. t.1

pub returns-clause-given_up_without_its_mark : goal.returns-clause-given_up_without_its_mark
returns-clause-given_up_without_its_mark c = λ t. differ 0 1 refl (ap (λ (l : Loop). length l.tape) t.2)

pub returns-clause-refused_without_its_mark : goal.returns-clause-refused_without_its_mark
returns-clause-refused_without_its_mark c = λ t. differ 0 1 refl (ap (λ (l : Loop). length l.tape) t)

pub returns-clause-submitted_twice : goal.returns-clause-submitted_twice
returns-clause-submitted_twice c = λ new t. differ 0 1 refl (t.1)

pub returns-clause-submitted_with_another_number : goal.returns-clause-submitted_with_another_number
returns-clause-submitted_with_another_number c = λ new t. differ 1 0 refl (t.1)

pub returns-clause-submitted_with_another_payload : goal.returns-clause-submitted_with_another_payload
returns-clause-submitted_with_another_payload c = λ new t. differ 1 2 refl (ap first_in t.2)
