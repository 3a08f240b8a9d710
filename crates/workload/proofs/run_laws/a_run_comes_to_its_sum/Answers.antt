use Rattle.std.proofs.Common.{◌+◌, refl, arith}
use Rattle.call_rules.specs.Desks.{desk_rules}
use Rattle.call_model.specs.Desk.{desk_of}
use Rattle.workload.specs.Numbers.{number_at}
use Rattle.workload.specs.ExpectedRun.{frame_answer}
use Rattle.workload.proofs.Histories.{number_small}
use Rattle.workload.proofs.Totals.{comes_to}
use Rattle.workload.proofs.run_laws.a_run_comes_to_its_sum.Goals as goal

pub returns : goal.returns
returns c = λ office services budget seed size tape journal causes some few is small has headline fed memory goes.
    comes_to seed size some (desk_rules (desk_of office)) budget services tape journal causes small is.room (λ n bytes one within less. c.less_than_a_frame.ensures.payload office.max_frame n bytes small one within less)
    (λ k x m h. c.frames_are_answered.ensures k x m h) has
    (λ k h. record {
      decides = c.calls_are_decided.ensures.decided office k (number_at seed (k + 1)) is (omega (arith, few, h)) (number_small seed k);
      speaks = refl;
      replies = c.calls_are_decided.ensures.replied office k (number_at seed (k + 1)) (frame_answer seed k) is (omega (arith, few, h)) (number_small seed k);
    }) headline fed memory goes
