-- What a call comes to among services, and what a hall answers to it.
use Rattle.std.specs.Prelude.{◌≡◌, List, MatchOption, Result, Ok, Err, slice_get}
use Rattle.call_rules.specs.declared.call.Answer.{Answer}
use Rattle.call_rules.specs.Answers.{plain_answer}
use Rattle.call_rules.specs.PlainCalls.{PlainCall, PlainAnswer}
use Rattle.call_rules.specs.Handling.{ServiceState, handled}
use Rattle.machine_model.specs.HallRule.{HallAnswer, applied, no_memory, journal_fault}

-- the answer is the one of the call's service, which there is
abbrev pub IsAnswerOf : List ServiceState → PlainCall → PlainAnswer → Type 0
IsAnswerOf services call answer =
    MatchOption (slice_get services call.slot) ⊥ (λ service. answer ≡ (handled service call.method call.args).answer)

-- what is answered where the call was entered or not, and its answer copied or not
abbrev pub answered_so : {U E F : Type 0} → Result U E → Result Answer F → HallAnswer PlainAnswer
answered_so (Ok entered) (Ok copy) = applied (plain_answer copy)
answered_so (Ok entered) (Err lack) = no_memory
answered_so (Err fault) copy = journal_fault
