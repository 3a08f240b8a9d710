-- In a legal history the calls of a workload's frames have the calculator's answers.
use Rattle.std.proofs.Common.{◌≡◌, ℕ, zero, suc, ◌+◌, ◌*◌, ◌^◌, ◌<◌, Option, Some, None, List, [], ◌∷◌, refl, sym, ap, ◌∙◌, subst, arith, add-one}
use Rattle.std.specs.Prelude.{MatchOption, slice_get, slice_set}
use Rattle.std.specs.List.{AllByRecursion}
use Rattle.std.proofs.Math.Nat.{mod-lt}
use Rattle.std.proofs.lemmas.Option.{same_Some}
use Rattle.thrift_value.specs.Tree.{Tree, of_i32}
use Rattle.host_model.specs.Journal.{after_call, IsAnswered, Legal}
use Rattle.call_rules.specs.declared.kind.Kind.TheVariants.{Calculator}
use Rattle.call_rules.specs.PlainCalls.{PlainCall, success}
use Rattle.call_rules.specs.CalculatorRule.{calculator_rule}
use Rattle.call_rules.specs.Entries.{CallEntry}
use Rattle.call_rules.specs.Handling.{ServiceState, kind_rule, service_after, handler_rules}
use Rattle.workload.specs.Numbers.{number_at}
use Rattle.workload.specs.CallFrames.{arguments_by}
use Rattle.workload.specs.ExpectedRun.{method_at, frame_answer_by}
use Rattle.workload.specs.Calls.{call_in_load, answer_in_load}
use Rattle.workload.specs.Summed.{HasCalculator}

-- what the calculator answers to frames
abbrev pub AnswersFrames : Type 0
AnswersFrames = (k x : ℕ) (memory : Tree) → x < 2 ^ 64 → (calculator_rule memory (method_at k) (arguments_by k x)).answer ≡ success (of_i32 (frame_answer_by k x))

pub number_small : (seed k : ℕ) → number_at seed (k + 1) < 2 ^ 64
number_small seed k = subst (λ n. number_at seed n < 2 ^ 64) (sym (add-one k)) (mod-lt (number_at seed k * 6364136223846793005 + 1442695040888963407) (omega arith))

-- an entry of the call of a frame has its answer
abbrev pub IsRight : ℕ → CallEntry → Type 0
IsRight seed e = (k : ℕ) → e.call ≡ call_in_load seed k → e.answer ≡ answer_in_load seed k

set_keeps : (memories : List ServiceState) (slot : ℕ) (m next : ServiceState) → slice_get memories slot ≡ Some m → next.kind ≡ m.kind
    → HasCalculator memories → HasCalculator (slice_set memories slot next)
set_keeps [] slot m next is same has = absurd has
set_keeps (x ∷ memories) zero m next is same has = same ∙ ap (λ (s : ServiceState). s.kind) (sym (same_Some x m is)) ∙ has
set_keeps (x ∷ memories) (suc slot) m next is same has = has

keeps : (memories : List ServiceState) (call : PlainCall) → HasCalculator memories → HasCalculator (after_call handler_rules memories call)
keeps memories call has = go (slice_get memories call.slot) refl
  where
    go : (o : Option ServiceState) → slice_get memories call.slot ≡ o
        → HasCalculator (elim o [ None ↦ memories | Some m ↦ slice_set memories call.slot (service_after m call.method call.args) ])
    go None is = has
    go (Some m) is = set_keeps memories call.slot m (service_after m call.method call.args) is refl has

module _ (seed : ℕ) (answers : AnswersFrames) where
  by_kind : (service : ServiceState) (k : ℕ) → service.kind ≡ Calculator → (handler_rules.rule (call_in_load seed k) service).0 ≡ answer_in_load seed k
  by_kind service k is =
      ap (λ kind. (kind_rule kind service.memory (method_at k) (arguments_by k (number_at seed (k + 1)))).answer) is
      ∙ answers k (number_at seed (k + 1)) service.memory (number_small seed k)

  right_of : (e : CallEntry) (o : Option ServiceState) → MatchOption o ⊥ (λ (s : ServiceState). s.kind ≡ Calculator)
      → MatchOption o ⊥ (λ (s : ServiceState). e.answer ≡ (handler_rules.rule e.call s).0) → IsRight seed e
  right_of e None has is = absurd has
  right_of e (Some s) has is = λ k same. is ∙ ap (λ (c : PlainCall). (handler_rules.rule c s).0) same ∙ by_kind s k has

  one_right : (memories : List ServiceState) (e : CallEntry) → HasCalculator memories → IsAnswered handler_rules memories e → IsRight seed e
  one_right memories e has is = λ k same.
      right_of e (slice_get memories 0) has
      (subst (λ (c : PlainCall). MatchOption (slice_get memories c.slot) ⊥ (λ (s : ServiceState). e.answer ≡ (handler_rules.rule e.call s).0)) same is) k same

  pub all_right : (memories : List ServiceState) (journal : List CallEntry) → HasCalculator memories → Legal handler_rules memories journal
      → AllByRecursion (IsRight seed) journal
  all_right memories [] has legal = tt
  all_right memories (e ∷ es) has legal =
      (one_right memories e has legal.0, all_right (after_call handler_rules memories e.call) es (keeps memories e.call has) legal.1)
