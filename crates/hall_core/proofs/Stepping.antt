-- What a call that is applied does to a hall, as the machine's rule has it.
use Rattle.std.proofs.Common.{◌≡◌, ℕ, Bool, true, false, None, Some, Option, Result, Ok, Err, List, [], ◌∷◌, ◌++◌, option_map, refl, sym, ap, ◌∙◌, subst, inl, inr, arith}
use Rattle.std.specs.Prelude.{MatchResult, IfOk, is_err}
use Rattle.streams.specs.Cause.{HasCause}
use Rattle.host_model.specs.declared.key.Key.{Key}
use Rattle.host_model.specs.Journal.{after_call}
use Rattle.call_rules.specs.declared.call.Answer.{Answer}
use Rattle.call_rules.specs.PlainCalls.{PlainCall, PlainAnswer}
use Rattle.call_rules.specs.Answers.{plain_answer}
use Rattle.call_rules.specs.Entries.{CallEntry}
use Rattle.call_rules.specs.Handling.{ServiceState, handler_rules}
use Rattle.machine_model.specs.HallRule.{entry_under, TakesEffect, HallOperation, apply, HallAnswer, no_memory}
use Rattle.machine_model.specs.SeenHall.{MayHave, filled, SeenGives}
use Rattle.hall_core.specs.declared.operation.HallOp.{HallOp}
use Rattle.hall_core.specs.Meant.{ServedHall}
use Rattle.hall_core.specs.Asked.{operation_of}
use Rattle.hall_core.specs.Answered.{IsAnswerOf, answered_so}

-- a step of a hall with this view
abbrev Gives : ServedHall → HallOperation PlainCall → HallAnswer PlainAnswer → ServedHall → Type 0
Gives old op answer new = SeenGives handler_rules old op answer new

-- a hall is seen by its value
pub from_view : (view old : ServedHall) → view ≡ old → (op : HallOperation PlainCall) (answer : HallAnswer PlainAnswer) (new : ServedHall) → Gives view op answer new → Gives old op answer new
from_view view old same op answer new g = subst (λ (h : ServedHall). Gives h op answer new) same g

-- What is asked is seen as it was taken apart, by what holds of each hall
pub asked_so : (view old : ServedHall) → view ≡ old → (op was : HallOp) → op ≡ was → (answer : HallAnswer PlainAnswer) (new : ServedHall)
    → (P : ServedHall → Type 0) → ((hall : ServedHall) → P hall) → (P view → Gives view (operation_of was) answer new) → Gives old (operation_of op) answer new
asked_so view old same op was is answer new P each g =
    subst (λ (o : HallOp). Gives old (operation_of o) answer new) (sym is) (from_view view old same (operation_of was) answer new (g (each view)))

module _ (view : ServedHall) where
  -- a call for which there was no memory before it was answered
  pub not_answered : (key : Key) (call : PlainCall) (services : List ServiceState) (told : Option (List CallEntry)) (faults : ℕ)
      → view.broken ≡ false → services ≡ view.memories → told ≡ view.told → faults ≡ view.faults
      → Gives view (apply key call) no_memory (record view { memories = services; told = told; faults = faults })
  not_answered key call services told faults b s t f =
      subst (λ (p : List ServiceState × (Option (List CallEntry) × ℕ)). Gives view (apply key call) no_memory (record view { memories = p.0; told = p.1.0; faults = p.1.1 }))
      (λ i. (sym s i, (sym t i, sym f i)))
      (λ entries may. (entries, may, (view.faults, omega arith, (b, inl refl), refl)))

  -- what a journal tells once an entry is added
  abbrev entered_in : CallEntry → Option (List CallEntry)
  entered_in e = option_map (λ (es : List CallEntry). es ++ e ∷ []) view.told

  may_have : (e : CallEntry) (told : Option (List CallEntry)) (entries : List CallEntry) → MayHave told entries
      → MayHave (option_map (λ (es : List CallEntry). es ++ e ∷ []) told) (entries ++ e ∷ [])
  may_have e None entries may = tt
  may_have e (Some es) entries may = ap (λ (l : List CallEntry). l ++ e ∷ []) may

  -- a call that was answered: it is entered, or the journal failed
  pub answered_call : {U E F : Type 0} (key : Key) (call : PlainCall) (answer : PlainAnswer) (entered : Result U E) (copy : Result Answer F)
      (services : List ServiceState) (told : Option (List CallEntry)) (faults : ℕ) (broken : Bool)
      → view.broken ≡ false → IsAnswerOf view.memories call answer → services ≡ after_call handler_rules view.memories call
      → MatchResult entered (λ _. told ≡ entered_in (entry_under key call answer)) (λ _. told ≡ view.told)
      → MatchResult entered (λ _. broken ≡ false) (λ _. broken ≡ true) → HasCause view.faults faults entered → IfOk copy (λ c. plain_answer c ≡ answer)
      → Gives view (apply key call) (answered_so entered copy) (record view { memories = services; told = told; faults = faults; broken = broken })
  answered_call {U = U} {E = E} {F = F} key call answer entered copy services told faults broken b is moved tells breaks cause copies =
      go entered copy tells breaks cause copies
    where
      e : CallEntry
      e = entry_under key call answer

      target : ServedHall
      target = record view { memories = services; told = told; faults = faults; broken = broken }

      took : (entries : List CallEntry) → broken ≡ view.broken → TakesEffect handler_rules (filled view entries) key call answer faults (filled target (entries ++ e ∷ []))
      took entries stays = (is, (λ i. record (filled view entries) { journal = entries ++ e ∷ []; memories = moved i; faults = faults; broken = stays i }))

      go : (entered : Result U E) (copy : Result Answer F) → MatchResult entered (λ _. told ≡ entered_in e) (λ _. told ≡ view.told)
          → MatchResult entered (λ _. broken ≡ false) (λ _. broken ≡ true) → HasCause view.faults faults entered → IfOk copy (λ c. plain_answer c ≡ answer)
          → Gives view (apply key call) (answered_so entered copy) target
      go (Ok u) (Ok c) tells breaks cause copies = λ entries may. (
        entries ++ e ∷ [],
        subst (λ (t : Option (List CallEntry)). MayHave t (entries ++ e ∷ [])) (sym tells) (may_have e view.told entries may),
        (faults, cause.later, (b, subst (λ (a : PlainAnswer). TakesEffect handler_rules (filled view entries) key call a faults (filled target (entries ++ e ∷ []))) (sym copies) (took entries (breaks ∙ sym b))), cause.kept),
      )
      go (Ok u) (Err f) tells breaks cause copies = λ entries may. (
        entries ++ e ∷ [],
        subst (λ (t : Option (List CallEntry)). MayHave t (entries ++ e ∷ [])) (sym tells) (may_have e view.told entries may),
        (faults, cause.later, (b, inr (answer, took entries (breaks ∙ sym b))), cause.kept),
      )
      go (Err f) copy tells breaks cause copies = λ entries may. (
        entries,
        subst (λ (t : Option (List CallEntry)). MayHave t entries) (sym tells) may,
        (faults, cause.later, (b, cause.failed refl, (λ i. record (filled view entries) { memories = moved i; faults = faults; broken = breaks i })), tt),
      )

-- a hall breaks where its journal failed
pub breaks_with : {U E : Type 0} (entered : Result U E) (b : Bool) → b ≡ is_err entered → MatchResult entered (λ _. b ≡ false) (λ _. b ≡ true)
breaks_with (Ok u) b e = e
breaks_with (Err f) b e = e
