-- Workers whose calls are those of turns close the hall only where they were told that the journal failed.
use Rattle.std.proofs.Common.{◌≡◌, ◌≢◌, ℕ, ◌⊎◌, Bool, true, false, ◌||◌, ◌&&◌, cond, List, [], ◌∷◌, ◌++◌, map, refl, sym, ap, ◌∙◌, subst, inl, inr, ⊎_elim, eqb}
use Rattle.std.specs.List.{flat_map}
use Rattle.std.proofs.lemmas.Bool.{false≢true, or_left, or_right, or_cases, and_parts}
use Rattle.std.proofs.lemmas.List.Elements.{filter-append}
use Rattle.host_model.specs.DeskRules.{DeskRules}
use Rattle.call_history.specs.Calls.{calls_by}
use Rattle.call_history.specs.Laws.{calls_by-first}
use Rattle.machine_model.specs.HallRule.{HallOperation, HallAnswer, empty, is_closed, applied, no_memory, journal_fault, is_broken}
use Rattle.machine_model.specs.OwnCalls.{HallAsk}
use Rattle.machine_model.specs.Merge.{WorkerTurn, worked, worked_by_call, found_none, stopped, asked, AreTurns, op_with_answer, OfTurns}
use Rattle.machine_model.specs.Trouble.{tells_of_fault, is_close, any_fault_told, ClosesWhereTold}

module _ {C A : Type 0} where
  -- each Close among these stands behind an answer that tells of a fault, or one was told before
  abbrev closes_told : Bool → List (HallOperation C × HallAnswer A) → Bool
  closes_told told [] = true
  closes_told told (a ∷ asks) = cond (is_close a.0) told true && closes_told (tells_of_fault a.1 || told) asks

  closes_behind : (xs ys : List (HallAsk C A)) (e : HallAsk C A) (told : Bool) → closes_told told (map op_with_answer (xs ++ e ∷ ys)) ≡ true → is_close e.op ≡ true → (any_fault_told xs ≡ true) ⊎ (told ≡ true)
  closes_behind [] ys e told h is =
      let t : (cond (is_close e.op) told true ≡ true) × (closes_told (tells_of_fault e.reply || told) (map op_with_answer ys) ≡ true) = and_parts _ _ h in
      inr (ap (λ (b : Bool). cond b told true) (sym is) ∙ t.0)
  closes_behind (x ∷ xs) ys e told h is =
      let t : (cond (is_close x.op) told true ≡ true) × (closes_told (tells_of_fault x.reply || told) (map op_with_answer (xs ++ e ∷ ys)) ≡ true) = and_parts _ _ h in
      ⊎_elim (λ f. inl (or_right (tells_of_fault x.reply) (any_fault_told xs) f))
      (λ f. ⊎_elim (λ g. inl (or_left (tells_of_fault x.reply) (any_fault_told xs) g)) (λ g. inr g) (or_cases (tells_of_fault x.reply) told f))
      (closes_behind xs ys e (tells_of_fault x.reply || told) t.1 is)

  turns_told : (d : DeskRules C A) (turns : List (WorkerTurn C A)) → AreTurns d turns → closes_told false (flat_map asked turns) ≡ true
  turns_told d [] t = refl
  turns_told d (worked key payload settled ∷ turns) t = turns_told d turns t.1
  turns_told d (worked_by_call key payload call (applied answer) settled ∷ turns) t = turns_told d turns t.3
  turns_told d (worked_by_call key payload call no_memory settled ∷ turns) t = turns_told d turns t.3
  turns_told d (worked_by_call key payload call _ settled ∷ turns) t = absurd t.1
  turns_told d (found_none empty ∷ turns) t = turns_told d turns t.1
  turns_told d (found_none is_closed ∷ turns) t = turns_told d turns t.1
  turns_told d (found_none _ ∷ turns) t = absurd t.0
  turns_told d (stopped key payload call journal_fault ∷ turns) t = subst (λ ts. closes_told true (flat_map asked ts) ≡ true) (sym t.2) refl
  turns_told d (stopped key payload call is_broken ∷ turns) t = subst (λ ts. closes_told true (flat_map asked ts) ≡ true) (sym t.2) refl
  turns_told d (stopped key payload call _ ∷ turns) t = absurd t.1

  pub turns_close : (d : DeskRules C A) (asks : List (HallAsk C A)) → ((seat : ℕ) → seat ≢ 0 → OfTurns d (calls_by seat asks)) → ClosesWhereTold asks
  turns_close d asks all front back e is closes other =
      let own : calls_by e.seat asks ≡ calls_by e.seat front ++ e ∷ calls_by e.seat back =
      ap (calls_by e.seat) is ∙ filter-append (λ (x : HallAsk C A). eqb x.seat e.seat) front (e ∷ back) ∙ ap (λ (l : List (HallAsk C A)). calls_by e.seat front ++ l) (calls_by-first e.seat e back refl) in
      let t : OfTurns d (calls_by e.seat asks) = all e.seat other in
      let told : closes_told false (map op_with_answer (calls_by e.seat front ++ e ∷ calls_by e.seat back)) ≡ true =
      ap (λ (l : List (HallAsk C A)). closes_told false (map op_with_answer l)) (sym own) ∙ ap (closes_told false) t.2 ∙ turns_told d t.0 t.1 in
      ⊎_elim (λ f. f) (λ f. absurd (false≢true f)) (closes_behind (calls_by e.seat front) (calls_by e.seat back) e false told closes)
