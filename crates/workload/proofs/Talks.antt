-- What is called and sent on a connection whose payloads are calls.
use Rattle.std.proofs.Common.{◌≡◌, ℕ, suc, ◌≤◌, false, if◌then◌else◌, Some, List, [], ◌∷◌, ◌++◌, map, length, refl, sym, ap, ◌∙◌, subst, arith, eq-eqb, ne_eqb}
use Rattle.std.specs.Prelude.{⊤}
use Rattle.std.specs.List.{flat_map, AllByRecursion}
use Rattle.host_model.specs.Journal.{JournalEntry}
use Rattle.host_model.specs.DeskRules.{DeskRules, Invoke}
use Rattle.host_model.specs.Conversation.{called_by, called, answer_at, replied, reply_for, sent, KeepsConnection, AllKeepConnection}
use Rattle.host_model.proofs.Lists.{nil-cons, cons_parts}

-- a payload that makes a call, which is answered so, and has this reply
pub record IsReplied {C A : Type 0} (d : DeskRules C A) (payload : List ℕ) (call : C) (answer : A) (reply : List ℕ) : Type 0 where
  pub decides : d.decide payload ≡ Invoke call
  pub speaks : d.silent call ≡ false
  pub replies : d.reply payload answer ≡ reply

module _ {C A : Type 0} (d : DeskRules C A) (payload : ℕ → List ℕ) (call : ℕ → C) (answer : ℕ → A) (reply : ℕ → List ℕ) where
  -- each of these frames is a call
  abbrev pub AreReplied : List ℕ → Type 0
  AreReplied ks = AllByRecursion (λ k. IsReplied d (payload k) (call k) (answer k) (reply k)) ks

  -- the calls of these frames, by their numbers
  abbrev numbered : ℕ → List ℕ → List (ℕ × C)
  numbered i [] = []
  numbered i (k ∷ ks) = (i, call k) ∷ numbered (suc i) ks

  -- these entries are of the calls of these frames, the first of which is number i
  abbrev pub Matches : ℕ → List (JournalEntry C A) → List ℕ → Type 0
  Matches i [] [] = ⊤
  Matches i (e ∷ es) (k ∷ ks) = (e.key.i ≡ i) × (e.call ≡ call k) × Matches (suc i) es ks
  Matches i _ _ = ⊥

  -- these entries have the answers of these frames
  abbrev pub Answers : List (JournalEntry C A) → List ℕ → Type 0
  Answers [] [] = ⊤
  Answers (e ∷ es) (k ∷ ks) = (e.answer ≡ answer k) × Answers es ks
  Answers _ _ = ⊥

  called_is : (i : ℕ) (ks : List ℕ) → AreReplied ks → called d i (map payload ks) ≡ numbered i ks
  called_is i [] all = refl
  called_is i (k ∷ ks) all =
      ap (λ x. called_by i x ++ called d (suc i) (map payload ks)) all.0.decides ∙ ap (λ r. (i, call k) ∷ r) (called_is (suc i) ks all.1)

  matched : (i : ℕ) (es : List (JournalEntry C A)) (ks : List ℕ) → map (λ e. (e.key.i, e.call)) es ≡ numbered i ks → Matches i es ks
  matched i [] [] e = tt
  matched i [] (k ∷ ks) e = absurd (nil-cons (i, call k) (numbered (suc i) ks) e)
  matched i (x ∷ es) [] e = absurd (nil-cons (x.key.i, x.call) (map (λ e. (e.key.i, e.call)) es) (sym e))
  matched i (x ∷ es) (k ∷ ks) e =
      let parts = cons_parts (x.key.i, x.call) (i, call k) (map (λ e. (e.key.i, e.call)) es) (numbered (suc i) ks) e in
      (ap (λ (q : ℕ × C). q.0) parts.0, ap (λ (q : ℕ × C). q.1) parts.0, matched (suc i) es ks parts.1)

  -- the entries of payloads that are done
  pub done_matches : (es : List (JournalEntry C A)) (ks : List ℕ) → AreReplied ks → map (λ e. (e.key.i, e.call)) es ≡ called d 0 (map payload ks) → Matches 0 es ks
  done_matches es ks all done = matched 0 es ks (done ∙ called_is 0 ks all)

  pub all_answered : (i : ℕ) (es : List (JournalEntry C A)) (ks : List ℕ) → Matches i es ks
      → AllByRecursion (λ (e : JournalEntry C A). (k : ℕ) → e.call ≡ call k → e.answer ≡ answer k) es → Answers es ks
  all_answered i [] [] m right = tt
  all_answered i [] (k ∷ ks) m right = absurd m
  all_answered i (e ∷ es) [] m right = absurd m
  all_answered i (e ∷ es) (k ∷ ks) m right = (right.0 k m.1, all_answered (suc i) es ks m.2 right.1)

  pub as_many : (i : ℕ) (es : List (JournalEntry C A)) (ks : List ℕ) → Matches i es ks → length es ≡ length ks
  as_many i [] [] m = refl
  as_many i [] (k ∷ ks) m = absurd m
  as_many i (e ∷ es) [] m = absurd m
  as_many i (e ∷ es) (k ∷ ks) m = ap suc (as_many (suc i) es ks m.2)

  sent_from : (whole : List (JournalEntry C A)) (i : ℕ) (es : List (JournalEntry C A)) (ks : List ℕ) → Matches i es ks → Answers es ks → AreReplied ks
      → ((j : ℕ) → i ≤ j → answer_at whole j ≡ answer_at es j) → sent d whole i (map payload ks) ≡ flat_map reply ks
  sent_from whole i [] [] m a all same = refl
  sent_from whole i [] (k ∷ ks) m a all same = absurd m
  sent_from whole i (e ∷ es) [] m a all same = absurd m
  sent_from whole i (e ∷ es) (k ∷ ks) m a all same =
      let here : answer_at whole i ≡ Some (answer k) =
      same i (omega arith) ∙ ap (λ b. if b then Some e.answer else answer_at es i) (eq-eqb e.key.i i m.0) ∙ ap (λ x. Some x) a.0 in
      let one : reply_for d (payload k) (d.decide (payload k)) (answer_at whole i) ≡ reply k =
      ap (λ x. reply_for d (payload k) x (answer_at whole i)) all.0.decides ∙ ap (replied d (payload k) (call k)) here
      ∙ ap (λ b. if b then [] else d.reply (payload k) (answer k)) all.0.speaks ∙ all.0.replies in
      let more : sent d whole (suc i) (map payload ks) ≡ flat_map reply ks =
      sent_from whole (suc i) es ks m.2 a.1 all.1 (λ j h.
      same j (omega arith)
      ∙ ap (λ b. if b then Some e.answer else answer_at es j) (ne_eqb e.key.i j (λ x. let at : e.key.i ≡ i = m.0 in let f : ⊥ = omega (arith, at, x) in f))) in
      (λ t. one t ++ more t)

  -- what is sent is the replies
  pub sent_is : (es : List (JournalEntry C A)) (ks : List ℕ) → Matches 0 es ks → Answers es ks → AreReplied ks → sent d es 0 (map payload ks) ≡ flat_map reply ks
  sent_is es ks m a all = sent_from es 0 es ks m a all (λ j h. refl)

  pub all_go_on : (ks : List ℕ) → AreReplied ks → AllKeepConnection d (map payload ks)
  all_go_on [] all = tt
  all_go_on (k ∷ ks) all = (subst KeepsConnection (sym all.0.decides) tt, all_go_on ks all.1)
