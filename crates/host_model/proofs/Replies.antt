-- What payloads ask and what they are sent, as payloads and entries are added.
use Rattle.std.proofs.Common.{◌≡◌, ℕ, suc, ◌+◌, ◌<◌, ◌≤◌, ◌⊎◌, ◌==◌, if◌then◌else◌, Option, None, Some, List, [], ◌∷◌, ◌++◌, map, length, take, refl, sym, ap, ap₂, ◌∙◌, subst, inl, inr, arith, append_assoc, append-nil, length-append, ne_eqb}
use Rattle.std.specs.List.{AllByRecursion}
use Rattle.std.proofs.lemmas.List.{map_push}
use Rattle.host_model.specs.Journal.{JournalEntry}
use Rattle.host_model.specs.DeskRules.{DeskRules, DeskDecision, Close, Silent, Reply, Invoke}
use Rattle.host_model.specs.Conversation.{called_by, called, Done, answer_at, reply_for, sent, IsPrefix, but_last}
use Rattle.host_model.specs.World.{NeedsNoCall}
use Rattle.host_model.proofs.Lists.{all-append, take_behind, ends, but_last-push}

module _ {C A : Type 0} (d : DeskRules C A) where
  -- what is sent to payloads is sent to those in front and then to those behind
  pub sent-append : (es : List (JournalEntry C A)) (i : ℕ) (ps qs : List (List ℕ)) → sent d es i (ps ++ qs) ≡ sent d es i ps ++ sent d es (i + length ps) qs
  sent-append es i [] qs = ap (λ k. sent d es k qs) (let e : i ≡ i + 0 = omega arith in e)
  sent-append es i (p ∷ ps) qs =
      ap (λ r. reply_for d p (d.decide p) (answer_at es i) ++ r)
      (sent-append es (suc i) ps qs ∙ ap (λ k. sent d es (suc i) ps ++ sent d es k qs) (let e : suc i + length ps ≡ i + suc (length ps) = omega arith in e))
      ∙ sym (append_assoc (reply_for d p (d.decide p) (answer_at es i)) (sent d es (suc i) ps) (sent d es (i + suc (length ps)) qs))

  -- the last payload is sent its reply
  pub sent-push : (es : List (JournalEntry C A)) (ps : List (List ℕ)) (p : List ℕ)
      → sent d es 0 (ps ++ p ∷ []) ≡ sent d es 0 ps ++ reply_for d p (d.decide p) (answer_at es (length ps))
  sent-push es ps p =
      sent-append es 0 ps (p ∷ [])
      ∙ ap (λ r. sent d es 0 ps ++ r)
      (append-nil (reply_for d p (d.decide p) (answer_at es (0 + length ps)))
      ∙ ap (λ k. reply_for d p (d.decide p) (answer_at es k)) (let e : 0 + length ps ≡ length ps = omega arith in e))

  called-append : (i : ℕ) (ps qs : List (List ℕ)) → called d i (ps ++ qs) ≡ called d i ps ++ called d (i + length ps) qs
  called-append i [] qs = ap (λ k. called d k qs) (let e : i ≡ i + 0 = omega arith in e)
  called-append i (p ∷ ps) qs =
      ap (λ r. called_by i (d.decide p) ++ r)
      (called-append (suc i) ps qs ∙ ap (λ k. called d (suc i) ps ++ called d k qs) (let e : suc i + length ps ≡ i + suc (length ps) = omega arith in e))
      ∙ sym (append_assoc (called_by i (d.decide p)) (called d (suc i) ps) (called d (i + suc (length ps)) qs))

  called-push : (ps : List (List ℕ)) (p : List ℕ) → called d 0 (ps ++ p ∷ []) ≡ called d 0 ps ++ called_by (length ps) (d.decide p)
  called-push ps p =
      called-append 0 ps (p ∷ [])
      ∙ ap (λ r. called d 0 ps ++ r)
      (append-nil (called_by (0 + length ps) (d.decide p)) ∙ ap (λ k. called_by k (d.decide p)) (let e : 0 + length ps ≡ length ps = omega arith in e))

  -- a payload that asks for no call leaves the entries done
  pub done_uncalled : (es : List (JournalEntry C A)) (ps : List (List ℕ)) (p : List ℕ) → called_by (length ps) (d.decide p) ≡ [] → Done d es ps → Done d es (ps ++ p ∷ [])
  done_uncalled es ps p none e = e ∙ sym (called-push ps p ∙ ap (λ r. called d 0 ps ++ r) none ∙ append-nil (called d 0 ps))

  -- the entry of the last payload's call makes them done
  pub done_called : (es : List (JournalEntry C A)) (e : JournalEntry C A) (ps : List (List ℕ)) (p : List ℕ) → d.decide p ≡ Invoke e.call → e.key.i ≡ length ps
      → Done d es ps → Done d (es ++ e ∷ []) (ps ++ p ∷ [])
  done_called es e ps p asks number done =
      map_push (λ x. (x.key.i, x.call)) es e
      ∙ (λ i. done i ++ (number i, e.call) ∷ [])
      ∙ ap (λ r. called d 0 ps ++ called_by (length ps) r) (sym asks)
      ∙ sym (called-push ps p)

  numbers_by : (n i : ℕ) (decision : DeskDecision C) → i < n → AllByRecursion (λ (q : ℕ × C). q.0 < n) (called_by i decision)
  numbers_by n i (Close fault) l = tt
  numbers_by n i Silent l = tt
  numbers_by n i (Reply reply) l = tt
  numbers_by n i (Invoke call) l = (l, tt)

  numbers_called : (n i : ℕ) (ps : List (List ℕ)) → i + length ps ≤ n → AllByRecursion (λ (q : ℕ × C). q.0 < n) (called d i ps)
  numbers_called n i [] l = tt
  numbers_called n i (p ∷ ps) l =
      all-append (λ (q : ℕ × C). q.0 < n) (called_by i (d.decide p)) (called d (suc i) ps) (numbers_by n i (d.decide p) (omega arith))
      (numbers_called n (suc i) ps (omega arith))

  numbers_mapped : (n : ℕ) (es : List (JournalEntry C A)) → AllByRecursion (λ (q : ℕ × C). q.0 < n) (map (λ e. (e.key.i, e.call)) es) → AllByRecursion (λ (e : JournalEntry C A). e.key.i < n) es
  numbers_mapped n [] a = tt
  numbers_mapped n (e ∷ es) a = (a.0, numbers_mapped n es a.1)

  -- the entries that are done have the payloads' numbers
  pub numbers_done : (n : ℕ) (es : List (JournalEntry C A)) (ps : List (List ℕ)) → length ps ≤ n → Done d es ps → AllByRecursion (λ (e : JournalEntry C A). e.key.i < n) es
  numbers_done n es ps l done = numbers_mapped n es (subst (AllByRecursion (λ (q : ℕ × C). q.0 < n)) (sym done) (numbers_called n 0 ps (omega arith)))

  -- a new entry answers no earlier number
  answer_kept : (es : List (JournalEntry C A)) (e : JournalEntry C A) (i : ℕ) → i < e.key.i → answer_at (es ++ e ∷ []) i ≡ answer_at es i
  answer_kept [] e i l = ap (λ b. if b then Some e.answer else None) (ne_eqb e.key.i i (λ x. let f : ⊥ = omega arith in f))
  answer_kept (x ∷ es) e i l = ap (λ r. if x.key.i == i then Some x.answer else r) (answer_kept es e i l)

  kept_from : (es : List (JournalEntry C A)) (e : JournalEntry C A) (i : ℕ) (ps : List (List ℕ)) → i + length ps ≤ e.key.i → sent d (es ++ e ∷ []) i ps ≡ sent d es i ps
  kept_from es e i [] l = refl
  kept_from es e i (p ∷ ps) l =
      ap₂ (λ a r. reply_for d p (d.decide p) a ++ r) (answer_kept es e i (omega arith)) (kept_from es e (suc i) ps (omega arith))

  -- nor does it change what the payloads before it are sent
  pub sent_kept : (es : List (JournalEntry C A)) (e : JournalEntry C A) (ps : List (List ℕ)) → length ps ≤ e.key.i → sent d (es ++ e ∷ []) 0 ps ≡ sent d es 0 ps
  sent_kept es e ps l = kept_from es e 0 ps (omega arith)

  -- a reply without a call doesn't depend on the answer
  pub reply_uncalled : (p : List ℕ) (decision : DeskDecision C) (answer : Option A) → NeedsNoCall decision → reply_for d p decision None ≡ reply_for d p decision answer
  reply_uncalled p (Close fault) answer n = absurd n
  reply_uncalled p Silent answer n = refl
  reply_uncalled p (Reply reply) answer n = refl
  reply_uncalled p (Invoke call) answer n = absurd n

  pub called_by-uncalled : (i : ℕ) (decision : DeskDecision C) → NeedsNoCall decision → called_by i decision ≡ []
  called_by-uncalled i (Close fault) n = absurd n
  called_by-uncalled i Silent n = refl
  called_by-uncalled i (Reply reply) n = refl
  called_by-uncalled i (Invoke call) n = absurd n

  -- the payloads in front are sent no more bytes than all
  pub sent_front : (es : List (JournalEntry C A)) (n : ℕ) (ps : List (List ℕ)) (p : List ℕ) → length ps ≤ n
      → length (sent d es 0 ps) ≤ length (sent d es 0 (take n (ps ++ p ∷ [])))
  sent_front es n ps p l =
      let t : (rs : List (List ℕ)) × (take n (ps ++ p ∷ []) ≡ ps ++ rs) = take_behind n ps (p ∷ []) l in
      let e : sent d es 0 (take n (ps ++ p ∷ [])) ≡ sent d es 0 ps ++ sent d es (0 + length ps) t.0 = ap (sent d es 0) t.1 ∙ sent-append es 0 ps t.0 in
      let k : length (sent d es 0 (take n (ps ++ p ∷ []))) ≡ length (sent d es 0 ps) + length (sent d es (0 + length ps) t.0) =
      ap length e ∙ length-append (sent d es 0 ps) (sent d es (0 + length ps) t.0) in
      omega arith

  -- what the payloads but the last are sent begins what all are sent
  pub sent_but_last : (es : List (JournalEntry C A)) (ps : List (List ℕ)) → IsPrefix (sent d es 0 (but_last ps)) (sent d es 0 ps)
  sent_but_last es ps = go (ends ps)
    where
      go : (ps ≡ []) ⊎ ((qs : List (List ℕ)) × (q : List ℕ) × (ps ≡ qs ++ q ∷ [])) → IsPrefix (sent d es 0 (but_last ps)) (sent d es 0 ps)
      go (inl e) = subst (λ r. IsPrefix (sent d es 0 (but_last r)) (sent d es 0 r)) (sym e) ([], refl)
      go (inr t) =
          subst (λ r. IsPrefix (sent d es 0 (but_last r)) (sent d es 0 r)) (sym t.2)
          (reply_for d t.1 (d.decide t.1) (answer_at es (length t.0)), sent-push es t.0 t.1 ∙ ap (λ r. sent d es 0 r ++ reply_for d t.1 (d.decide t.1) (answer_at es (length t.0))) (sym (but_last-push t.0 t.1)))
