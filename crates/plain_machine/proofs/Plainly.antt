-- Calls, replies, memories and legal histories, computed from the front.
use Rattle.std.proofs.Common.{◌≡◌, ℕ, zero, suc, ◌+◌, ◌<◌, ◌≤◌, Bool, false, IsTrue, if◌then◌else◌, cond, Option, None, Some, MatchOption, List, [], ◌∷◌, ◌++◌, length, drop, get_or, slice_get, slice_set, map, refl, sym, ap, ◌∙◌, subst, arith, append_assoc, append-nil, eq-eqb, ne_eqb}
use Rattle.std.proofs.Math.Seq.{drop-length}
use Rattle.std.proofs.lemmas.Bool.{false≢true}
use Rattle.std.proofs.lemmas.List.{map-append}
use Rattle.plain_machine.specs.declared.journals.PlainEntry.{PlainEntry}
use Rattle.host_model.specs.Journal.{JournalEntry, ServiceRules, entries_of, after, after_call, IsAnswered, Legal}
use Rattle.host_model.specs.DeskRules.{DeskRules}
use Rattle.host_model.specs.Conversation.{called_by, called, answer_at, reply_for, sent}
use Rattle.plain_machine.specs.SeenDesk.{entry_seen, journal_seen}
use Rattle.plain_machine.proofs.Fronting.{next_of}

-- no entry before number i of these is of frame n
pub record Seeking {C A : Type 0} (entries : List (PlainEntry C A)) (n i : ℕ) : Type 0 where
  pub so_far : answer_at (journal_seen (drop i entries)) n ≡ answer_at (journal_seen entries) n

pub seek_on : {C A : Type 0} (entries : List (PlainEntry C A)) (n i : ℕ) (e : PlainEntry C A) → Seeking entries n i → i < length entries
    → e ≡ get_or entries i e → (e.key.i ≡ n → ⊥) → Seeking entries n (i + 1)
seek_on entries n i e w l is ne =
    record {
      so_far = ap (λ b. if b then Some e.answer else answer_at (journal_seen (drop (i + 1) entries)) n) (sym (ne_eqb e.key.i n ne))
          ∙ ap (λ es. answer_at (journal_seen es) n) (sym (next_of entries i e l is)) ∙ w.so_far;
    }

pub sought : {C A : Type 0} (entries : List (PlainEntry C A)) (n i : ℕ) (e : PlainEntry C A) → Seeking entries n i → i < length entries
    → e ≡ get_or entries i e → e.key.i ≡ n → Some e.answer ≡ answer_at (journal_seen entries) n
sought entries n i e w l is eq =
    ap (λ b. if b then Some e.answer else answer_at (journal_seen (drop (i + 1) entries)) n) (sym (eq-eqb e.key.i n eq))
    ∙ ap (λ es. answer_at (journal_seen es) n) (sym (next_of entries i e l is)) ∙ w.so_far

pub not_sought : {C A : Type 0} (entries : List (PlainEntry C A)) (n : ℕ) → Seeking entries n (length entries) → None ≡ answer_at (journal_seen entries) n
not_sought entries n w = ap (λ es. answer_at (journal_seen es) n) (sym (drop-length entries)) ∙ w.so_far

-- the entries of a connection so far, and those of the rest, are those of the whole
pub record Owning {C A : Type 0} (c : ℕ) (entries : List (PlainEntry C A)) (i : ℕ) (own : List (PlainEntry C A)) : Type 0 where
  pub so_far : journal_seen own ++ entries_of c (journal_seen (drop i entries)) ≡ entries_of c (journal_seen entries)

pub own_on : {C A : Type 0} (c : ℕ) (entries : List (PlainEntry C A)) (i : ℕ) (e : PlainEntry C A) (own next : List (PlainEntry C A))
    → Owning c entries i own → i < length entries → e ≡ get_or entries i e → e.key.c ≡ c → next ≡ own ++ e ∷ [] → Owning c entries (i + 1) next
own_on {C} {A} c entries i e own next w l is t n =
    let rest : List (JournalEntry C A) = entries_of c (journal_seen (drop (i + 1) entries)) in
    record {
      so_far = ap (λ s. s ++ rest) (ap journal_seen n ∙ map-append entry_seen own (e ∷ [])) ∙ append_assoc (journal_seen own) (entry_seen e ∷ []) rest
          ∙ ap (λ b. journal_seen own ++ cond b (entry_seen e ∷ rest) rest) (sym (eq-eqb e.key.c c t))
          ∙ ap (λ es. journal_seen own ++ entries_of c (journal_seen es)) (sym (next_of entries i e l is)) ∙ w.so_far;
    }

pub own_past : {C A : Type 0} (c : ℕ) (entries : List (PlainEntry C A)) (i : ℕ) (e : PlainEntry C A) (own next : List (PlainEntry C A))
    → Owning c entries i own → i < length entries → e ≡ get_or entries i e → (e.key.c ≡ c → ⊥) → next ≡ own → Owning c entries (i + 1) next
own_past {C} {A} c entries i e own next w l is t n =
    let rest : List (JournalEntry C A) = entries_of c (journal_seen (drop (i + 1) entries)) in
    record {
      so_far = ap (λ s. journal_seen s ++ rest) n
          ∙ ap (λ b. journal_seen own ++ cond b (entry_seen e ∷ rest) rest) (sym (ne_eqb e.key.c c t))
          ∙ ap (λ es. journal_seen own ++ entries_of c (journal_seen es)) (sym (next_of entries i e l is)) ∙ w.so_far;
    }

pub own_all : {C A : Type 0} (c : ℕ) (entries : List (PlainEntry C A)) (own : List (PlainEntry C A)) → Owning c entries (length entries) own
    → journal_seen own ≡ entries_of c (journal_seen entries)
own_all c entries own w =
    sym (append-nil (journal_seen own)) ∙ ap (λ es. journal_seen own ++ entries_of c (journal_seen es)) (sym (drop-length entries)) ∙ w.so_far

-- what stands at a place, and that nothing stands behind the end
at_place : {X : Type 0} (xs : List X) (i : ℕ) (x : X) → i < length xs → x ≡ get_or xs i x → slice_get xs i ≡ Some x
at_place [] i x l is = absurd (let g : ⊥ = omega arith in g)
at_place (y ∷ xs) zero x l is = ap Some (sym is)
at_place (y ∷ xs) (suc i) x l is = at_place xs i x (omega arith) is

at_no_place : {X : Type 0} (xs : List X) (i : ℕ) → length xs ≤ i → slice_get xs i ≡ None
at_no_place [] i l = refl
at_no_place (y ∷ xs) zero l = absurd (let g : ⊥ = omega arith in g)
at_no_place (y ∷ xs) (suc i) l = at_no_place xs i (omega arith)

module _ {C A M : Type 0} (r : ServiceRules C A M) (memories : List M) (slot : ℕ) where
  abbrev after_at : C → Option M → List M
  after_at call m = elim m [ None ↦ memories | Some x ↦ slice_set memories (r.slot call) (r.rule call x).1 ]

  -- the memories after a call whose service is there, and after one whose service is not
  pub after_served : (call : C) (m : M) (out : A × M) → slot ≡ r.slot call → slot < length memories → m ≡ get_or memories slot m → out ≡ r.rule call m
      → slice_set memories slot out.1 ≡ after_call r memories call
  after_served call m out is l at o =
      (λ i. slice_set memories (is i) (o i).1) ∙ ap (after_at call) (sym (at_place memories slot m l at)) ∙ ap (λ s. after_at call (slice_get memories s)) is

  pub after_unserved : (call : C) → slot ≡ r.slot call → length memories ≤ slot → memories ≡ after_call r memories call
  after_unserved call is l = ap (after_at call) (sym (at_no_place memories slot l)) ∙ ap (λ s. after_at call (slice_get memories s)) is

  abbrev AnsweredAt : JournalEntry C A → Option M → Type 0
  AnsweredAt e m = MatchOption m ⊥ (λ x. e.answer ≡ (r.rule e.call x).0)

  -- an answer of a service that is there, and of one that is not
  pub answered_there : (e : JournalEntry C A) (m : M) (out : A × M) (same : Bool) → slot ≡ r.slot e.call → slot < length memories → m ≡ get_or memories slot m
      → out ≡ r.rule e.call m → (IsTrue same → e.answer ≡ out.0) × (e.answer ≡ out.0 → IsTrue same)
      → (IsTrue same → IsAnswered r memories e) × (IsAnswered r memories e → IsTrue same)
  answered_there e m out same is l at o h =
      let k : slice_get memories (r.slot e.call) ≡ Some m = ap (slice_get memories) (sym is) ∙ at_place memories slot m l at in
      (λ t. subst (AnsweredAt e) (sym k) (h.0 t ∙ ap (λ p. p.0) o), λ a. h.1 (subst (AnsweredAt e) k a ∙ sym (ap (λ p. p.0) o)))

  pub answered_nowhere : (e : JournalEntry C A) → slot ≡ r.slot e.call → length memories ≤ slot
      → (IsTrue false → IsAnswered r memories e) × (IsAnswered r memories e → IsTrue false)
  answered_nowhere e is l =
      let k : slice_get memories (r.slot e.call) ≡ None = ap (slice_get memories) (sym is) ∙ at_no_place memories slot l in
      (λ t. absurd (false≢true t), λ a. absurd (subst (AnsweredAt e) k a))

-- the rest of a journal leaves, after these memories, what the whole leaves after the first ones
pub record Leaving {C A M : Type 0} (r : ServiceRules C A M) (first : List M) (entries : List (PlainEntry C A)) (i : ℕ) (memories : List M) : Type 0 where
  pub so_far : after r memories (journal_seen (drop i entries)) ≡ after r first (journal_seen entries)

pub leave_on : {C A M : Type 0} (r : ServiceRules C A M) (first : List M) (entries : List (PlainEntry C A)) (i : ℕ) (e : PlainEntry C A) (memories next : List M)
    → Leaving r first entries i memories → i < length entries → e ≡ get_or entries i e → next ≡ after_call r memories e.call
    → Leaving r first entries (i + 1) next
leave_on r first entries i e memories next w l is n =
    record {
      so_far = ap (λ ms. after r ms (journal_seen (drop (i + 1) entries))) n
          ∙ ap (λ es. after r memories (journal_seen es)) (sym (next_of entries i e l is)) ∙ w.so_far;
    }

pub left_all : {C A M : Type 0} (r : ServiceRules C A M) (first : List M) (entries : List (PlainEntry C A)) (memories : List M)
    → Leaving r first entries (length entries) memories → memories ≡ after r first (journal_seen entries)
left_all r first entries memories w = ap (λ es. after r memories (journal_seen es)) (sym (drop-length entries)) ∙ w.so_far

-- a journal is legal where its rest is legal from these memories
pub record Going {C A M : Type 0} (r : ServiceRules C A M) (first : List M) (entries : List (PlainEntry C A)) (i : ℕ) (memories : List M) : Type 0 where
  pub forth : Legal r memories (journal_seen (drop i entries)) → Legal r first (journal_seen entries)
  pub back : Legal r first (journal_seen entries) → Legal r memories (journal_seen (drop i entries))

pub go_on : {C A M : Type 0} (r : ServiceRules C A M) (first : List M) (entries : List (PlainEntry C A)) (i : ℕ) (e : PlainEntry C A) (memories next : List M)
    → Going r first entries i memories → i < length entries → e ≡ get_or entries i e → IsAnswered r memories (entry_seen e)
    → next ≡ after_call r memories e.call → Going r first entries (i + 1) next
go_on r first entries i e memories next w l is a n =
    record {
      forth = λ h. w.forth (subst (λ es. Legal r memories (journal_seen es)) (sym (next_of entries i e l is))
          (a, subst (λ ms. Legal r ms (journal_seen (drop (i + 1) entries))) n h));
      back = λ h. subst (λ ms. Legal r ms (journal_seen (drop (i + 1) entries))) (sym n)
          (subst (λ es. Legal r memories (journal_seen es)) (next_of entries i e l is) (w.back h)).1;
    }

pub gone : {C A M : Type 0} (r : ServiceRules C A M) (first : List M) (entries : List (PlainEntry C A)) (memories : List M)
    → Going r first entries (length entries) memories → Legal r first (journal_seen entries)
gone r first entries memories w = w.forth (subst (λ es. Legal r memories (journal_seen es)) (sym (drop-length entries)) tt)

pub not_gone : {C A M : Type 0} (r : ServiceRules C A M) (first : List M) (entries : List (PlainEntry C A)) (i : ℕ) (e : PlainEntry C A) (memories : List M)
    → Going r first entries i memories → i < length entries → e ≡ get_or entries i e → (IsAnswered r memories (entry_seen e) → ⊥)
    → Legal r first (journal_seen entries) → ⊥
not_gone r first entries i e memories w l is a h =
    a (subst (λ es. Legal r memories (journal_seen es)) (next_of entries i e l is) (w.back h)).0

module _ {C A X : Type 0} (d : DeskRules C A) (payloads : List X) (bytes : X → List ℕ) where
  -- the calls so far, and those of the further payloads, are the calls of all
  pub record Calling (i : ℕ) (out : List (ℕ × C)) : Type 0 where
    pub so_far : out ++ called d i (map bytes (drop i payloads)) ≡ called d 0 (map bytes payloads)

  pub call_on : (i : ℕ) (p : X) (out next : List (ℕ × C)) → Calling i out → i < length payloads → p ≡ get_or payloads i p
      → next ≡ out ++ called_by i (d.decide (bytes p)) → Calling (i + 1) next
  call_on i p out next w l is e =
      let n : i + 1 ≡ suc i = omega arith in
      let rest : List (ℕ × C) = called d (suc i) (map bytes (drop (i + 1) payloads)) in
      record {
        so_far = ap (λ k. next ++ called d k (map bytes (drop (i + 1) payloads))) n ∙ ap (λ t. t ++ rest) e
            ∙ append_assoc out (called_by i (d.decide (bytes p))) rest
            ∙ ap (λ ps. out ++ called d i (map bytes ps)) (sym (next_of payloads i p l is)) ∙ w.so_far;
      }

  pub called_all : (out : List (ℕ × C)) → Calling (length payloads) out → out ≡ called d 0 (map bytes payloads)
  called_all out w = sym (append-nil out) ∙ ap (λ ps. out ++ called d (length payloads) (map bytes ps)) (sym (drop-length payloads)) ∙ w.so_far

  -- what was sent so far, and what is sent to the further payloads, are what is sent to all
  pub record Sending (es : List (JournalEntry C A)) (i : ℕ) (out : List ℕ) : Type 0 where
    pub so_far : out ++ sent d es i (map bytes (drop i payloads)) ≡ sent d es 0 (map bytes payloads)

  pub send_on : (es : List (JournalEntry C A)) (i : ℕ) (p : X) (out next : List ℕ) → Sending es i out → i < length payloads → p ≡ get_or payloads i p
      → next ≡ out ++ reply_for d (bytes p) (d.decide (bytes p)) (answer_at es i) → Sending es (i + 1) next
  send_on es i p out next w l is e =
      let n : i + 1 ≡ suc i = omega arith in
      let rest : List ℕ = sent d es (suc i) (map bytes (drop (i + 1) payloads)) in
      record {
        so_far = ap (λ k. next ++ sent d es k (map bytes (drop (i + 1) payloads))) n ∙ ap (λ t. t ++ rest) e
            ∙ append_assoc out (reply_for d (bytes p) (d.decide (bytes p)) (answer_at es i)) rest
            ∙ ap (λ ps. out ++ sent d es i (map bytes ps)) (sym (next_of payloads i p l is)) ∙ w.so_far;
      }

  pub sent_all : (es : List (JournalEntry C A)) (out : List ℕ) → Sending es (length payloads) out → out ≡ sent d es 0 (map bytes payloads)
  sent_all es out w = sym (append-nil out) ∙ ap (λ ps. out ++ sent d es (length payloads) (map bytes ps)) (sym (drop-length payloads)) ∙ w.so_far
