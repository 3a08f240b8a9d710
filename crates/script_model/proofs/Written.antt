-- Each write of a run, by the rules that are left at it; a write's fact stays true as the journal grows.
use Rattle.std.proofs.Common.{◌≡◌, ℕ, zero, suc, ◌+◌, ◌<◌, ◌⊎◌, inl, inr, Bool, true, false, cond, ◌==◌, if◌then◌else◌, Option, None, Some, List, [], ◌∷◌, ◌++◌, map, filter, length, take, drop, slice_get, refl, sym, ap, ap₂, ◌∙◌, subst, arith, append_assoc, append-nil, eq-eqb}
use Rattle.std.proofs.lemmas.Bool.{cases_eq}
use Rattle.std.proofs.lemmas.List.Elements.{filter-append}
use Rattle.std.proofs.lemmas.Option.{none-some}
use Rattle.streams.specs.declared.marks.Mark.{Mark}
use Rattle.streams.specs.declared.marks.Mark.TheVariants.{Opened, Read, Ended, Wrote, ReadFailed, WriteFailed, Closed}
use Rattle.host_model.specs.Frames.{Frames}
use Rattle.host_model.specs.Marks.{connection_of, marks_of, input, output}
use Rattle.host_model.specs.Journal.{JournalEntry, entries_of}
use Rattle.host_model.specs.DeskRules.{DeskRules, DeskDecision, Close, Silent, Reply, Invoke}
use Rattle.host_model.specs.Conversation.{called_by, called, Done, answer_at, reply_for, sent}
use Rattle.host_model.proofs.Lists.{nil-cons, cons_parts}
use Rattle.host_model.proofs.Filters.{marks_append}
use Rattle.machine_model.proofs.Taping.{AllOf, marks_here, marks_elsewhere}
use Rattle.script_model.specs.ScriptLines.{PlanRule, takes_most, blocks, fails, ScriptPlan, rules_of, governs, rule_of}
use Rattle.script_model.specs.Writing.{write_in, writes_in, WritesUnder, KeepsItsRules}
use Rattle.script_model.proofs.OneFed.{all_at}
use Rattle.script_model.proofs.Growing.{AreNoWrites}

-- this holds of each mark, after those before it
abbrev pub EachMark : (List Mark → Mark → Type 0) → List Mark → Type 0
EachMark P tape = (front back : List Mark) (mark : Mark) → tape ≡ front ++ mark ∷ back → P front mark

-- it holds of no marks
pub none_there : (P : List Mark → Mark → Type 0) → EachMark P []
none_there P [] back mark e = absurd (nil-cons mark back e)
none_there P (m ∷ front) back mark e = absurd (nil-cons m (front ++ mark ∷ back) e)

-- an element of two lists stands in the first, or in the second
split_at : {X : Type 0} (xs ys front back : List X) (x : X) → xs ++ ys ≡ front ++ x ∷ back
    → ((b : List X) × (xs ≡ front ++ x ∷ b)) ⊎ ((f : List X) × (front ≡ xs ++ f) × (ys ≡ f ++ x ∷ back))
split_at [] ys front back x e = inr (front, refl, e)
split_at (z ∷ xs) ys [] back x e =
    let p : (z ≡ x) × (xs ++ ys ≡ back) = cons_parts z x (xs ++ ys) back e in inl (xs, (λ i. p.0 i ∷ xs))
split_at {X} (z ∷ xs) ys (w ∷ front) back x e =
    let p : (z ≡ w) × (xs ++ ys ≡ front ++ x ∷ back) = cons_parts z w (xs ++ ys) (front ++ x ∷ back) e in
    go p (split_at xs ys front back x p.1)
  where
    go : (z ≡ w) × (xs ++ ys ≡ front ++ x ∷ back) → ((b : List X) × (xs ≡ front ++ x ∷ b)) ⊎ ((f : List X) × (front ≡ xs ++ f) × (ys ≡ f ++ x ∷ back))
        → ((b : List X) × (z ∷ xs ≡ w ∷ (front ++ x ∷ b))) ⊎ ((f : List X) × (w ∷ front ≡ z ∷ (xs ++ f)) × (ys ≡ f ++ x ∷ back))
    go p (inl t) = inl (t.0, (λ i. p.0 i ∷ t.1 i))
    go p (inr t) = inr (t.0, (λ i. sym p.0 i ∷ t.1 i), t.2)

-- more marks, of which it holds as well
pub each_append : (P : List Mark → Mark → Type 0) (tape more : List Mark) → EachMark P tape
    → ((front back : List Mark) (mark : Mark) → more ≡ front ++ mark ∷ back → P (tape ++ front) mark) → EachMark P (tape ++ more)
each_append P tape more each behind front back mark e = go (split_at tape more front back mark e)
  where
    go : ((b : List Mark) × (tape ≡ front ++ mark ∷ b)) ⊎ ((f : List Mark) × (front ≡ tape ++ f) × (more ≡ f ++ mark ∷ back)) → P front mark
    go (inl t) = each front t.0 mark t.1
    go (inr t) = subst (λ f. P f mark) (sym t.1) (behind t.0 back mark t.2)

-- how many writes two lists have
pub writes-append : (xs ys : List Mark) → writes_in (xs ++ ys) ≡ writes_in xs + writes_in ys
writes-append [] ys = let e : writes_in ys ≡ 0 + writes_in ys = omega arith in e
writes-append (x ∷ xs) ys = let e : writes_in (xs ++ ys) ≡ writes_in xs + writes_in ys = writes-append xs ys in omega arith

no_write_of : (c : ℕ) (b : Bool) (m : Mark) (ms : List Mark) → write_in m ≡ 0 → writes_in (marks_of c ms) ≡ 0 → writes_in (cond b (m ∷ marks_of c ms) (marks_of c ms)) ≡ 0
no_write_of c true m ms here e = omega arith
no_write_of c false m ms here e = e

none_of : (c : ℕ) (ms : List Mark) → AreNoWrites ms → writes_in (marks_of c ms) ≡ 0
none_of c [] a = refl
none_of c (m ∷ ms) a = no_write_of c (connection_of m == c) m ms a.0 (none_of c ms a.1)

-- marks that are no writes leave the number of writes
pub writes_same : (c : ℕ) (tape more : List Mark) → AreNoWrites more → writes_in (marks_of c (tape ++ more)) ≡ writes_in (marks_of c tape)
writes_same c tape more a =
    let s : writes_in (marks_of c (tape ++ more)) ≡ writes_in (marks_of c tape) + writes_in (marks_of c more) =
    ap writes_in (marks_append c tape more) ∙ writes-append (marks_of c tape) (marks_of c more) in
    let n : writes_in (marks_of c more) ≡ 0 = none_of c more a in
    omega arith

-- the first of what is left behind k elements is element k
pub next_left : {X : Type 0} (k : ℕ) (xs ys : List X) (x : X) → drop k xs ≡ x ∷ ys → (slice_get xs k ≡ Some x) × (drop (suc k) xs ≡ ys)
next_left zero [] ys x e = absurd (nil-cons x ys e)
next_left zero (z ∷ xs) ys x e = let p : (z ≡ x) × (xs ≡ ys) = cons_parts z x xs ys e in (ap Some p.0, p.1)
next_left (suc k) [] ys x e = absurd (nil-cons x ys e)
next_left (suc k) (z ∷ xs) ys x e = next_left k xs ys x e

-- where none is left, there is no element k
pub none_left : {X : Type 0} (k : ℕ) (xs : List X) → drop k xs ≡ [] → (slice_get xs k ≡ None) × (drop (suc k) xs ≡ [])
none_left zero [] e = (refl, refl)
none_left zero (z ∷ xs) e = absurd (nil-cons z xs (sym e))
none_left (suc k) [] e = (refl, refl)
none_left (suc k) (z ∷ xs) e = none_left k xs e

module _ {C A : Type 0} (d : DeskRules C A) where
  -- an answer that stands in the entries stays the answer
  answer_stays : (es more : List (JournalEntry C A)) (i : ℕ) (a : A) → answer_at es i ≡ Some a → answer_at (es ++ more) i ≡ Some a
  answer_stays [] more i a e = absurd (none-some a e)
  answer_stays (x ∷ es) more i a e = go (x.key.i == i) (answer_stays es more i a) e
    where
      go : (b : Bool) → (answer_at es i ≡ Some a → answer_at (es ++ more) i ≡ Some a)
          → (if b then Some x.answer else answer_at es i) ≡ Some a → (if b then Some x.answer else answer_at (es ++ more) i) ≡ Some a
      go true on h = h
      go false on h = on h

  -- the call of frame i, which stands in the entries, is answered there
  is_answered : (es : List (JournalEntry C A)) (front back : List (ℕ × C)) (i : ℕ) (call : C) → map (λ e. (e.key.i, e.call)) es ≡ front ++ (i, call) ∷ back
      → (a : A) × (answer_at es i ≡ Some a)
  is_answered [] [] back i call e = absurd (nil-cons (i, call) back e)
  is_answered [] (q ∷ front) back i call e = absurd (nil-cons q (front ++ (i, call) ∷ back) e)
  is_answered (x ∷ es) [] back i call e =
      let p = cons_parts (x.key.i, x.call) (i, call) (map (λ e. (e.key.i, e.call)) es) back e in
      (x.answer, ap (λ b. if b then Some x.answer else answer_at es i) (eq-eqb x.key.i i (ap (λ (q : ℕ × C). q.0) p.0)))
  is_answered (x ∷ es) (q ∷ front) back i call e =
      go (x.key.i == i) (is_answered es front back i call (cons_parts (x.key.i, x.call) q (map (λ e. (e.key.i, e.call)) es) (front ++ (i, call) ∷ back) e).1)
    where
      go : (b : Bool) → ((a : A) × (answer_at es i ≡ Some a)) → (a : A) × ((if b then Some x.answer else answer_at es i) ≡ Some a)
      go true t = (x.answer, refl)
      go false t = t

  reply_stays : (es more : List (JournalEntry C A)) (front back : List (ℕ × C)) (i : ℕ) (p : List ℕ) (decision : DeskDecision C)
      → map (λ e. (e.key.i, e.call)) es ≡ front ++ (called_by i decision ++ back) → reply_for d p decision (answer_at (es ++ more) i) ≡ reply_for d p decision (answer_at es i)
  reply_stays es more front back i p (Close fault) e = refl
  reply_stays es more front back i p Silent e = refl
  reply_stays es more front back i p (Reply reply) e = refl
  reply_stays es more front back i p (Invoke call) e =
      let t : (a : A) × (answer_at es i ≡ Some a) = is_answered es front back i call e in
      ap (reply_for d p (Invoke call)) (answer_stays es more i t.0 t.1 ∙ sym t.1)

  stays_from : (es more : List (JournalEntry C A)) (front : List (ℕ × C)) (i : ℕ) (ps : List (List ℕ)) → map (λ e. (e.key.i, e.call)) es ≡ front ++ called d i ps
      → sent d (es ++ more) i ps ≡ sent d es i ps
  stays_from es more front i [] e = refl
  stays_from es more front i (p ∷ ps) e =
      ap₂ (λ a b. a ++ b) (reply_stays es more front (called d (suc i) ps) i p (d.decide p) e)
      (stays_from es more (front ++ called_by i (d.decide p)) (suc i) ps (e ∙ sym (append_assoc front (called_by i (d.decide p)) (called d (suc i) ps))))

  -- what payloads are sent whose calls are done, they are sent whatever entries come later
  pub sent_stays : (es more : List (JournalEntry C A)) (ps : List (List ℕ)) → Done d es ps → sent d (es ++ more) 0 ps ≡ sent d es 0 ps
  sent_stays es more ps done = stays_from es more [] 0 ps done

  -- which part of what is left a write takes, by its rule
  abbrev pub IsPartUnder : Option PlanRule → List ℕ → List ℕ → Type 0
  IsPartUnder None left bytes = bytes ≡ left
  IsPartUnder (Some (takes_most count)) left bytes = bytes ≡ take count left
  IsPartUnder (Some blocks) left bytes = ⊥
  IsPartUnder (Some fails) left bytes = ⊥

  -- After these marks these bytes were written, by this rule, when the first of the entries stood in the journal and all calls were done.
  pub record IsWritten (rule : Option PlanRule) (es : List (JournalEntry C A)) (marks : List Mark) (bytes : List ℕ) : Type 0 where
    pub before : List (JournalEntry C A)
    pub later : List (JournalEntry C A)
    pub split : es ≡ before ++ later
    pub payloads : List (List ℕ)
    pub rest : List ℕ
    pub frames : Frames d.max (input marks) payloads rest
    pub done : Done d before payloads
    pub left : List ℕ
    pub sent_by_then : output marks ++ left ≡ sent d before 0 payloads
    pub some : 0 < length bytes
    pub part : IsPartUnder rule left bytes

  all_sent : (rule : Option PlanRule) (es : List (JournalEntry C A)) (marks : List Mark) (bytes : List ℕ) → (w : IsWritten rule es marks bytes)
      → output marks ++ w.left ≡ sent d es 0 w.payloads
  all_sent rule es marks bytes w = w.sent_by_then ∙ sym (sent_stays w.before w.later w.payloads w.done) ∙ ap (λ j. sent d j 0 w.payloads) (sym w.split)

  -- what such a write does under its rule
  under : (rule : Option PlanRule) (es : List (JournalEntry C A)) (marks : List Mark) (bytes : List ℕ) → IsWritten rule es marks bytes → WritesUnder rule d es marks bytes
  under None es marks bytes w =
      record {
        payloads = w.payloads;
        rest = w.rest;
        frames = w.frames;
        some = w.some;
        whole = ap (λ b. output marks ++ b) w.part ∙ all_sent None es marks bytes w;
      }
  under (Some (takes_most count)) es marks bytes w =
      record {
        payloads = w.payloads;
        rest = w.rest;
        frames = w.frames;
        offered = w.left;
        left = all_sent (Some (takes_most count)) es marks bytes w;
        some = w.some;
        part = w.part;
      }
  under (Some blocks) es marks bytes w = absurd w.part
  under (Some fails) es marks bytes w = absurd w.part

  -- later entries leave a write's fact
  written_later : (rule : Option PlanRule) (es more : List (JournalEntry C A)) (marks : List Mark) (bytes : List ℕ) → IsWritten rule es marks bytes → IsWritten rule (es ++ more) marks bytes
  written_later rule es more marks bytes w =
      record {
        before = w.before;
        later = w.later ++ more;
        split = ap (λ j. j ++ more) w.split ∙ append_assoc w.before w.later more;
        payloads = w.payloads;
        rest = w.rest;
        frames = w.frames;
        done = w.done;
        left = w.left;
        sent_by_then = w.sent_by_then;
        some = w.some;
        part = w.part;
      }

  module _ (script : ScriptPlan) where
    -- a mark of a write is under its rule, and one of a failed write where its rule says so
    abbrev pub IsRuled : List (JournalEntry C A) → List Mark → Mark → Type 0
    IsRuled journal front (Wrote c bytes) = IsWritten (rule_of script c (writes_in (marks_of c front))) (entries_of c journal) (marks_of c front) bytes
    IsRuled journal front (WriteFailed c) = rule_of script c (writes_in (marks_of c front)) ≡ Some fails
    IsRuled journal front _ = Unit {0}

    ruled_later : (journal more : List (JournalEntry C A)) (front : List Mark) (mark : Mark) → IsRuled journal front mark → IsRuled (journal ++ more) front mark
    ruled_later journal more front (Wrote c bytes) t =
        subst (λ es. IsWritten (rule_of script c (writes_in (marks_of c front))) es (marks_of c front) bytes) (sym (filter-append (λ e. e.key.c == c) journal more))
        (written_later (rule_of script c (writes_in (marks_of c front))) (entries_of c journal) (entries_of c more) (marks_of c front) bytes t)
    ruled_later journal more front (WriteFailed c) t = t
    ruled_later journal more front (Opened c) t = tt
    ruled_later journal more front (Read c bytes) t = tt
    ruled_later journal more front (Ended c) t = tt
    ruled_later journal more front (ReadFailed c) t = tt
    ruled_later journal more front (Closed c) t = tt

    ruled_other : (journal : List (JournalEntry C A)) (front : List Mark) (mark : Mark) → write_in mark ≡ 0 → IsRuled journal front mark
    ruled_other journal front (Wrote c bytes) n = absurd (let f : ⊥ = omega (arith, n) in f)
    ruled_other journal front (WriteFailed c) n = absurd (let f : ⊥ = omega (arith, n) in f)
    ruled_other journal front (Opened c) n = tt
    ruled_other journal front (Read c bytes) n = tt
    ruled_other journal front (Ended c) n = tt
    ruled_other journal front (ReadFailed c) n = tt
    ruled_other journal front (Closed c) n = tt

    -- marks that are no writes, and entries, are added
    pub ruled_on : (tape marks : List Mark) (journal entries : List (JournalEntry C A)) → AreNoWrites marks → EachMark (IsRuled journal) tape
        → EachMark (IsRuled (journal ++ entries)) (tape ++ marks)
    ruled_on tape marks journal entries none each =
        each_append (IsRuled (journal ++ entries)) tape marks (λ front back mark e. ruled_later journal entries front mark (each front back mark e))
        (λ front back mark e.
        ruled_other (journal ++ entries) (tape ++ front) mark
        (all_at (λ m. write_in m ≡ 0) front back mark (subst AreNoWrites e none)))

    -- a mark is added, and others behind it that are no writes
    pub ruled_first : (tape marks : List Mark) (mark : Mark) (journal : List (JournalEntry C A)) → AreNoWrites marks → EachMark (IsRuled journal) tape → IsRuled journal tape mark
        → EachMark (IsRuled journal) (tape ++ mark ∷ marks)
    ruled_first tape marks mark journal none each here = each_append (IsRuled journal) tape (mark ∷ marks) each added
      where
        added : (front back : List Mark) (other : Mark) → mark ∷ marks ≡ front ++ other ∷ back → IsRuled journal (tape ++ front) other
        added [] back other e =
            let p : (mark ≡ other) × (marks ≡ back) = cons_parts mark other marks back e in
            subst (λ t. IsRuled journal t other) (sym (append-nil tape)) (subst (IsRuled journal tape) p.0 here)
        added (x ∷ front) back other e =
            let p : (mark ≡ x) × (marks ≡ front ++ other ∷ back) = cons_parts mark x marks (front ++ other ∷ back) e in
            ruled_other journal (tape ++ x ∷ front) other (all_at (λ m. write_in m ≡ 0) front back other (subst AreNoWrites p.1 none))

    pub keeps_rules : (tape : List Mark) (journal : List (JournalEntry C A)) → EachMark (IsRuled journal) tape → (c : ℕ) → KeepsItsRules d script c (entries_of c journal) tape
    keeps_rules tape journal each c =
        record {
          writes = λ front back bytes e.
              under (rule_of script c (writes_in (marks_of c front))) (entries_of c journal) (marks_of c front) bytes (each front back (Wrote c bytes) e);
          fails_so = λ front back e. each front back (WriteFailed c) e;
        }

-- what is left of each connection's rules: those behind as many that govern writes as were made
abbrev pub AreRulesLeft : ScriptPlan → List Mark → (ℕ → List PlanRule) → Type 0
AreRulesLeft script tape rules = (c : ℕ) → filter governs (rules c) ≡ drop (writes_in (marks_of c tape)) (filter governs (rules_of c script))

-- marks that are no writes leave them
pub rules_stay : (script : ScriptPlan) (tape marks : List Mark) (rules : ℕ → List PlanRule) → AreNoWrites marks → AreRulesLeft script tape rules → AreRulesLeft script (tape ++ marks) rules
rules_stay script tape marks rules none left c = left c ∙ ap (λ n. drop n (filter governs (rules_of c script))) (sym (writes_same c tape marks none))

-- marks of one connection change those of that one
pub rules_changed : (script : ScriptPlan) (tape marks : List Mark) (rules others : ℕ → List PlanRule) (c : ℕ) → AllOf c marks → AreRulesLeft script tape rules
    → ((x : ℕ) → (x ≡ c → ⊥) → others x ≡ rules x) → filter governs (others c) ≡ drop (writes_in (marks_of c tape ++ marks)) (filter governs (rules_of c script))
    → AreRulesLeft script (tape ++ marks) others
rules_changed script tape marks rules others c all left same here x = go (cases_eq x c)
  where
    go : (x ≡ c) ⊎ (x ≡ c → ⊥) → filter governs (others x) ≡ drop (writes_in (marks_of x (tape ++ marks))) (filter governs (rules_of x script))
    go (inl e) =
        subst (λ y. filter governs (others y) ≡ drop (writes_in (marks_of y (tape ++ marks))) (filter governs (rules_of y script))) (sym e)
        (here ∙ ap (λ ms. drop (writes_in ms) (filter governs (rules_of c script))) (sym (marks_here c tape marks all)))
    go (inr n) =
        ap (filter governs) (same x n) ∙ left x ∙ ap (λ ms. drop (writes_in ms) (filter governs (rules_of x script))) (sym (marks_elsewhere c x tape marks n all))
