-- The lengths that a loop lent and offered are right for the tape and the journal that its run has in the end.
use Rattle.std.proofs.Common.{◌≡◌, ◌≢◌, ℕ, suc, ◌+◌, ◌≤◌, min, Option, None, Some, List, [], ◌∷◌, ◌++◌, length, slice_get, refl, sym, ap, ◌∙◌, subst, arith, append_assoc, append-nil, length-append}
use Rattle.std.specs.List.{AllByRecursion}
use Rattle.std.proofs.lemmas.Option.{same_Some}
use Rattle.streams.specs.declared.outcomes.Settled.{Settled}
use Rattle.streams.specs.declared.outcomes.Settled.TheVariants.{Reply, Nothing, Close as Refused, NoMemory}
use Rattle.streams.specs.declared.marks.Mark.{Mark}
use Rattle.streams.specs.declared.marks.Mark.TheVariants.{Opened, Read, Ended, Wrote, ReadFailed, WriteFailed, Closed}
use Rattle.host_model.specs.declared.cause.EndCause.{EndCause}
use Rattle.host_model.proofs.Lists.{nil-cons, cons_parts}
use Rattle.conn_state.specs.Phase.{most_read}
use Rattle.machine_model.specs.HallRule.{HallOperation, submit, take_job, apply, put, collect, close, HallAnswer, done, job, empty, is_closed, applied, no_memory, journal_fault, is_broken, outcome}
use Rattle.machine_model.specs.Loop.{Loop, IsOpen, FrameProgress, part, bad_size, whole, marks_read, ConnEvent, opens, reads, ends, fails_read, writes, fails_write, gives_up, Happens, LoopAsks, conn_marks_settled}
use Rattle.machine_model.specs.OpenAtFronts.{marks_counted}
use Rattle.machine_model.specs.Merge.{handles, calls, Weaves}
use Rattle.machine_model.proofs.Fronts.{counted-append}
use Rattle.loop_conns.specs.Woven.{missing_of, lent_to, ServedItem, WeavesLent}
use Rattle.host_loop.specs.Lengths.{transfer_of}

-- none of these tells of bytes
abbrev AreQuiet : List Mark → Type 0
AreQuiet marks = AllByRecursion (λ m. transfer_of m ≡ 0) marks

none_counted : (marks : List Mark) → AreQuiet marks → marks_counted transfer_of marks ≡ 0
none_counted [] q = refl
none_counted (m ∷ marks) q = let a : transfer_of m ≡ 0 = q.0 in let b : marks_counted transfer_of marks ≡ 0 = none_counted marks q.1 in omega arith

-- what a mark of bytes tells of the loop that made it, which lent these lengths
abbrev pub LentFor : Loop → Mark → List ℕ → Type 0
LentFor loop (Read c bytes) lent = IsOpen loop c × (lent ≡ min (missing_of (loop.conns c).held) most_read ∷ [])
LentFor loop (Wrote c bytes) lent = IsOpen loop c × ((loop.conns c).left ≢ []) × (lent ≡ length (loop.conns c).left ∷ [])
LentFor loop _ lent = Unit {0}

-- an event's marks: one, and then some that tell of no bytes
record Marking (old : Loop) (lent : List ℕ) (new : Loop) : Type 0 where
  mark : Mark
  more : List Mark
  tape : new.tape ≡ old.tape ++ mark ∷ more
  quiet : AreQuiet more
  count : transfer_of mark ≡ length lent
  lent_for : LentFor old mark lent

module _ (old new : Loop) where
  marks_one : (mark : Mark) (more : List Mark) (lent : List ℕ) → new.tape ≡ old.tape ++ mark ∷ more → AreQuiet more → transfer_of mark ≡ length lent → LentFor old mark lent → Marking old lent new
  marks_one mark more lent tape quiet count lent_for = record { mark = mark; more = more; tape = tape; quiet = quiet; count = count; lent_for = lent_for }

  tape_is : (other : Loop) → new ≡ other → new.tape ≡ other.tape
  tape_is other is = ap (λ (l : Loop). l.tape) is

  read_marks : (c : ℕ) (bytes : List ℕ) (progress : FrameProgress) → IsOpen old c → new.tape ≡ old.tape ++ marks_read c bytes progress → Marking old (lent_to old (reads c bytes)) new
  read_marks c bytes part o tape = marks_one (Read c bytes) [] _ tape tt refl (o, refl)
  read_marks c bytes (bad_size size) o tape = marks_one (Read c bytes) (Closed c ∷ []) _ tape (refl, tt) refl (o, refl)
  read_marks c bytes (whole payload) o tape = marks_one (Read c bytes) [] _ tape tt refl (o, refl)

  some_left : (left : List ℕ) (count : ℕ) → 1 ≤ count → count ≤ length left → left ≢ []
  some_left left count some within none = let z : length left ≡ 0 = ap length none in let f : ⊥ = omega arith in f

  event_marks : (max : ℕ) (conn_event : ConnEvent) → Happens max old conn_event new → Marking old (lent_to old conn_event) new
  event_marks max opens h = marks_one (Opened old.count) [] [] (tape_is _ h.1) tt refl tt
  event_marks max (reads c bytes) h = read_marks c bytes h.0 h.1 (tape_is _ h.6)
  event_marks max (ends c) h = marks_one (Ended c) (Closed c ∷ []) [] (tape_is _ h.2) (refl, tt) refl tt
  event_marks max (fails_read c) h = marks_one (ReadFailed c) (Closed c ∷ []) [] (tape_is _ h.2) (refl, tt) refl tt
  event_marks max (writes c count) h = marks_one (Wrote c _) [] _ (tape_is _ h.3) tt refl (h.0, some_left (old.conns c).left count h.1 h.2, refl)
  event_marks max (fails_write c) h = marks_one (WriteFailed c) (Closed c ∷ []) [] (tape_is _ h.2) (refl, tt) refl tt
  event_marks max (gives_up c cause) h = marks_one (Closed c) [] [] (tape_is _ h.2) tt refl tt

-- a call's marks tell of no bytes
record Quietly (old new : Loop) : Type 0 where
  more : List Mark
  tape : new.tape ≡ old.tape ++ more
  quiet : AreQuiet more

settled_quiet : (cause : Option EndCause) (c : ℕ) (settled : Settled) → AreQuiet (conn_marks_settled cause c settled)
settled_quiet None c (Reply reply) = tt
settled_quiet None c Nothing = tt
settled_quiet None c (Refused fault) = (refl, tt)
settled_quiet None c NoMemory = (refl, tt)
settled_quiet (Some cause) c settled = tt

same_quietly : (old new : Loop) → new ≡ old → Quietly old new
same_quietly old new is = record { more = []; tape = ap (λ (l : Loop). l.tape) is ∙ sym (append-nil old.tape); quiet = tt }

ask_quietly : {C A : Type 0} (old : Loop) (op : HallOperation C) (answer : HallAnswer A) (new : Loop) → LoopAsks old op answer new → Quietly old new
ask_quietly old (submit key payload) done new t = record { more = []; tape = ap (λ (l : Loop). l.tape) t.3; quiet = tt }
ask_quietly old (submit key payload) (job k p) new t = same_quietly old new t.3
ask_quietly old (submit key payload) empty new t = same_quietly old new t.3
ask_quietly old (submit key payload) is_closed new t = same_quietly old new t.3
ask_quietly old (submit key payload) (applied reply) new t = same_quietly old new t.3
ask_quietly old (submit key payload) no_memory new t = same_quietly old new t.3
ask_quietly old (submit key payload) journal_fault new t = same_quietly old new t.3
ask_quietly old (submit key payload) is_broken new t = same_quietly old new t.3
ask_quietly old (submit key payload) (outcome k s) new t = same_quietly old new t.3
ask_quietly old collect (outcome key settled) new t =
    record { more = conn_marks_settled (old.conns key.c).cause key.c settled; tape = ap (λ (l : Loop). l.tape) t; quiet = settled_quiet (old.conns key.c).cause key.c settled }
ask_quietly old collect done new t = same_quietly old new t
ask_quietly old collect (job k p) new t = same_quietly old new t
ask_quietly old collect empty new t = same_quietly old new t
ask_quietly old collect is_closed new t = same_quietly old new t
ask_quietly old collect (applied reply) new t = same_quietly old new t
ask_quietly old collect no_memory new t = same_quietly old new t
ask_quietly old collect journal_fault new t = same_quietly old new t
ask_quietly old collect is_broken new t = same_quietly old new t
ask_quietly old close answer new t = same_quietly old new t
ask_quietly old take_job answer new t = absurd t
ask_quietly old (apply key call) answer new t = absurd t
ask_quietly old (put key settled) answer new t = absurd t

module _ (max : ℕ) where
  -- what was woven with its lengths was woven
  pub lent_weaves : (items : List ServedItem) (lengths : List ℕ) (old new : Loop) → WeavesLent max old items lengths new → Weaves max old items new
  lent_weaves [] lengths old new t = t.1
  lent_weaves (handles conn_event ∷ items) lengths old new t = (t.0, t.2, lent_weaves items t.1 t.0 new t.4)
  lent_weaves (calls e ∷ items) lengths old new t = (t.0, t.1, lent_weaves items lengths t.0 new t.2)

  -- each mark of bytes has its length
  pub lent_count : (items : List ServedItem) (lengths : List ℕ) (old new : Loop) → WeavesLent max old items lengths new
      → marks_counted transfer_of new.tape ≡ marks_counted transfer_of old.tape + length lengths
  lent_count [] lengths old new t =
      let n : length lengths ≡ 0 = ap length t.0 in
      let same : marks_counted transfer_of new.tape ≡ marks_counted transfer_of old.tape = ap (λ (l : Loop). marks_counted transfer_of l.tape) t.1 in
      omega arith
  lent_count (handles conn_event ∷ items) lengths old new t =
      let m : Marking old (lent_to old conn_event) t.0 = event_marks old t.0 max conn_event t.2 in
      let a : marks_counted transfer_of t.0.tape ≡ marks_counted transfer_of old.tape + marks_counted transfer_of (m.mark ∷ m.more) =
      ap (marks_counted transfer_of) m.tape ∙ counted-append transfer_of old.tape (m.mark ∷ m.more) in
      let q : marks_counted transfer_of m.more ≡ 0 = none_counted m.more m.quiet in
      let k : transfer_of m.mark ≡ length (lent_to old conn_event) = m.count in
      let n : length lengths ≡ length (lent_to old conn_event) + length t.1 = ap length t.3 ∙ length-append (lent_to old conn_event) t.1 in
      let rest : marks_counted transfer_of new.tape ≡ marks_counted transfer_of t.0.tape + length t.1 = lent_count items t.1 t.0 new t.4 in
      omega arith
  lent_count (calls e ∷ items) lengths old new t =
      let m : Quietly old t.0 = ask_quietly old e.op e.reply t.0 t.1 in
      let a : marks_counted transfer_of t.0.tape ≡ marks_counted transfer_of old.tape + marks_counted transfer_of m.more =
      ap (marks_counted transfer_of) m.tape ∙ counted-append transfer_of old.tape m.more in
      let q : marks_counted transfer_of m.more ≡ 0 = none_counted m.more m.quiet in
      let rest : marks_counted transfer_of new.tape ≡ marks_counted transfer_of t.0.tape + length lengths = lent_count items lengths t.0 new t.2 in
      omega arith

  -- the tape only grows
  pub weave_grows : (items : List ServedItem) (old new : Loop) → Weaves max old items new → (more : List Mark) × (new.tape ≡ old.tape ++ more)
  weave_grows [] old new t = ([], ap (λ (l : Loop). l.tape) t ∙ sym (append-nil old.tape))
  weave_grows (handles conn_event ∷ items) old new t =
      let m : Marking old (lent_to old conn_event) t.0 = event_marks old t.0 max conn_event t.1 in
      let rest : (more : List Mark) × (new.tape ≡ t.0.tape ++ more) = weave_grows items t.0 new t.2 in
      ((m.mark ∷ m.more) ++ rest.0, rest.1 ∙ ap (λ l. l ++ rest.0) m.tape ∙ append_assoc old.tape (m.mark ∷ m.more) rest.0)
  weave_grows (calls e ∷ items) old new t =
      let m : Quietly old t.0 = ask_quietly old e.op e.reply t.0 t.1 in
      let rest : (more : List Mark) × (new.tape ≡ t.0.tape ++ more) = weave_grows items t.0 new t.2 in
      (m.more ++ rest.0, rest.1 ∙ ap (λ l. l ++ rest.0) m.tape ∙ append_assoc old.tape m.more rest.0)

  -- The moment at which a mark was made, after those before it.
  pub record MadeAt (old : Loop) (items : List ServedItem) (new : Loop) (front : List Mark) (mark : Mark) (lent : ℕ) : Type 0 where
    pub mid : Loop
    pub before : List ServedItem
    pub behind : List ServedItem
    pub split : items ≡ before ++ behind
    pub came : Weaves max old before mid
    pub goes : Weaves max mid behind new
    pub tape : mid.tape ≡ old.tape ++ front
    pub lent_for : LentFor mid mark (lent ∷ [])

  -- marks in front of one that tells of bytes: it isn't among quiet ones
  passed : (quiet : List Mark) → AreQuiet quiet → (later front back : List Mark) (mark : Mark) → transfer_of mark ≡ 1 → quiet ++ later ≡ front ++ mark ∷ back
      → (more : List Mark) × (front ≡ quiet ++ more) × (later ≡ more ++ mark ∷ back)
  passed [] q later front back mark one is = (front, refl, is)
  passed (m ∷ quiet) q later [] back mark one is =
      let parts : (m ≡ mark) × (quiet ++ later ≡ back) = cons_parts m mark (quiet ++ later) back is in
      let a : transfer_of m ≡ 0 = q.0 in
      let b : transfer_of m ≡ transfer_of mark = ap transfer_of parts.0 in
      absurd (let f : ⊥ = omega arith in f)
  passed (m ∷ quiet) q later (x ∷ front) back mark one is =
      let parts : (m ≡ x) × (quiet ++ later ≡ front ++ mark ∷ back) = cons_parts m x (quiet ++ later) (front ++ mark ∷ back) is in
      let rest : (more : List Mark) × (front ≡ quiet ++ more) × (later ≡ more ++ mark ∷ back) = passed quiet q.1 later front back mark one parts.1 in
      (rest.0, (λ i. sym parts.0 i ∷ rest.1 i), rest.2)

  -- a moment later, with an item more in front
  later_at : (old next : Loop) (item : ServedItem) (items : List ServedItem) (new : Loop) (marks front all : List Mark) (mark : Mark) (lent : ℕ) → Weaves max old (item ∷ []) next → next.tape ≡ old.tape ++ marks
      → all ≡ marks ++ front → MadeAt next items new front mark lent → MadeAt old (item ∷ items) new all mark lent
  later_at old next item items new marks front all mark lent one tape is m =
      record {
        mid = m.mid;
        before = item ∷ m.before;
        behind = m.behind;
        split = ap (λ (l : List ServedItem). item ∷ l) m.split;
        came = in_front item one m.came;
        goes = m.goes;
        tape = m.tape ∙ ap (λ l. l ++ front) tape ∙ append_assoc old.tape marks front ∙ ap (λ l. old.tape ++ l) (sym is);
        lent_for = m.lent_for;
      }
    where
      in_front : (item : ServedItem) → Weaves max old (item ∷ []) next → Weaves max next m.before m.mid → Weaves max old (item ∷ m.before) m.mid
      in_front (handles conn_event) w rest = (w.0, w.1, subst (λ l. Weaves max l m.before m.mid) w.2 rest)
      in_front (calls e) w rest = (w.0, w.1, subst (λ l. Weaves max l m.before m.mid) w.2 rest)

  cut : (old : List Mark) (xs ys : List Mark) → old ++ xs ≡ old ++ ys → xs ≡ ys
  cut [] xs ys is = is
  cut (m ∷ old) xs ys is = cut old xs ys (cons_parts m m (old ++ xs) (old ++ ys) is).1

  -- lengths behind those of one event
  behind : (first later : List ℕ) (k : ℕ) → slice_get (first ++ later) (length first + k) ≡ slice_get later k
  behind [] later k = ap (slice_get later) (let e : 0 + k ≡ k = omega arith in e)
  behind (x ∷ first) later k =
      ap (slice_get (x ∷ (first ++ later))) (let e : suc (length first) + k ≡ suc (length first + k) = omega arith in e) ∙ behind first later k

  behind_lent : (first later : List ℕ) (n k : ℕ) → length first ≡ n → slice_get (first ++ later) (n + k) ≡ slice_get later k
  behind_lent first later n k is = ap (λ m. slice_get (first ++ later) (m + k)) (sym is) ∙ behind first later k

  pub made_at : (items : List ServedItem) (lengths : List ℕ) (old new : Loop) (front back : List Mark) (mark : Mark) (lent : ℕ) → WeavesLent max old items lengths new → transfer_of mark ≡ 1
      → new.tape ≡ old.tape ++ (front ++ mark ∷ back) → slice_get lengths (marks_counted transfer_of front) ≡ Some lent → MadeAt old items new front mark lent
  made_at [] lengths old new front back mark lent t one tape at =
      absurd (none front (cut old.tape [] (front ++ mark ∷ back) (append-nil old.tape ∙ sym (ap (λ (l : Loop). l.tape) t.1) ∙ tape)))
    where
      none : (xs : List Mark) → [] ≡ xs ++ mark ∷ back → ⊥
      none [] e = nil-cons mark back e
      none (x ∷ xs) e = nil-cons x (xs ++ mark ∷ back) e
  made_at (handles conn_event ∷ items) lengths old new front back mark lent t one tape at =
      let m : Marking old (lent_to old conn_event) t.0 = event_marks old t.0 max conn_event t.2 in
      let grown : (more : List Mark) × (new.tape ≡ t.0.tape ++ more) = weave_grows items t.0 new (lent_weaves items t.1 t.0 new t.4) in
      let all_is : m.mark ∷ (m.more ++ grown.0) ≡ front ++ mark ∷ back =
      cut old.tape (m.mark ∷ (m.more ++ grown.0)) (front ++ mark ∷ back)
      (sym (append_assoc old.tape (m.mark ∷ m.more) grown.0) ∙ ap (λ l. l ++ grown.0) (sym m.tape) ∙ sym grown.1 ∙ tape) in
      go m grown.0 grown.1 front all_is (λ more at. made_at items t.1 t.0 new more back mark lent t.4 one at) at
    where
      go : (m : Marking old (lent_to old conn_event) t.0) (grown : List Mark) → new.tape ≡ t.0.tape ++ grown → (front : List Mark) → m.mark ∷ (m.more ++ grown) ≡ front ++ mark ∷ back
          → ((more : List Mark) → new.tape ≡ t.0.tape ++ (more ++ mark ∷ back) → slice_get t.1 (marks_counted transfer_of more) ≡ Some lent → MadeAt t.0 items new more mark lent)
          → slice_get lengths (marks_counted transfer_of front) ≡ Some lent → MadeAt old (handles conn_event ∷ items) new front mark lent
      go m grown later_on [] all_is again at =
          let parts : (m.mark ≡ mark) × (m.more ++ grown ≡ back) = cons_parts m.mark mark (m.more ++ grown) back all_is in
          record {
            mid = old;
            before = [];
            behind = handles conn_event ∷ items;
            split = refl;
            came = refl;
            goes = (t.0, t.2, lent_weaves items t.1 t.0 new t.4);
            tape = sym (append-nil old.tape);
            lent_for = subst (LentFor old mark) (first_is (lent_to old conn_event) (sym m.count ∙ ap transfer_of parts.0 ∙ one) (ap (λ l. slice_get l 0) (sym t.3) ∙ at)) (subst (λ x. LentFor old x (lent_to old conn_event)) parts.0 m.lent_for);
          }
        where
          first_is : (own : List ℕ) → length own ≡ 1 → slice_get (own ++ t.1) 0 ≡ Some lent → own ≡ lent ∷ []
          first_is [] is at = absurd (let f : ⊥ = omega arith in f)
          first_is (x ∷ []) is at = ap (λ y. y ∷ []) (same_Some x lent at)
          first_is (x ∷ y ∷ own) is at = absurd (let f : ⊥ = omega arith in f)
      go m grown later_on (x ∷ front) all_is again at =
          let parts : (m.mark ≡ x) × (m.more ++ grown ≡ front ++ mark ∷ back) = cons_parts m.mark x (m.more ++ grown) (front ++ mark ∷ back) all_is in
          let p : (more : List Mark) × (front ≡ m.more ++ more) × (grown ≡ more ++ mark ∷ back) = passed m.more m.quiet grown front back mark one parts.1 in
          let a : marks_counted transfer_of front ≡ marks_counted transfer_of m.more + marks_counted transfer_of p.0 = ap (marks_counted transfer_of) p.1 ∙ counted-append transfer_of m.more p.0 in
          let q : marks_counted transfer_of m.more ≡ 0 = none_counted m.more m.quiet in
          let k : transfer_of x ≡ transfer_of m.mark = ap transfer_of (sym parts.0) in
          let n : transfer_of x + marks_counted transfer_of front ≡ transfer_of m.mark + marks_counted transfer_of p.0 = omega arith in
          later_at old t.0 (handles conn_event) items new (m.mark ∷ m.more) p.0 (x ∷ front) mark lent (t.0, t.2, refl) m.tape (λ i. sym parts.0 i ∷ p.1 i)
          (again p.0 (later_on ∙ ap (λ l. t.0.tape ++ l) p.2)
          (sym (behind_lent (lent_to old conn_event) t.1 (transfer_of m.mark) (marks_counted transfer_of p.0) (sym m.count)) ∙ ap (λ l. slice_get l (transfer_of m.mark + marks_counted transfer_of p.0)) (sym t.3)
          ∙ ap (slice_get lengths) (sym n) ∙ at))
  made_at (calls e ∷ items) lengths old new front back mark lent t one tape at =
      let m : Quietly old t.0 = ask_quietly old e.op e.reply t.0 t.1 in
      let grown : (more : List Mark) × (new.tape ≡ t.0.tape ++ more) = weave_grows items t.0 new (lent_weaves items lengths t.0 new t.2) in
      let all_is : m.more ++ grown.0 ≡ front ++ mark ∷ back =
      cut old.tape (m.more ++ grown.0) (front ++ mark ∷ back) (sym (append_assoc old.tape m.more grown.0) ∙ ap (λ l. l ++ grown.0) (sym m.tape) ∙ sym grown.1 ∙ tape) in
      let p : (more : List Mark) × (front ≡ m.more ++ more) × (grown.0 ≡ more ++ mark ∷ back) = passed m.more m.quiet grown.0 front back mark one all_is in
      let a : marks_counted transfer_of front ≡ marks_counted transfer_of m.more + marks_counted transfer_of p.0 = ap (marks_counted transfer_of) p.1 ∙ counted-append transfer_of m.more p.0 in
      let q : marks_counted transfer_of m.more ≡ 0 = none_counted m.more m.quiet in
      let n : marks_counted transfer_of front ≡ marks_counted transfer_of p.0 = omega arith in
      later_at old t.0 (calls e) items new m.more p.0 front mark lent (t.0, t.1, refl) m.tape p.1
      (made_at items lengths t.0 new p.0 back mark lent t.2 one (grown.1 ∙ ap (λ l. t.0.tape ++ l) p.2) (ap (slice_get lengths) (sym n) ∙ at))
