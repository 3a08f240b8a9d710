-- What was opened and read so far, in mid-run, and what the script still brings.
use Rattle.std.proofs.Common.{◌≡◌, ℕ, zero, suc, ◌+◌, ◌<◌, ◌≤◌, ◌⊎◌, nat_lt, nat_le, Bool, true, false, ◌&&◌, if◌then◌else◌, Option, None, Some, List, [], ◌∷◌, ◌++◌, length, take, drop, refl, sym, ap, ◌∙◌, subst, inl, inr, arith, append_assoc, append-nil, length-append}
use Rattle.std.specs.Int.{w32, to_be_bytes, from_be_bytes, cast_signed}
use Rattle.std.proofs.lemmas.Bool.{cases_eq, and_parts, ltb-true, leb-true}
use Rattle.std.proofs.lemmas.Grind.{flat_map-append}
use Rattle.std.proofs.lemmas.List.{same_from_push}
use Rattle.std.proofs.lemmas.Option.{none-some, same_Some}
use Rattle.streams.specs.declared.outcomes.Settled.{Settled}
use Rattle.streams.specs.declared.outcomes.Settled.TheVariants.{Reply, Nothing, Close as Refused, NoMemory as Lack}
use Rattle.streams.specs.declared.marks.Mark.{Mark}
use Rattle.streams.specs.declared.marks.Mark.TheVariants.{Opened, Read, Ended, Wrote, ReadFailed, WriteFailed, Closed}
use Rattle.host_model.specs.declared.cause.EndCause.{EndCause}
use Rattle.host_model.specs.declared.cause.EndCause.TheVariants.{SizeFault}
use Rattle.host_model.specs.Marks.{marks_of, input}
use Rattle.host_model.proofs.Lists.{ends as empty_or_pushed}
use Rattle.machine_model.specs.Loop.{LoopConn, new_conn, Loop, most_connections, OwesNothing, FrameProgress, part, bad_size, whole, read_more, marks_read, with_conn, changed, conn_settled, conn_marks_settled}
use Rattle.machine_model.specs.AtFronts.{size_in}
use Rattle.machine_model.specs.Plain.{are_same, is_size, progress_behind, progress_by, opened_plain, when, is_whole, is_bad_size}
use Rattle.machine_model.proofs.Computing.{same_lists}
use Rattle.machine_model.proofs.Lists.{put_same, put_other}
use Rattle.machine_model.proofs.Taping.{AllOf, marks_here, marks_elsewhere, input-append, TapeTells}
use Rattle.script_model.specs.Arrival.{bytes_of_pieces, ends_from}
use Rattle.script_model.specs.Feeding.{TakesItsPart}
use Rattle.script_model.specs.ScriptLines.{PlanLine, opening, one_if_opens, ScriptPlan, openings, piece_by, pieces_on, ends_input, fails_input, some_line, count_up}
use Rattle.script_model.specs.InputEnds.{EndsBehindPieces}
use Rattle.script_model.specs.RestLines.{opened_by, opened_in}
use Rattle.script_model.specs.Playing.{InputFinish, finishes, faults, at_number, kept_while_open}
use Rattle.script_model.proofs.Remaining.{Remains, HoldsLess, size_stays}

count_behind : (from n : ℕ) → count_up from (suc n) ≡ count_up from n ++ (from + n) ∷ []
count_behind from zero = let e : from ≡ from + 0 = omega arith in ap (λ x. x ∷ []) e
count_behind from (suc n) = let e : suc from + n ≡ from + suc n = omega arith in ap (λ r. from ∷ r) (count_behind (suc from) n ∙ ap (λ x. count_up (suc from) n ++ x ∷ []) e)

count_to : (n : ℕ) → count_up 0 (suc n) ≡ count_up 0 n ++ n ∷ []
count_to n = let e : 0 + n ≡ n = omega arith in count_behind 0 n ∙ ap (λ x. count_up 0 n ++ x ∷ []) e

back_nil : {X : Type 0} (xs ys : List X) → xs ++ ys ≡ [] → ys ≡ []
back_nil [] ys e = e
back_nil (x ∷ xs) ys e = absurd (cons_nil x (xs ++ ys) e)
  where
    cons_nil : {X : Type 0} (x : X) (xs : List X) → x ∷ xs ≡ [] → ⊥
    cons_nil x xs e = cc

-- The size that is admitted is that of the frame under way, or its payload is whole and isn't collected.
abbrev pub HasItsSize : LoopConn → ℕ → Type 0
HasItsSize conn n = (conn.collected < length conn.payloads) ⊎ ((4 ≤ length conn.held) × (n ≡ size_in conn.held))

module _ (max : ℕ) (script : ScriptPlan) where
  -- a mark is one of the script's, after these
  abbrev pub MarkIsFed : List Mark → Mark → Type 0
  MarkIsFed front (Read c bytes) = TakesItsPart max (ends_from 0 (pieces_on c script.lines)) (input (marks_of c front)) bytes
  MarkIsFed front (Ended c) =
      (some_line (ends_input c) script.lines ≡ true) × (EndsBehindPieces script.lines → input (marks_of c front) ≡ bytes_of_pieces (pieces_on c script.lines))
  MarkIsFed front (ReadFailed c) =
      (some_line (fails_input c) script.lines ≡ true) × (EndsBehindPieces script.lines → input (marks_of c front) ≡ bytes_of_pieces (pieces_on c script.lines))
  MarkIsFed front (Opened c) = Unit {0}
  MarkIsFed front (Wrote c bytes) = Unit {0}
  MarkIsFed front (WriteFailed c) = Unit {0}
  MarkIsFed front (Closed c) = Unit {0}

  -- each mark of a tape is
  abbrev pub MarksAreFed : List Mark → Type 0
  MarksAreFed tape = (front back : List Mark) (mark : Mark) → tape ≡ front ++ mark ∷ back → MarkIsFed front mark

  pub no_marks : MarksAreFed []
  no_marks [] back mark e = absurd (let f : ⊥ = cc in f)
  no_marks (x ∷ front) back mark e = absurd (let f : ⊥ = cc in f)

  pub fed_push : (tape : List Mark) (mark : Mark) → MarksAreFed tape → MarkIsFed tape mark → MarksAreFed (tape ++ mark ∷ [])
  fed_push tape mark a p front back m e = go (empty_or_pushed back)
    where
      go : (back ≡ []) ⊎ ((ys : List Mark) × (y : Mark) × (back ≡ ys ++ y ∷ [])) → MarkIsFed front m
      go (inl b) =
          let t : (tape ≡ front) × (mark ≡ m) = same_from_push tape front mark m (e ∙ ap (λ r. front ++ m ∷ r) b) in
          subst (λ (s : List Mark × Mark). MarkIsFed s.0 s.1) (λ i. (t.0 i, t.1 i)) p
      go (inr b) = a front b.0 m (same_from_push tape (front ++ m ∷ b.0) mark b.1 (e ∙ ap (λ r. front ++ m ∷ r) b.2 ∙ sym (append_assoc front (m ∷ b.0) (b.1 ∷ [])))).0

  pub fed_two : (tape : List Mark) (one other : Mark) → MarksAreFed tape → MarkIsFed tape one → MarkIsFed (tape ++ one ∷ []) other → MarksAreFed (tape ++ one ∷ other ∷ [])
  fed_two tape one other a p q = subst MarksAreFed (append_assoc tape (one ∷ []) (other ∷ [])) (fed_push (tape ++ one ∷ []) other (fed_push tape one a p) q)

  -- how an input goes out that was said to: after all pieces, where no later line brings one
  abbrev pub Finishing : List PlanLine → ℕ → Option InputFinish → Type 0
  Finishing rest c None = Unit {0}
  Finishing rest c (Some finishes) = (some_line (ends_input c) script.lines ≡ true) × (EndsBehindPieces script.lines → pieces_on c rest ≡ [])
  Finishing rest c (Some faults) = (some_line (fails_input c) script.lines ≡ true) × (EndsBehindPieces script.lines → pieces_on c rest ≡ [])

  -- what was said of an end is so after the next line too
  pub finish_on : (line : PlanLine) (rest : List PlanLine) (c : ℕ) (finish : Option InputFinish) → Finishing (line ∷ rest) c finish → Finishing rest c finish
  finish_on line rest c None t = tt
  finish_on line rest c (Some finishes) t = (t.0, λ b. back_nil (piece_by c line) (pieces_on c rest) (t.1 b))
  finish_on line rest c (Some faults) t = (t.0, λ b. back_nil (piece_by c line) (pieces_on c rest) (t.1 b))

  -- A connection by its number and how many are opened, by what was read, by the pieces that aren't read and the end after them, and by the size that is
  -- admitted; before these lines.
  pub record ConnIsFed (rest : List PlanLine) (c count : ℕ) (conn : LoopConn) (read : List ℕ) (unread : List (List ℕ)) (finish : Option InputFinish) (admitted : Option ℕ) : Type 0 where
    pub remains : Remains (pieces_on c script.lines) read (unread ++ pieces_on c rest)
    pub finishing : Finishing rest c finish
    pub holds_less : c < count → conn.cause ≡ None → HoldsLess max conn.held
    pub size : (n : ℕ) → admitted ≡ Some n → (c < count) × (conn.cause ≡ None) × HasItsSize conn n

  -- A loop before these lines: connections were opened in order, and those that are left to be opened are the others of the script; the tape tells of them;
  -- its marks are fed, and so is each connection.
  pub record IsFedSoFar (rest : List PlanLine) (loop : Loop) (unread : ℕ → List (List ℕ)) (finish : ℕ → Option InputFinish) (admitted : ℕ → Option ℕ) : Type 0 where
    pub opened : opened_in loop.tape ≡ count_up 0 loop.count
    pub count : openings script.lines ≤ most_connections → loop.count + openings rest ≡ openings script.lines
    pub tells : TapeTells max loop
    pub marks : MarksAreFed loop.tape
    pub each : (c : ℕ) → ConnIsFed rest c loop.count (loop.conns c) (input (marks_of c loop.tape)) (unread c) (finish c) (admitted c)

  -- a connection changes, with marks of its own that open nothing
  pub changed_fed : (rest : List PlanLine) (old : Loop) (unread later : ℕ → List (List ℕ)) (finish : ℕ → Option InputFinish) (admitted now : ℕ → Option ℕ) (c : ℕ) (conn : LoopConn) (marks : List Mark)
      → IsFedSoFar rest old unread finish admitted → AllOf c marks → opened_in marks ≡ [] → TapeTells max (changed old c conn marks) → MarksAreFed (old.tape ++ marks)
      → ((x : ℕ) → (x ≡ c → ⊥) → later x ≡ unread x) → ((x : ℕ) → (x ≡ c → ⊥) → now x ≡ admitted x)
      → ConnIsFed rest c old.count conn (input (marks_of c old.tape) ++ input marks) (later c) (finish c) (now c) → IsFedSoFar rest (changed old c conn marks) later finish now
  changed_fed rest old unread later finish admitted now c conn marks f all none tells fed same_unread same_size here =
      record {
        opened = flat_map-append opened_by old.tape marks ∙ ap (λ r. opened_in old.tape ++ r) none ∙ append-nil (opened_in old.tape) ∙ f.opened;
        count = f.count;
        tells = tells;
        marks = fed;
        each = λ x. go x (cases_eq x c);
      }
    where
      go : (x : ℕ) → (x ≡ c) ⊎ (x ≡ c → ⊥) → ConnIsFed rest x old.count (with_conn old.conns c conn x) (input (marks_of x (old.tape ++ marks))) (later x) (finish x) (now x)
      go x (inl e) =
          subst (λ y. ConnIsFed rest y old.count (with_conn old.conns c conn y) (input (marks_of y (old.tape ++ marks))) (later y) (finish y) (now y)) (sym e)
          (subst (λ (s : LoopConn × List ℕ). ConnIsFed rest c old.count s.0 s.1 (later c) (finish c) (now c))
          (λ i. (sym (put_same old.conns c conn) i, sym (ap input (marks_here c old.tape marks all) ∙ input-append (marks_of c old.tape) marks) i)) here)
      go x (inr n) =
          subst (λ (s : (LoopConn × List Mark) × (List (List ℕ) × Option ℕ)). ConnIsFed rest x old.count s.0.0 (input s.0.1) s.1.0 (finish x) s.1.1)
          (λ i. ((sym (put_other old.conns c conn x n) i, sym (marks_elsewhere c x old.tape marks n all) i), (sym (same_unread x n) i, sym (same_size x n) i))) (f.each x)

  -- a connection that ends has no size
  pub ended_conn : (rest : List PlanLine) (c count : ℕ) (conn : LoopConn) (cause : EndCause) (read : List ℕ) (unread : List (List ℕ)) (finish : Option InputFinish)
      → conn.cause ≡ Some cause → Remains (pieces_on c script.lines) read (unread ++ pieces_on c rest) → Finishing rest c finish → ConnIsFed rest c count conn read unread finish None
  ended_conn rest c count conn cause read unread finish is r f =
      record { remains = r; finishing = f; holds_less = λ l e. absurd (none-some cause (sym e ∙ is)); size = λ n e. absurd (none-some n e) }

  -- one more is opened
  pub opened_fed : (rest : List PlanLine) (old : Loop) (unread : ℕ → List (List ℕ)) (finish : ℕ → Option InputFinish) (admitted : ℕ → Option ℕ)
      → IsFedSoFar (opening ∷ rest) old unread finish admitted → TapeTells max (opened_plain old) → IsFedSoFar rest (opened_plain old) unread finish admitted
  opened_fed rest old unread finish admitted f tells =
      record {
        opened = flat_map-append opened_by old.tape (Opened old.count ∷ []) ∙ ap (λ r. r ++ old.count ∷ []) f.opened ∙ sym (count_to old.count);
        count = λ few. let e : old.count + (1 + openings rest) ≡ openings script.lines = f.count few in omega arith;
        tells = tells;
        marks = fed_push old.tape (Opened old.count) f.marks tt;
        each = λ x. go x (cases_eq x old.count);
      }
    where
      same_input : (x : ℕ) → input (marks_of x (old.tape ++ Opened old.count ∷ [])) ≡ input (marks_of x old.tape)
      same_input x = by (cases_eq x old.count)
        where
          by : (x ≡ old.count) ⊎ (x ≡ old.count → ⊥) → input (marks_of x (old.tape ++ Opened old.count ∷ [])) ≡ input (marks_of x old.tape)
          by (inl e) =
              ap input (marks_here x old.tape (Opened old.count ∷ []) (sym e, tt)) ∙ input-append (marks_of x old.tape) (Opened old.count ∷ [])
              ∙ append-nil (input (marks_of x old.tape))
          by (inr n) = ap input (marks_elsewhere old.count x old.tape (Opened old.count ∷ []) n (refl, tt))

      go : (x : ℕ) → (x ≡ old.count) ⊎ (x ≡ old.count → ⊥)
          → ConnIsFed rest x (suc old.count) (with_conn old.conns old.count new_conn x) (input (marks_of x (old.tape ++ Opened old.count ∷ []))) (unread x) (finish x) (admitted x)
      go x (inl e) =
          let is : with_conn old.conns old.count new_conn x ≡ new_conn = ap (with_conn old.conns old.count new_conn) e ∙ put_same old.conns old.count new_conn in
          subst (λ (s : LoopConn × List ℕ). ConnIsFed rest x (suc old.count) s.0 s.1 (unread x) (finish x) (admitted x)) (λ i. (sym is i, sym (same_input x) i))
          (record {
            remains = (f.each x).remains;
            finishing = finish_on opening rest x (finish x) (f.each x).finishing;
            holds_less = λ l n. inl (omega arith);
            size = λ n a. absurd (let l : x < old.count = ((f.each x).size n a).0 in let g : ⊥ = omega arith in g);
          })
      go x (inr n) =
          subst (λ (s : LoopConn × List ℕ). ConnIsFed rest x (suc old.count) s.0 s.1 (unread x) (finish x) (admitted x))
          (λ i. (sym (put_other old.conns old.count new_conn x n) i, sym (same_input x) i))
          (record {
            remains = (f.each x).remains;
            finishing = finish_on opening rest x (finish x) (f.each x).finishing;
            holds_less = λ l e. (f.each x).holds_less (omega arith) e;
            size = λ k a. let t : (x < old.count) × ((old.conns x).cause ≡ None) × HasItsSize (old.conns x) k = (f.each x).size k a in (omega (arith, t.0), t.1, t.2);
          })

  -- a line that opens nothing is done, with what it has brought
  pub line_fed : (line : PlanLine) (rest : List PlanLine) (loop : Loop) (unread later : ℕ → List (List ℕ)) (finish ending : ℕ → Option InputFinish) (admitted : ℕ → Option ℕ)
      → IsFedSoFar (line ∷ rest) loop unread finish admitted → one_if_opens line ≡ 0 → ((c : ℕ) → later c ≡ unread c ++ piece_by c line) → ((c : ℕ) → Finishing rest c (ending c))
      → IsFedSoFar rest loop later ending admitted
  line_fed line rest loop unread later finish ending admitted f none brings ends_so =
      record {
        opened = f.opened;
        count = λ few. let e : loop.count + (one_if_opens line + openings rest) ≡ openings script.lines = f.count few in omega arith;
        tells = f.tells;
        marks = f.marks;
        each = λ c.
            record {
              remains = subst (Remains (pieces_on c script.lines) (input (marks_of c loop.tape)))
                  (sym (ap (λ p. p ++ pieces_on c rest) (brings c) ∙ append_assoc (unread c) (piece_by c line) (pieces_on c rest))) (f.each c).remains;
              finishing = ends_so c;
              holds_less = (f.each c).holds_less;
              size = (f.each c).size;
            };
      }

  -- so it changes by an event of its own, after which its size is kept while it is open
  pub one_fed : (rest : List PlanLine) (old new : Loop) (unread later : ℕ → List (List ℕ)) (finish : ℕ → Option InputFinish) (admitted : ℕ → Option ℕ) (c : ℕ) (conn : LoopConn) (marks : List Mark)
      → IsFedSoFar rest old unread finish admitted → new ≡ changed old c conn marks → AllOf c marks → opened_in marks ≡ [] → TapeTells max new → MarksAreFed (old.tape ++ marks)
      → ((x : ℕ) → (x ≡ c → ⊥) → later x ≡ unread x)
      → ConnIsFed rest c old.count conn (input (marks_of c old.tape) ++ input marks) (later c) (finish c) (kept_while_open conn.cause (admitted c))
      → IsFedSoFar rest new later finish (at_number admitted c (kept_while_open (new.conns c).cause (admitted c)))
  one_fed rest old new unread later finish admitted c conn marks f is all none tells fed same here =
      let left : Option ℕ = kept_while_open (with_conn old.conns c conn c).cause (admitted c) in
      let kept : at_number admitted c left c ≡ kept_while_open conn.cause (admitted c) =
      put_same admitted c left ∙ ap (λ (k : LoopConn). kept_while_open k.cause (admitted c)) (put_same old.conns c conn) in
      subst (λ (loop : Loop). IsFedSoFar rest loop later finish (at_number admitted c (kept_while_open (loop.conns c).cause (admitted c)))) (sym is)
      (changed_fed rest old unread later finish admitted (at_number admitted c left) c conn marks f all none (subst (TapeTells max) is tells) fed same (λ x n. put_other admitted c left x n)
      (subst (ConnIsFed rest c old.count conn (input (marks_of c old.tape) ++ input marks) (later c) (finish c)) (sym kept) here))

  -- its input ends, or fails, after all pieces
  pub nothing_left : (rest : List PlanLine) (c : ℕ) (read : List ℕ) (unread : List (List ℕ)) → Remains (pieces_on c script.lines) read (unread ++ pieces_on c rest) → unread ≡ []
      → pieces_on c rest ≡ [] → read ≡ bytes_of_pieces (pieces_on c script.lines)
  nothing_left rest c read unread r none no_more =
      sym (append-nil read) ∙ ap (λ p. read ++ bytes_of_pieces p) (sym ((λ i. none i ++ pieces_on c rest) ∙ no_more)) ∙ r.bytes

  -- an outcome is collected, and its size goes back
  pub settled_fed : (rest : List PlanLine) (old new : Loop) (unread : ℕ → List (List ℕ)) (finish : ℕ → Option InputFinish) (admitted : ℕ → Option ℕ) (c : ℕ) (settled : Settled) (cause : Option EndCause)
      → IsFedSoFar rest old unread finish admitted → (old.conns c).cause ≡ cause → new ≡ changed old c (conn_settled cause settled (old.conns c)) (conn_marks_settled cause c settled) → TapeTells max new
      → IsFedSoFar rest new unread finish (at_number admitted c None)
  settled_fed rest old new unread finish admitted c settled cause f is_cause is tells = go settled cause is_cause is
    where
      here : (conn : LoopConn) (marks : List Mark) → new ≡ changed old c conn marks → AllOf c marks → opened_in marks ≡ [] → input marks ≡ [] → MarksAreFed (old.tape ++ marks)
          → (c < old.count → conn.cause ≡ None → HoldsLess max conn.held) → IsFedSoFar rest new unread finish (at_number admitted c None)
      here conn marks e all none quiet fed less =
          subst (λ (loop : Loop). IsFedSoFar rest loop unread finish (at_number admitted c None)) (sym e)
          (changed_fed rest old unread unread finish admitted (at_number admitted c None) c conn marks f all none (subst (TapeTells max) e tells) fed (λ x n. refl) (λ x n. put_other admitted c None x n)
          (record {
            remains = subst (λ b. Remains (pieces_on c script.lines) b (unread c ++ pieces_on c rest)) (sym (ap (λ b. input (marks_of c old.tape) ++ b) quiet ∙ append-nil (input (marks_of c old.tape)))) (f.each c).remains;
            finishing = (f.each c).finishing;
            holds_less = less;
            size = λ n a. absurd (none-some n (sym (put_same admitted c None) ∙ a));
          }))

      unmarked : MarksAreFed (old.tape ++ [])
      unmarked = subst MarksAreFed (sym (append-nil old.tape)) f.marks

      go : (settled : Settled) (cause : Option EndCause) → (old.conns c).cause ≡ cause → new ≡ changed old c (conn_settled cause settled (old.conns c)) (conn_marks_settled cause c settled)
          → IsFedSoFar rest new unread finish (at_number admitted c None)
      go (Reply reply) None k e = here _ _ e tt refl refl unmarked (λ l n. (f.each c).holds_less l n)
      go Nothing None k e = here _ _ e tt refl refl unmarked (λ l n. (f.each c).holds_less l n)
      go (Refused fault) None k e = here _ _ e (refl, tt) refl refl (fed_push old.tape (Closed c) f.marks tt) (λ l n. absurd (none-some _ (sym n)))
      go Lack None k e = here _ _ e (refl, tt) refl refl (fed_push old.tape (Closed c) f.marks tt) (λ l n. absurd (none-some _ (sym n)))
      go settled (Some cause) k e = here _ _ e tt refl refl unmarked (λ l n. (f.each c).holds_less l n)

  -- a size is admitted
  pub admitted_fed : (rest : List PlanLine) (loop : Loop) (unread : ℕ → List (List ℕ)) (finish : ℕ → Option InputFinish) (admitted : ℕ → Option ℕ) (c : ℕ)
      → IsFedSoFar rest loop unread finish admitted → c < loop.count → (loop.conns c).cause ≡ None → 4 ≤ length (loop.conns c).held
      → IsFedSoFar rest loop unread finish (at_number admitted c (Some (size_in (loop.conns c).held)))
  admitted_fed rest loop unread finish admitted c f l none four =
      record { opened = f.opened; count = f.count; tells = f.tells; marks = f.marks; each = λ x. go x (cases_eq x c) }
    where
      fed : (x : ℕ) → ((n : ℕ) → at_number admitted c (Some (size_in (loop.conns c).held)) x ≡ Some n → (x < loop.count) × ((loop.conns x).cause ≡ None) × HasItsSize (loop.conns x) n)
          → ConnIsFed rest x loop.count (loop.conns x) (input (marks_of x loop.tape)) (unread x) (finish x) (at_number admitted c (Some (size_in (loop.conns c).held)) x)
      fed x s = record { remains = (f.each x).remains; finishing = (f.each x).finishing; holds_less = (f.each x).holds_less; size = s }

      go : (x : ℕ) → (x ≡ c) ⊎ (x ≡ c → ⊥)
          → ConnIsFed rest x loop.count (loop.conns x) (input (marks_of x loop.tape)) (unread x) (finish x) (at_number admitted c (Some (size_in (loop.conns c).held)) x)
      go x (inl e) =
          subst (λ y. ConnIsFed rest y loop.count (loop.conns y) (input (marks_of y loop.tape)) (unread y) (finish y) (at_number admitted c (Some (size_in (loop.conns c).held)) y)) (sym e)
          (fed c (λ n a. (l, none, inr (four, sym (same_Some _ n (sym (put_same admitted c (Some (size_in (loop.conns c).held))) ∙ a))))))
      go x (inr n) = fed x (λ k a. (f.each x).size k (sym (put_other admitted c (Some (size_in (loop.conns c).held)) x n) ∙ a))

  pub kept_open : (cause : Option EndCause) (size : Option ℕ) (n : ℕ) → kept_while_open cause size ≡ Some n → size ≡ Some n
  kept_open None size n e = e
  kept_open (Some cause) size n e = absurd (none-some n e)

  -- bytes that make a part of a frame are less than a size, or than the frame
  part_holds : (bytes : List ℕ) → progress_by max bytes ≡ Some part → HoldsLess max bytes
  part_holds bytes e = go (nat_lt (length bytes) 4) refl e
    where
      other : (b : Bool) → (if b then Some (whole (drop 4 bytes)) else when (is_bad_size max (from_be_bytes w32 (take 4 bytes)) bytes) (Some (bad_size (cast_signed w32 (from_be_bytes w32 (take 4 bytes)))))) ≡ Some part → ⊥
      other true f = let g : whole (drop 4 bytes) ≡ part = same_Some (whole (drop 4 bytes)) part f in let h : ⊥ = cc in h
      other false f = bad (is_bad_size max (from_be_bytes w32 (take 4 bytes)) bytes) f
        where
          bad : (b : Bool) → when b (Some (bad_size (cast_signed w32 (from_be_bytes w32 (take 4 bytes))))) ≡ Some part → ⊥
          bad true f = let g : bad_size (cast_signed w32 (from_be_bytes w32 (take 4 bytes))) ≡ part = same_Some (bad_size (cast_signed w32 (from_be_bytes w32 (take 4 bytes)))) part f in let h : ⊥ = cc in h
          bad false f = none-some part f

      behind : (b : Bool) → (is_size max (from_be_bytes w32 (take 4 bytes)) bytes && nat_lt (length (drop 4 bytes)) (from_be_bytes w32 (take 4 bytes))) ≡ b
          → (if b then Some part else if is_whole max bytes then Some (whole (drop 4 bytes)) else when (is_bad_size max (from_be_bytes w32 (take 4 bytes)) bytes) (Some (bad_size (cast_signed w32 (from_be_bytes w32 (take 4 bytes)))))) ≡ Some part
          → HoldsLess max bytes
      behind true s f =
          let n : ℕ = from_be_bytes w32 (take 4 bytes) in
          let t : (is_size max n bytes ≡ true) × (nat_lt (length (drop 4 bytes)) n ≡ true) = and_parts (is_size max n bytes) (nat_lt (length (drop 4 bytes)) n) s in
          let a : (nat_le 1 n ≡ true) × ((nat_le n max && are_same bytes (to_be_bytes w32 n ++ drop 4 bytes)) ≡ true) = and_parts (nat_le 1 n) (nat_le n max && are_same bytes (to_be_bytes w32 n ++ drop 4 bytes)) t.0 in
          let b : (nat_le n max ≡ true) × (are_same bytes (to_be_bytes w32 n ++ drop 4 bytes) ≡ true) = and_parts (nat_le n max) (are_same bytes (to_be_bytes w32 n ++ drop 4 bytes)) a.1 in
          inr (record { size = n; bytes = drop 4 bytes; same = same_lists bytes (to_be_bytes w32 n ++ drop 4 bytes) b.1; within = leb-true n max b.0; less = ltb-true (length (drop 4 bytes)) n t.1 })
      behind false s f = absurd (other (is_whole max bytes) f)

      go : (b : Bool) → nat_lt (length bytes) 4 ≡ b → (if b then Some part else progress_behind max (from_be_bytes w32 (take 4 bytes)) bytes) ≡ Some part → HoldsLess max bytes
      go true s f = inl (ltb-true (length bytes) 4 s)
      go false s f = behind (is_size max (from_be_bytes w32 (take 4 bytes)) bytes && nat_lt (length (drop 4 bytes)) (from_be_bytes w32 (take 4 bytes))) refl f

  -- a connection that has read
  pub read_conn : (rest : List PlanLine) (c count : ℕ) (conn : LoopConn) (bytes : List ℕ) (progress : FrameProgress) (read : List ℕ) (left : List (List ℕ)) (finish : Option InputFinish) (admitted : Option ℕ)
      → OwesNothing conn → progress_by max (conn.held ++ bytes) ≡ Some progress → Remains (pieces_on c script.lines) (read ++ bytes) (left ++ pieces_on c rest) → Finishing rest c finish
      → ((n : ℕ) → admitted ≡ Some n → (c < count) × (conn.cause ≡ None) × HasItsSize conn n)
      → ConnIsFed rest c count (read_more conn bytes progress) (read ++ input (marks_read c bytes progress)) left finish (kept_while_open (read_more conn bytes progress).cause admitted)
  read_conn rest c count conn bytes part read left finish admitted owes made r f s =
      record {
        remains = subst (λ b. Remains (pieces_on c script.lines) (read ++ b) (left ++ pieces_on c rest)) (sym (append-nil bytes)) r;
        finishing = f;
        holds_less = λ l n. part_holds (conn.held ++ bytes) made;
        size = λ n e.
            let t : (c < count) × (conn.cause ≡ None) × HasItsSize conn n = s n (kept_open conn.cause admitted n e) in (t.0, t.1, further n t.2);
      }
    where
      further : (n : ℕ) → HasItsSize conn n → (conn.collected < length conn.payloads) ⊎ ((4 ≤ length (conn.held ++ bytes)) × (n ≡ size_in (conn.held ++ bytes)))
      further n (inl l) = inl l
      further n (inr t) = inr (omega (arith, t.0, length-append conn.held bytes), t.1 ∙ sym (size_stays conn.held bytes t.0))
  read_conn rest c count conn bytes (bad_size size) read left finish admitted owes made r f s =
      ended_conn rest c count _ (SizeFault size) _ left finish refl
      (subst (λ b. Remains (pieces_on c script.lines) (read ++ b) (left ++ pieces_on c rest)) (sym (append-nil bytes)) r) f
  read_conn rest c count conn bytes (whole payload) read left finish admitted owes made r f s =
      record {
        remains = subst (λ b. Remains (pieces_on c script.lines) (read ++ b) (left ++ pieces_on c rest)) (sym (append-nil bytes)) r;
        finishing = f;
        holds_less = λ l n. inl (omega arith);
        size = λ n e.
            let t : (c < count) × (conn.cause ≡ None) × HasItsSize conn n = s n (kept_open conn.cause admitted n e) in
            let all : conn.collected ≡ length conn.payloads = owes.0 in
            (t.0, t.1, inl (omega (arith, all, length-append conn.payloads (payload ∷ []))));
      }

  -- the marks of it
  pub read_marks : (c : ℕ) (bytes : List ℕ) (progress : FrameProgress) (tape : List Mark) → MarksAreFed tape → MarkIsFed tape (Read c bytes)
      → MarksAreFed (tape ++ marks_read c bytes progress) × AllOf c (marks_read c bytes progress) × (opened_in (marks_read c bytes progress) ≡ [])
  read_marks c bytes part tape a m = (fed_push tape (Read c bytes) a m, (refl, tt), refl)
  read_marks c bytes (bad_size size) tape a m = (fed_two tape (Read c bytes) (Closed c) a m tt, (refl, (refl, tt)), refl)
  read_marks c bytes (whole payload) tape a m = (fed_push tape (Read c bytes) a m, (refl, tt), refl)
