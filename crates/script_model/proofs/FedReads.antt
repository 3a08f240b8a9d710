-- A rehearsal opens its connections in order, and reads what its script brings.
use Rattle.std.proofs.Common.{◌≡◌, ℕ, zero, suc, ◌+◌, ◌^◌, ◌<◌, ◌≤◌, ◌⊎◌, nat_lt, Bool, true, false, ◌||◌, ◌==◌, if◌then◌else◌, Option, None, Some, List, [], ◌∷◌, ◌++◌, map, refl, sym, ap, ◌∙◌, subst, inl, inr, option_map, arith, append_assoc, append-nil, eq-eqb, ne_eqb}
use Rattle.std.proofs.lemmas.Bool.{cases_eq, ltb-true, ltb-false}
use Rattle.std.proofs.lemmas.Option.{none-some}
use Rattle.streams.specs.declared.marks.Mark.TheVariants.{Read, Ended, ReadFailed}
use Rattle.host_model.specs.declared.cause.EndCause.{EndCause}
use Rattle.host_model.specs.Journal.{ServiceRules}
use Rattle.host_model.specs.DeskRules.{DeskRules}
use Rattle.host_model.specs.Marks.{marks_of, input}
use Rattle.machine_model.specs.Loop.{LoopConn, most_connections, open_among, count_if_open, opens}
use Rattle.machine_model.specs.Machine.{Cell, on_conn, EventsLead, IsFirst}
use Rattle.machine_model.specs.Plain.{when, opened_plain, Told, goes, event_told, with_loop, run_plain}
use Rattle.machine_model.proofs.Lists.{put_same, put_other}
use Rattle.machine_model.proofs.Taping.{nothing_told}
use Rattle.machine_model.proofs.Budgeting.{step_told}
use Rattle.script_model.specs.Arrival.{bytes_of_pieces}
use Rattle.script_model.specs.ScriptLines.{PlanLine, opening, piece, input_end, input_fault, resting, turn_of_conn, turn_of_worker, turn_of_outcome, ScriptPlan, one_if_opens, openings, piece_by, pieces_on, ends_input, fails_input, some_line, count_up}
use Rattle.script_model.specs.InputEnds.{EndsBehindPieces}
use Rattle.script_model.specs.RestLines.{opened_in}
use Rattle.script_model.specs.Fed.{IsReadFrom}
use Rattle.script_model.specs.Playing.{InputFinish, finishes, faults, MemoryAt, Play, at_number, told_in, conn_move, worker_move, collect_move}
use Rattle.script_model.specs.Rehearsing.{left_by, line_done, lines_done, before_all, IsRehearsalOf}
use Rattle.script_model.proofs.Remaining.{Remains, all_remains}
use Rattle.script_model.proofs.FedSoFar.{MarksAreFed, no_marks, Finishing, IsFedSoFar, opened_fed, line_fed, finish_on}
use Rattle.script_model.proofs.Meeting.{Meets, and_meets}
use Rattle.script_model.proofs.FedMoves.{come_to, Fed, worker_fed, collect_fed, conn_fed, left_fed, drain_fed}

-- a line that passes the test is one that does
some_at : (test : PlanLine → Bool) (above : List PlanLine) (line : PlanLine) (behind : List PlanLine) → test line ≡ true → some_line test (above ++ line ∷ behind) ≡ true
some_at test [] line behind e = ap (λ b. b || some_line test behind) e
some_at test (x ∷ above) line behind e = ap (λ b. test x || b) (some_at test above line behind e) ∙ or_true (test x)
  where
    or_true : (b : Bool) → (b || true) ≡ true
    or_true true = refl
    or_true false = refl

-- of the first n, no more than n are open
open_within : (conns : ℕ → LoopConn) (n : ℕ) → open_among conns n ≤ n
open_within conns zero = omega arith
open_within conns (suc n) =
    let t : open_among conns n ≤ n = open_within conns n in
    let k : count_if_open (conns n).cause ≤ 1 = one (conns n).cause in
    omega arith
  where
    one : (cause : Option EndCause) → count_if_open cause ≤ 1
    one None = omega arith
    one (Some cause) = omega arith

module _ {C A M : Type 0} (d : DeskRules C A) (r : ServiceRules C A M) (memory : ℕ → MemoryAt)
    (computes : (first cell : Cell C A M) (told : List Told) → run_plain d r told (Some first) ≡ Some cell → EventsLead d r first (map event_told told) cell)
    (small : d.max < 2 ^ 31) (script : ScriptPlan) where
  -- a play is fed before these lines
  abbrev pub FedBefore : List PlanLine → Play C A M → Type 0
  FedBefore rest play = Fed d r memory computes small script rest play

  -- a line that only has its turn
  abbrev IsTurn : PlanLine → Type 0
  IsTurn line = (one_if_opens line ≡ 0) × ((c : ℕ) → piece_by c line ≡ [])

  turn_done : (line : PlanLine) (rest : List PlanLine) (play : Play C A M) → IsTurn line → FedBefore (line ∷ rest) play → FedBefore rest play
  turn_done line rest play t f =
      line_fed d.max script line rest play.cell.loop play.unread play.unread play.finish play.finish play.admitted f t.0
      (λ c. sym (ap (λ p. play.unread c ++ p) (t.1 c) ∙ append-nil (play.unread c))) (λ c. finish_on d.max script line rest c (play.finish c) (f.each c).finishing)

  -- one more connection is opened; that none may be is so only where the lines open too many
  opening_done : (rest : List PlanLine) (play : Play C A M) → FedBefore (opening ∷ rest) play → FedBefore rest (left_by play (told_in d r play (goes (on_conn opens))))
  opening_done rest play f = go (nat_lt (open_among play.cell.loop.conns play.cell.loop.count) most_connections) refl
    where
      go : (b : Bool) → nat_lt (open_among play.cell.loop.conns play.cell.loop.count) most_connections ≡ b
          → IsFedSoFar d.max script rest (left_by play (option_map (come_to play) (with_loop play.cell (when b (Some (opened_plain play.cell.loop)))))).cell.loop
          (left_by play (option_map (come_to play) (with_loop play.cell (when b (Some (opened_plain play.cell.loop)))))).unread
          (left_by play (option_map (come_to play) (with_loop play.cell (when b (Some (opened_plain play.cell.loop)))))).finish
          (left_by play (option_map (come_to play) (with_loop play.cell (when b (Some (opened_plain play.cell.loop)))))).admitted
      go true e =
          let cell : Cell C A M = record play.cell { loop = opened_plain play.cell.loop } in
          let l : open_among play.cell.loop.conns play.cell.loop.count < most_connections = ltb-true (open_among play.cell.loop.conns play.cell.loop.count) most_connections e in
          opened_fed d.max script rest play.cell.loop play.unread play.finish play.admitted f (step_told d r play.cell (on_conn opens) cell f.tells (opened_plain play.cell.loop, (l, refl), refl))
      go false e =
          record {
            opened = f.opened;
            count = λ few.
                let many : most_connections ≤ open_among play.cell.loop.conns play.cell.loop.count = ltb-false (open_among play.cell.loop.conns play.cell.loop.count) most_connections e in
                let within : open_among play.cell.loop.conns play.cell.loop.count ≤ play.cell.loop.count = open_within play.cell.loop.conns play.cell.loop.count in
                let all : play.cell.loop.count + (1 + openings rest) ≡ openings script.lines = f.count few in
                absurd (let g : ⊥ = omega (arith, few) in g);
            tells = f.tells;
            marks = f.marks;
            each = λ x.
                record { remains = (f.each x).remains; finishing = finish_on d.max script opening rest x (play.finish x) (f.each x).finishing; holds_less = (f.each x).holds_less; size = (f.each x).size };
          }

  -- a piece arrives
  piece_done : (rest : List PlanLine) (play : Play C A M) (c : ℕ) (bytes : List ℕ) → FedBefore (piece c bytes ∷ rest) play
      → FedBefore rest (record play { unread = at_number play.unread c (play.unread c ++ bytes ∷ []) })
  piece_done rest play c bytes f =
      line_fed d.max script (piece c bytes) rest play.cell.loop play.unread (at_number play.unread c (play.unread c ++ bytes ∷ [])) play.finish play.finish play.admitted f refl (λ x. go x (cases_eq x c))
      (λ x. finish_on d.max script (piece c bytes) rest x (play.finish x) (f.each x).finishing)
    where
      go : (x : ℕ) → (x ≡ c) ⊎ (x ≡ c → ⊥) → at_number play.unread c (play.unread c ++ bytes ∷ []) x ≡ play.unread x ++ (if c == x then bytes ∷ [] else [])
      go x (inl e) =
          ap (at_number play.unread c (play.unread c ++ bytes ∷ [])) e ∙ put_same play.unread c (play.unread c ++ bytes ∷ []) ∙ ap (λ y. play.unread y ++ bytes ∷ []) (sym e)
          ∙ ap (λ b. play.unread x ++ (if b then bytes ∷ [] else [])) (sym (eq-eqb c x (sym e)))
      go x (inr n) =
          put_other play.unread c (play.unread c ++ bytes ∷ []) x n ∙ sym (append-nil (play.unread x)) ∙ ap (λ b. play.unread x ++ (if b then bytes ∷ [] else [])) (sym (ne_eqb c x (λ e. n (sym e))))

  -- a line that says how an input goes out
  finish_done : (line : PlanLine) (rest : List PlanLine) (play : Play C A M) (c : ℕ) (finish : InputFinish) → IsTurn line → FedBefore (line ∷ rest) play → Finishing d.max script rest c (Some finish)
      → FedBefore rest (record play { finish = at_number play.finish c (Some finish) })
  finish_done line rest play c finish t f so =
      line_fed d.max script line rest play.cell.loop play.unread play.unread play.finish (at_number play.finish c (Some finish)) play.admitted f t.0
      (λ x. sym (ap (λ p. play.unread x ++ p) (t.1 x) ∙ append-nil (play.unread x))) (λ x. go x (cases_eq x c))
    where
      go : (x : ℕ) → (x ≡ c) ⊎ (x ≡ c → ⊥) → Finishing d.max script rest x (at_number play.finish c (Some finish) x)
      go x (inl e) =
          subst (λ y. Finishing d.max script rest y (at_number play.finish c (Some finish) y)) (sym e) (subst (Finishing d.max script rest c) (sym (put_same play.finish c (Some finish))) so)
      go x (inr n) = subst (Finishing d.max script rest x) (sym (put_other play.finish c (Some finish) x n)) (finish_on d.max script line rest x (play.finish x) (f.each x).finishing)

  line_keeps : (fuel budget workers : ℕ) (above : List PlanLine) (line : PlanLine) (rest : List PlanLine) (play : Play C A M) → script.lines ≡ above ++ line ∷ rest → FedBefore (line ∷ rest) play
      → Meets (FedBefore rest) (line_done d r memory fuel budget workers play line)
  line_keeps fuel budget workers above opening rest play is f = opening_done rest play f
  line_keeps fuel budget workers above (piece c bytes) rest play is f = piece_done rest play c bytes f
  line_keeps fuel budget workers above (input_end c) rest play is f =
      finish_done (input_end c) rest play c finishes (refl, λ x. refl) f
      (ap (some_line (ends_input c)) is ∙ some_at (ends_input c) above (input_end c) rest (eq-eqb c c refl), λ b. b.ended above rest c is)
  line_keeps fuel budget workers above (input_fault c) rest play is f =
      finish_done (input_fault c) rest play c faults (refl, λ x. refl) f
      (ap (some_line (fails_input c)) is ∙ some_at (fails_input c) above (input_fault c) rest (eq-eqb c c refl), λ b. b.failed above rest c is)
  line_keeps fuel budget workers above resting rest play is f = drain_fed d r memory computes small script rest fuel fuel budget workers play (turn_done resting rest play (refl, λ x. refl) f)
  line_keeps fuel budget workers above (turn_of_conn c) rest play is f =
      let g : FedBefore rest play = turn_done (turn_of_conn c) rest play (refl, λ x. refl) f in
      left_fed d r memory computes small script rest play (conn_move d r memory budget c play) g (conn_fed d r memory computes small script rest budget c play g)
  line_keeps fuel budget workers above (turn_of_worker w) rest play is f =
      let g : FedBefore rest play = turn_done (turn_of_worker w) rest play (refl, λ x. refl) f in
      left_fed d r memory computes small script rest play (worker_move d r memory w play) g (worker_fed d r memory computes small script rest w play g)
  line_keeps fuel budget workers above turn_of_outcome rest play is f =
      let g : FedBefore rest play = turn_done turn_of_outcome rest play (refl, λ x. refl) f in
      left_fed d r memory computes small script rest play (collect_move d r play) g (collect_fed d r memory computes small script rest play g)

  lines_keep : (fuel budget workers : ℕ) (above lines : List PlanLine) (play : Play C A M) → script.lines ≡ above ++ lines → FedBefore lines play
      → Meets (FedBefore []) (lines_done d r memory fuel budget workers lines play)
  lines_keep fuel budget workers above [] play is f = drain_fed d r memory computes small script [] fuel fuel budget workers play f
  lines_keep fuel budget workers above (line ∷ rest) play is f =
      and_meets (FedBefore rest) (FedBefore []) (λ next. lines_done d r memory fuel budget workers rest next) (line_done d r memory fuel budget workers play line)
      (line_keeps fuel budget workers above line rest play is f) (λ next a. lines_keep fuel budget workers (above ++ line ∷ []) rest next (is ∙ sym (append_assoc above (line ∷ []) rest)) a)

  -- before the first line nothing was opened or read
  first_fed : (memories : List M) (first : Cell C A M) → IsFirst memories first → FedBefore script.lines (before_all first script)
  first_fed memories first is_first =
      record {
        opened = ap opened_in is_first.tape ∙ ap (count_up 0) (sym is_first.count);
        count = λ few. let e : first.loop.count ≡ 0 = is_first.count in omega arith;
        tells = nothing_told d.max first.loop is_first.tape is_first.count;
        marks = subst (MarksAreFed d.max script) (sym is_first.tape) (no_marks d.max script);
        each = λ c.
            record {
              remains = subst (λ b. Remains (pieces_on c script.lines) b (pieces_on c script.lines)) (sym (ap (λ t. input (marks_of c t)) is_first.tape)) (all_remains (pieces_on c script.lines));
              finishing = tt;
              holds_less = λ l n. let e : first.loop.count ≡ 0 = is_first.count in absurd (let g : ⊥ = omega arith in g);
              size = λ n e. absurd (none-some n e);
            };
      }

  pub last_fed : (memories : List M) (budget workers wants : ℕ) (first last : Cell C A M) → IsFirst memories first → (t : IsRehearsalOf d r memory budget workers script wants first last)
      → FedBefore [] t.play
  last_fed memories budget workers wants first last is_first t =
      subst (Meets (FedBefore [])) t.done (lines_keep t.fuel budget workers [] script.lines (before_all first script) refl (first_fed memories first is_first))

  pub opens_all : (memories : List M) (budget workers wants : ℕ) (first last : Cell C A M) → IsFirst memories first → IsRehearsalOf d r memory budget workers script wants first last
      → openings script.lines ≤ most_connections → opened_in last.loop.tape ≡ count_up 0 (openings script.lines)
  opens_all memories budget workers wants first last is_first t few =
      let f : FedBefore [] t.play = last_fed memories budget workers wants first last is_first t in
      let e : t.play.cell.loop.count + 0 ≡ openings script.lines = f.count few in
      let n : t.play.cell.loop.count ≡ openings script.lines = omega arith in
      ap (λ (x : Cell C A M). opened_in x.loop.tape) t.same ∙ f.opened ∙ ap (count_up 0) n

  pub reads_all : (memories : List M) (budget workers wants : ℕ) (first last : Cell C A M) → IsFirst memories first → IsRehearsalOf d r memory budget workers script wants first last
      → EndsBehindPieces script.lines → (c : ℕ) → IsReadFrom d.max script last.loop.tape c
  reads_all memories budget workers wants first last is_first t behind c =
      let f : FedBefore [] t.play = last_fed memories budget workers wants first last is_first t in
      subst (λ (x : Cell C A M). IsReadFrom d.max script x.loop.tape c) (sym t.same)
      (record {
        bytes = (bytes_of_pieces (t.play.unread c ++ []), sym (f.each c).remains.bytes);
        reads = λ front back bytes e. f.marks front back (Read c bytes) e;
        ended = λ front back e. let g : _ × _ = f.marks front back (Ended c) e in (g.0, g.1 behind);
        failed = λ front back e. let g : _ × _ = f.marks front back (ReadFailed c) e in (g.0, g.1 behind);
      })
