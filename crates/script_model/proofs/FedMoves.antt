-- Each move of a rehearsal keeps it fed by its script.
use Rattle.std.proofs.Common.{◌≡◌, ℕ, zero, suc, ◌+◌, ◌-◌, ◌^◌, ◌<◌, ◌≤◌, min, not, nat_lt, nat_le, Bool, true, false, ◌==◌, if◌then◌else◌, Option, None, Some, List, [], ◌∷◌, ◌++◌, map, length, take, drop, refl, sym, ap, ◌∙◌, subst, inl, inr, arith, append-nil}
use Rattle.std.proofs.lemmas.Bool.{and_parts, ltb-true, ltb-false, false≢true}
use Rattle.std.proofs.lemmas.Option.{none-some, same_Some}
use Rattle.streams.specs.declared.marks.Mark.{Mark}
use Rattle.streams.specs.declared.marks.Mark.TheVariants.{Ended, Wrote, ReadFailed, WriteFailed, Closed}
use Rattle.host_model.specs.declared.cause.EndCause.{EndCause}
use Rattle.host_model.specs.declared.cause.EndCause.TheVariants.{NoMemory, ReadFault, WriteFault}
use Rattle.host_model.specs.Journal.{ServiceRules}
use Rattle.host_model.specs.DeskRules.{DeskRules, DeskDecision, Close, Silent, Reply, Invoke}
use Rattle.host_model.specs.Marks.{marks_of, input}
use Rattle.host_model.specs.World.{end_behind}
use Rattle.machine_model.specs.HallState.{Job, JobOutcome}
use Rattle.machine_model.specs.Loop.{LoopConn, Loop, OwesNothing, FrameProgress, read_more, marks_read, changed, with_cause, submitted_more, ConnEvent, reads, ends, fails_read, writes, fails_write, gives_up}
use Rattle.machine_model.specs.Worker.{WorkerState, idle, holds, has_answer, has_none}
use Rattle.machine_model.specs.Machine.{Cell, MachineEvent, on_conn, submits, takes, applies, puts, collects, closes, Steps, EventsLead}
use Rattle.machine_model.specs.Plain.{when, is_empty, has_none_yet, is_open, progress_by, progress_plain, reads_plain, moved_plain, conn_event_plain, Told, goes, puts_none, event_told, with_loop, submit_plain, collect_plain, told_plain, run_plain}
use Rattle.machine_model.specs.AtFronts.{size_in}
use Rattle.machine_model.proofs.Computing.{passed}
use Rattle.machine_model.proofs.Lists.{put_same, put_other}
use Rattle.machine_model.proofs.Taping.{AllOf, TapeTells}
use Rattle.machine_model.proofs.Budgeting.{step_told}
use Rattle.script_model.specs.Arrival.{bytes_of_pieces}
use Rattle.script_model.specs.Feeding.{Completes}
use Rattle.script_model.specs.ScriptLines.{PlanLine, PlanRule, takes_most, blocks, fails, ScriptPlan, pieces_on, count_up}
use Rattle.script_model.specs.InputEnds.{EndsBehindPieces}
use Rattle.script_model.specs.RestLines.{opened_in}
use Rattle.script_model.specs.Playing.{InputFinish, finishes, faults, MemoryAt, ample, lacking, lacking_for_call, lacking_for_answer, is_ample, Play, most_read, at_number, kept_while_open, pieces_left, all_admitted, event_on, or_else, told_without, told_wanting, by_memory, admission, freed, freed_if_over, with_rules, with_unread, told_in, on_one, read_behind, read_move, write_move, size_move, open_move, conn_move, step_of_worker, worker_move, collect_first, collect_move}
use Rattle.script_model.specs.Rehearsing.{workers_among, is_idle, left_by, goes_on_with, until_still, work_through, all_read, all_work, pass, drain}
use Rattle.script_model.proofs.Remaining.{Remains, remains_read, part_read, left-append, size_completes, frame_completes}
use Rattle.script_model.proofs.FedSoFar.{HasItsSize, MarkIsFed, MarksAreFed, fed_push, fed_two, Finishing, ConnIsFed, IsFedSoFar, one_fed, changed_fed, ended_conn, nothing_left, settled_fed, admitted_fed, kept_open, read_conn, read_marks}
use Rattle.script_model.proofs.Meeting.{Meets, met, either_meets, or_meets, and_meets, mapped_meets}

-- a connection is open where the test says so
is_open_so : (loop : Loop) (c : ℕ) → is_open loop c ≡ true → (c < loop.count) × ((loop.conns c).cause ≡ None)
is_open_so loop c e =
    let t : (nat_lt c loop.count ≡ true) × (has_none_yet (loop.conns c).cause ≡ true) = and_parts (nat_lt c loop.count) (has_none_yet (loop.conns c).cause) e in
    (ltb-true c loop.count t.0, none (loop.conns c).cause t.1)
  where
    none : (cause : Option EndCause) → has_none_yet cause ≡ true → cause ≡ None
    none None e = refl
    none (Some cause) e = absurd (false≢true e)

-- what a read made, and what it leaves
read_is : (max : ℕ) (loop new : Loop) (c : ℕ) (bytes : List ℕ) → conn_event_plain max loop (reads c bytes) ≡ Some new
    → (progress : FrameProgress) × (progress_by max ((loop.conns c).held ++ bytes) ≡ Some progress) × (new ≡ changed loop c (read_more (loop.conns c) bytes progress) (marks_read c bytes progress))
read_is max loop new c bytes e =
    go _ (progress_by max ((loop.conns c).held ++ bytes)) (passed (is_open loop c) (moved_plain loop c (reads_plain max c bytes (loop.conns c))) new e).1
  where
    go : (b : Bool) (progress : Option FrameProgress) → moved_plain loop c (when b (progress_plain c (loop.conns c) bytes progress)) ≡ Some new
        → (made : FrameProgress) × (progress ≡ Some made) × (new ≡ changed loop c (read_more (loop.conns c) bytes made) (marks_read c bytes made))
    go false progress e = absurd (none-some new e)
    go true None e = absurd (none-some new e)
    go true (Some progress) e = (progress, refl, sym (same_Some _ new e))

module _ {C A M : Type 0} where
  -- a machine's cell that a play comes to by a move
  abbrev pub come_to : Play C A M → Cell C A M → Play C A M
  come_to play cell = record play { cell = cell; moves = suc play.moves }

  abbrev pub wanting : Play C A M → Cell C A M → Play C A M
  wanting play cell = record play { cell = cell; moves = suc play.moves; wants = suc play.wants }

  -- the loop that a cell has
  loop_of : (cell new : Cell C A M) (o : Option Loop) → with_loop cell o ≡ Some new → o ≡ Some new.loop
  loop_of cell new None e = absurd (none-some new e)
  loop_of cell new (Some loop) e = ap (λ (x : Cell C A M). Some x.loop) (same_Some _ new e)

module _ {C A M : Type 0} (d : DeskRules C A) (r : ServiceRules C A M) (memory : ℕ → MemoryAt)
    (computes : (first cell : Cell C A M) (told : List Told) → run_plain d r told (Some first) ≡ Some cell → EventsLead d r first (map event_told told) cell) where
  -- what the machine is told, it does by an event
  steps : (old new : Cell C A M) (told : Told) → told_plain d r old told ≡ Some new → Steps d r old (event_told told) new
  steps old new told e = let t : EventsLead d r old (event_told told ∷ []) new = computes old new (told ∷ []) e in subst (Steps d r old (event_told told)) (sym t.2) t.1

  -- a worker's event leaves the loop
  abbrev OfWorker : MachineEvent → Type 0
  OfWorker (takes w) = Unit {0}
  OfWorker (applies w) = Unit {0}
  OfWorker (puts w) = Unit {0}
  OfWorker (on_conn conn_event) = ⊥
  OfWorker (submits c) = ⊥
  OfWorker collects = ⊥
  OfWorker closes = ⊥

  loop_stays : (old new : Cell C A M) (event : MachineEvent) → OfWorker event → Steps d r old event new → new.loop ≡ old.loop
  loop_stays old new (takes w) o t = ap (λ (x : Cell C A M). x.loop) t.5
  loop_stays old new (applies w) o t = ap (λ (x : Cell C A M). x.loop) t.2.5
  loop_stays old new (puts w) o t = ap (λ (x : Cell C A M). x.loop) t.2.5
  loop_stays old new (on_conn conn_event) o t = absurd o
  loop_stays old new (submits c) o t = absurd o
  loop_stays old new collects o t = absurd o
  loop_stays old new closes o t = absurd o

  event_of_worker : (w : ℕ) (decision : DeskDecision C) → OfWorker (event_on d r w decision)
  event_of_worker w (Close fault) = tt
  event_of_worker w Silent = tt
  event_of_worker w (Reply reply) = tt
  event_of_worker w (Invoke call) = tt

  without_of_worker : (w : ℕ) (at : MemoryAt) (decision : DeskDecision C) → OfWorker (event_told (told_without d r w at decision))
  without_of_worker w ample decision = tt
  without_of_worker w lacking decision = tt
  without_of_worker w lacking_for_call (Close fault) = tt
  without_of_worker w lacking_for_call Silent = tt
  without_of_worker w lacking_for_call (Reply reply) = tt
  without_of_worker w lacking_for_call (Invoke call) = tt
  without_of_worker w lacking_for_answer (Close fault) = tt
  without_of_worker w lacking_for_answer Silent = tt
  without_of_worker w lacking_for_answer (Reply reply) = tt
  without_of_worker w lacking_for_answer (Invoke call) = tt

  told_meets : (P : Play C A M → Type 0) (play : Play C A M) (told : Told)
      → ((cell : Cell C A M) → told_plain d r play.cell told ≡ Some cell → Steps d r play.cell (event_told told) cell → P (come_to play cell)) → Meets P (told_in d r play told)
  told_meets P play told f = mapped_meets P (come_to play) (told_plain d r play.cell told) (met (λ cell. P (come_to play cell)) (told_plain d r play.cell told) (λ cell e. f cell e (steps play.cell cell told e)))

  wanting_meets : (P : Play C A M → Type 0) (play : Play C A M) (told : Told)
      → ((cell : Cell C A M) → told_plain d r play.cell told ≡ Some cell → Steps d r play.cell (event_told told) cell → P (wanting play cell)) → Meets P (told_wanting d r play told)
  wanting_meets P play told f = mapped_meets P (wanting play) (told_plain d r play.cell told) (met (λ cell. P (wanting play cell)) (told_plain d r play.cell told) (λ cell e. f cell e (steps play.cell cell told e)))

  one_meets : (P : Play C A M → Type 0) (play : Play C A M) (c : ℕ) (conn_event : ConnEvent)
      → ((cell : Cell C A M) → told_plain d r play.cell (goes (on_conn conn_event)) ≡ Some cell → Steps d r play.cell (on_conn conn_event) cell → P (freed_if_over c (come_to play cell)))
      → Meets P (on_one d r play c conn_event)
  one_meets P play c conn_event f =
      mapped_meets P (freed_if_over c) (told_in d r play (goes (on_conn conn_event))) (told_meets (λ p. P (freed_if_over c p)) play (goes (on_conn conn_event)) f)

  module _ (small : d.max < 2 ^ 31) (script : ScriptPlan) (rest : List PlanLine) where
    abbrev pub Fed : Play C A M → Type 0
    Fed play = IsFedSoFar d.max script rest play.cell.loop play.unread play.finish play.admitted

    -- with another loop that is the same
    same_loop : (play : Play C A M) (loop : Loop) → loop ≡ play.cell.loop → Fed play → IsFedSoFar d.max script rest loop play.unread play.finish play.admitted
    same_loop play loop e f = subst (λ (x : Loop). IsFedSoFar d.max script rest x play.unread play.finish play.admitted) (sym e) f

    worker_told : (play : Play C A M) (told : Told) → OfWorker (event_told told) → Fed play → Meets Fed (told_in d r play told)
    worker_told play told o f = told_meets Fed play told (λ cell e s. same_loop play cell.loop (loop_stays play.cell cell (event_told told) o s) f)

    worker_wants : (play : Play C A M) (told : Told) → OfWorker (event_told told) → Fed play → Meets Fed (told_wanting d r play told)
    worker_wants play told o f = wanting_meets Fed play told (λ cell e s. same_loop play cell.loop (loop_stays play.cell cell (event_told told) o s) f)

    by_memory_fed : (play : Play C A M) (at : MemoryAt) (told : Told) (o : Option (Play C A M)) → Meets Fed (told_wanting d r play told) → Meets Fed o → Meets Fed (by_memory d r at play told o)
    by_memory_fed play at told o a b = either_meets Fed (is_ample at) o (or_else (told_wanting d r play told) o) (λ e. b) (λ e. or_meets Fed (told_wanting d r play told) o a b)

    step_fed : (play : Play C A M) (w : ℕ) (worker : WorkerState A) (jobs : List Job) → Fed play → Meets Fed (step_of_worker d r memory play w worker jobs)
    step_fed play w idle [] f = tt
    step_fed play w idle (job ∷ jobs) f = worker_told play (goes (takes w)) tt f
    step_fed play w (holds key payload) jobs f =
        let without : Told = told_without d r w (memory play.moves) (d.decide payload) in
        let told : Told = goes (event_on d r w (d.decide payload)) in
        by_memory_fed play (memory play.moves) without (told_in d r play told) (worker_wants play without (without_of_worker w (memory play.moves) (d.decide payload)) f)
        (worker_told play told (event_of_worker w (d.decide payload)) f)
    step_fed play w (has_answer key payload answer) jobs f =
        by_memory_fed play (memory play.moves) (puts_none w) (told_in d r play (goes (puts w))) (worker_wants play (puts_none w) tt f) (worker_told play (goes (puts w)) tt f)
    step_fed play w (has_none key payload) jobs f = worker_told play (puts_none w) tt f

    pub worker_fed : (w : ℕ) (play : Play C A M) → Fed play → Meets Fed (worker_move d r memory w play)
    worker_fed w play f = step_fed play w (play.cell.workers w) play.cell.hall.jobs f

    -- an outcome is collected
    pub collect_fed : (play : Play C A M) → Fed play → Meets Fed (collect_move d r play)
    collect_fed play f = go play.cell.hall.outcomes refl
      where
        go : (outcomes : List JobOutcome) → play.cell.hall.outcomes ≡ outcomes
            → Meets (λ (p : Play C A M). IsFedSoFar d.max script rest p.cell.loop p.unread p.finish p.admitted) (collect_first d r play outcomes)
        go [] is = tt
        go (outcome ∷ later) is =
            mapped_meets (λ (p : Play C A M). IsFedSoFar d.max script rest p.cell.loop p.unread p.finish p.admitted) (freed outcome.key.c) (told_in d r play (goes collects))
            (told_meets (λ (p : Play C A M). IsFedSoFar d.max script rest p.cell.loop p.unread p.finish (at_number p.admitted outcome.key.c None)) play (goes collects)
            (λ cell e s.
            let t : _ × (_ ≡ Some cell) = passed _ _ cell (sym (ap (collect_plain play.cell) is) ∙ e) in
            settled_fed d.max script rest play.cell.loop cell.loop play.unread play.finish play.admitted outcome.key.c outcome.settled (play.cell.loop.conns outcome.key.c).cause f refl
            (ap (λ (x : Cell C A M). x.loop) (sym (same_Some _ cell t.1))) (step_told d r play.cell collects cell f.tells s)))

    -- a payload is submitted
    submit_fed : (play : Play C A M) (c : ℕ) → Fed play → Meets Fed (told_in d r play (goes (submits c)))
    submit_fed play c f = told_meets Fed play (goes (submits c)) (λ cell e s. go cell s play.cell.hall.closed _ (passed _ _ cell e).1)
      where
        go : (cell : Cell C A M) → Steps d r play.cell (submits c) cell → (closed : Bool) (payload : Option (List ℕ)) → submit_plain play.cell c closed payload ≡ Some cell
            → IsFedSoFar d.max script rest cell.loop play.unread play.finish play.admitted
        go cell s closed None e = absurd (none-some cell e)
        go cell s true (Some payload) e = same_loop play cell.loop (ap (λ (x : Cell C A M). x.loop) (sym (same_Some _ cell e))) f
        go cell s false (Some payload) e =
            let is : cell.loop ≡ changed play.cell.loop c (submitted_more (play.cell.loop.conns c)) [] = ap (λ (x : Cell C A M). x.loop) (sym (same_Some _ cell e)) in
            let old : Loop = play.cell.loop in
            subst (λ (x : Loop). IsFedSoFar d.max script rest x play.unread play.finish play.admitted) (sym is)
            (changed_fed d.max script rest old play.unread play.unread play.finish play.admitted play.admitted c (submitted_more (old.conns c)) [] f tt refl
            (subst (TapeTells d.max) is (step_told d r play.cell (submits c) cell f.tells s)) (subst (MarksAreFed d.max script) (sym (append-nil old.tape)) f.marks) (λ x n. refl) (λ x n. refl)
            (record {
              remains = subst (λ b. Remains (pieces_on c script.lines) b (play.unread c ++ pieces_on c rest)) (sym (append-nil (input (marks_of c old.tape)))) (f.each c).remains;
              finishing = (f.each c).finishing;
              holds_less = (f.each c).holds_less;
              size = (f.each c).size;
            }))

    -- the input of a connection ends after all its pieces, or fails there
    ends_fed : (play : Play C A M) (c : ℕ) (conn_event : ConnEvent) (cell : Cell C A M) (conn : LoopConn) (cause : EndCause) (one other : Mark) → Fed play
        → Steps d r play.cell (on_conn conn_event) cell → cell.loop ≡ changed play.cell.loop c conn (one ∷ other ∷ []) → conn.cause ≡ Some cause
        → AllOf c (one ∷ other ∷ []) → opened_in (one ∷ other ∷ []) ≡ [] → input (one ∷ other ∷ []) ≡ []
        → MarkIsFed d.max script play.cell.loop.tape one → MarkIsFed d.max script (play.cell.loop.tape ++ one ∷ []) other → Fed (freed_if_over c (come_to play cell))
    ends_fed play c conn_event cell conn cause one other f s is ended all none quiet first second =
        let old : Loop = play.cell.loop in
        let read : List ℕ = input (marks_of c old.tape) in
        one_fed d.max script rest old cell.loop play.unread play.unread play.finish play.admitted c conn (one ∷ other ∷ []) f is all none
        (step_told d r play.cell (on_conn conn_event) cell f.tells s) (fed_two d.max script old.tape one other f.marks first second) (λ x n. refl)
        (subst (ConnIsFed d.max script rest c old.count conn (read ++ input (one ∷ other ∷ [])) (play.unread c) (play.finish c)) (sym (ap (λ k. kept_while_open k (play.admitted c)) ended))
        (ended_conn d.max script rest c old.count conn cause (read ++ input (one ∷ other ∷ [])) (play.unread c) (play.finish c) ended
        (subst (λ b. Remains (pieces_on c script.lines) b (play.unread c ++ pieces_on c rest)) (sym (ap (λ b. read ++ b) quiet ∙ append-nil read)) (f.each c).remains) (f.each c).finishing))

    behind_fed : (play : Play C A M) (c : ℕ) → Fed play → play.unread c ≡ [] → Meets Fed (read_behind d r play c (play.finish c))
    behind_fed play c f none = go (play.finish c) (f.each c).finishing
      where
        read_all : (EndsBehindPieces script.lines → pieces_on c rest ≡ []) → EndsBehindPieces script.lines → input (marks_of c play.cell.loop.tape) ≡ bytes_of_pieces (pieces_on c script.lines)
        read_all no_more b = nothing_left d.max script rest c (input (marks_of c play.cell.loop.tape)) (play.unread c) (f.each c).remains none (no_more b)

        go : (finish : Option InputFinish) → Finishing d.max script rest c finish
            → Meets (λ (p : Play C A M). IsFedSoFar d.max script rest p.cell.loop p.unread p.finish p.admitted) (read_behind d r play c finish)
        go None t = tt
        go (Some finishes) t =
            one_meets (λ (p : Play C A M). IsFedSoFar d.max script rest p.cell.loop p.unread p.finish p.admitted) play c (ends c)
            (λ cell e s.
            ends_fed play c (ends c) cell (with_cause (play.cell.loop.conns c) (end_behind (play.cell.loop.conns c).held)) _ (Ended c) (Closed c) f s
            (ap (λ (x : Cell C A M). x.loop) s.2 ∙ s.1.2) refl (refl, (refl, tt)) refl refl (t.0, read_all t.1) tt)
        go (Some faults) t =
            one_meets (λ (p : Play C A M). IsFedSoFar d.max script rest p.cell.loop p.unread p.finish p.admitted) play c (fails_read c)
            (λ cell e s.
            ends_fed play c (fails_read c) cell (with_cause (play.cell.loop.conns c) ReadFault) ReadFault (ReadFailed c) (Closed c) f s
            (ap (λ (x : Cell C A M). x.loop) s.2 ∙ s.1.2) refl (refl, (refl, tt)) refl refl (t.0, read_all t.1) tt)

    -- a read of the first piece that is left
    piece_fed : (play : Play C A M) (c missing : ℕ) (bytes : List ℕ) (pieces : List (List ℕ)) → Fed play → play.unread c ≡ bytes ∷ pieces
        → ((play.cell.loop.conns c).cause ≡ None → c < play.cell.loop.count → OwesNothing (play.cell.loop.conns c) → Completes d.max (play.cell.loop.conns c).held missing)
        → (cell : Cell C A M) → told_plain d r play.cell (goes (on_conn (reads c (take (min (min missing most_read) (length bytes)) bytes)))) ≡ Some cell
        → Steps d r play.cell (on_conn (reads c (take (min (min missing most_read) (length bytes)) bytes))) cell
        → Fed (with_unread c (pieces_left (drop (min (min missing most_read) (length bytes)) bytes) pieces) (freed_if_over c (come_to play cell)))
    piece_fed play c missing bytes pieces f is completes cell e s =
        let n : ℕ = min (min missing most_read) (length bytes) in
        let part : List ℕ = take n bytes in
        let left : List (List ℕ) = pieces_left (drop n bytes) pieces in
        let old : Loop = play.cell.loop in
        let conn : LoopConn = old.conns c in
        let read : List ℕ = input (marks_of c old.tape) in
        let made : (progress : FrameProgress) × (progress_by d.max (conn.held ++ part) ≡ Some progress) × (cell.loop ≡ changed old c (read_more conn part progress) (marks_read c part progress)) =
        read_is d.max old cell.loop c part (loop_of play.cell cell (conn_event_plain d.max old (reads c part)) e) in
        let remains : Remains (pieces_on c script.lines) read (bytes ∷ (pieces ++ pieces_on c rest)) =
        subst (λ p. Remains (pieces_on c script.lines) read (p ++ pieces_on c rest)) is (f.each c).remains in
        let takes_part = part_read d.max missing (pieces_on c script.lines) (pieces ++ pieces_on c rest) conn.payloads read conn.held bytes (f.tells.frames c s.1.1.0) (completes s.1.1.1 s.1.1.0 s.1.2) s.1.3 remains in
        let marks = read_marks d.max script c part made.0 old.tape f.marks takes_part in
        let later : at_number play.unread c left c ≡ left = put_same play.unread c left in
        one_fed d.max script rest old cell.loop play.unread (at_number play.unread c left) play.finish play.admitted c (read_more conn part made.0) (marks_read c part made.0) f made.2 marks.1 marks.2
        (step_told d r play.cell (on_conn (reads c part)) cell f.tells s) marks.0 (λ x k. put_other play.unread c left x k)
        (subst (λ u. ConnIsFed d.max script rest c old.count (read_more conn part made.0) (read ++ input (marks_read c part made.0)) u (play.finish c) (kept_while_open (read_more conn part made.0).cause (play.admitted c))) (sym later)
        (read_conn d.max script rest c old.count conn part made.0 read left (play.finish c) (play.admitted c) s.1.2 made.1
        (subst (Remains (pieces_on c script.lines) (read ++ part)) (sym (left-append (drop n bytes) pieces (pieces_on c rest)))
        (remains_read (pieces_on c script.lines) (pieces ++ pieces_on c rest) read bytes n (omega arith) remains)) (f.each c).finishing (f.each c).size))

    read_fed : (play : Play C A M) (c missing : ℕ) → Fed play
        → ((play.cell.loop.conns c).cause ≡ None → c < play.cell.loop.count → OwesNothing (play.cell.loop.conns c) → Completes d.max (play.cell.loop.conns c).held missing)
        → Meets Fed (read_move d r play c missing (play.unread c))
    read_fed play c missing f completes = go (play.unread c) refl
      where
        go : (pieces : List (List ℕ)) → play.unread c ≡ pieces
            → Meets (λ (p : Play C A M). IsFedSoFar d.max script rest p.cell.loop p.unread p.finish p.admitted) (read_move d r play c missing pieces)
        go [] is = behind_fed play c f is
        go (bytes ∷ pieces) is =
            let n : ℕ = min (min missing most_read) (length bytes) in
            mapped_meets (λ (p : Play C A M). IsFedSoFar d.max script rest p.cell.loop p.unread p.finish p.admitted) (with_unread c (pieces_left (drop n bytes) pieces)) (on_one d r play c (reads c (take n bytes)))
            (one_meets (λ (p : Play C A M). IsFedSoFar d.max script rest p.cell.loop (at_number p.unread c (pieces_left (drop n bytes) pieces)) p.finish p.admitted) play c (reads c (take n bytes))
            (piece_fed play c missing bytes pieces f is completes))

    -- a write
    wrote_fed : (play : Play C A M) (c count : ℕ) → Fed play → Meets Fed (on_one d r play c (writes c count))
    wrote_fed play c count f = one_meets Fed play c (writes c count) (λ cell e s. go cell s)
      where
        go : (cell : Cell C A M) → Steps d r play.cell (on_conn (writes c count)) cell
            → IsFedSoFar d.max script rest cell.loop play.unread play.finish (at_number play.admitted c (kept_while_open (cell.loop.conns c).cause (play.admitted c)))
        go cell s =
            let old : Loop = play.cell.loop in
            let read : List ℕ = input (marks_of c old.tape) in
            let conn : LoopConn = record (old.conns c) { left = drop count (old.conns c).left } in
            let mark : Mark = Wrote c (take count (old.conns c).left) in
            one_fed d.max script rest old cell.loop play.unread play.unread play.finish play.admitted c conn (mark ∷ []) f (ap (λ (x : Cell C A M). x.loop) s.2 ∙ s.1.3) (refl, tt) refl
            (step_told d r play.cell (on_conn (writes c count)) cell f.tells s) (fed_push d.max script old.tape mark f.marks tt) (λ x n. refl)
            (record {
              remains = subst (λ b. Remains (pieces_on c script.lines) b (play.unread c ++ pieces_on c rest)) (sym (append-nil read)) (f.each c).remains;
              finishing = (f.each c).finishing;
              holds_less = (f.each c).holds_less;
              size = λ n a. (f.each c).size n (kept_open d.max script (old.conns c).cause (play.admitted c) n a);
            })

    write_fails_fed : (play : Play C A M) (c : ℕ) → Fed play → Meets Fed (on_one d r play c (fails_write c))
    write_fails_fed play c f =
        one_meets Fed play c (fails_write c)
        (λ cell e s.
        ends_fed play c (fails_write c) cell (with_cause (play.cell.loop.conns c) WriteFault) WriteFault (WriteFailed c) (Closed c) f s
        (ap (λ (x : Cell C A M). x.loop) s.2 ∙ s.1.2) refl (refl, (refl, tt)) refl refl tt tt)

    write_fed : (play : Play C A M) (c : ℕ) (left : List ℕ) (rules : List PlanRule) → Fed play → Meets Fed (write_move d r play c left rules)
    write_fed play c left [] f = wrote_fed play c (length left) f
    write_fed play c left (takes_most count ∷ rules) f = mapped_meets Fed (with_rules c rules) (on_one d r play c (writes c (min count (length left)))) (wrote_fed play c (min count (length left)) f)
    write_fed play c left (blocks ∷ rules) f = f
    write_fed play c left (fails ∷ rules) f = mapped_meets Fed (with_rules c rules) (on_one d r play c (fails_write c)) (write_fails_fed play c f)

    -- a frame is admitted, or its connection is given up
    admission_fed : (play : Play C A M) (c : ℕ) → Fed play → c < play.cell.loop.count → (play.cell.loop.conns c).cause ≡ None → play.admitted c ≡ None → 4 ≤ length (play.cell.loop.conns c).held
        → Meets Fed (admission d r memory play c (size_in (play.cell.loop.conns c).held))
    admission_fed play c f within is_open none four =
        by_memory_fed play (memory play.moves) (goes (on_conn (gives_up c NoMemory))) _ (wanting_meets Fed play (goes (on_conn (gives_up c NoMemory))) (λ cell e s. go cell s))
        (admitted_fed d.max script rest play.cell.loop play.unread play.finish play.admitted c f within is_open four)
      where
        go : (cell : Cell C A M) → Steps d r play.cell (on_conn (gives_up c NoMemory)) cell → IsFedSoFar d.max script rest cell.loop play.unread play.finish play.admitted
        go cell s =
            let old : Loop = play.cell.loop in
            let read : List ℕ = input (marks_of c old.tape) in
            let conn : LoopConn = with_cause (old.conns c) NoMemory in
            let is : cell.loop ≡ changed old c conn (Closed c ∷ []) = ap (λ (x : Cell C A M). x.loop) s.2 ∙ s.1.2 in
            subst (λ (x : Loop). IsFedSoFar d.max script rest x play.unread play.finish play.admitted) (sym is)
            (changed_fed d.max script rest old play.unread play.unread play.finish play.admitted play.admitted c conn (Closed c ∷ []) f (refl, tt) refl
            (subst (TapeTells d.max) is (step_told d r play.cell (on_conn (gives_up c NoMemory)) cell f.tells s)) (fed_push d.max script old.tape (Closed c) f.marks tt) (λ x n. refl) (λ x n. refl)
            (subst (ConnIsFed d.max script rest c old.count conn (read ++ input (Closed c ∷ [])) (play.unread c) (play.finish c)) (sym none)
            (ended_conn d.max script rest c old.count conn NoMemory (read ++ input (Closed c ∷ [])) (play.unread c) (play.finish c) refl
            (subst (λ b. Remains (pieces_on c script.lines) b (play.unread c ++ pieces_on c rest)) (sym (append-nil read)) (f.each c).remains) (f.each c).finishing)))

    size_fed : (budget : ℕ) (play : Play C A M) (c : ℕ) → Fed play → c < play.cell.loop.count → (play.cell.loop.conns c).cause ≡ None → 4 ≤ length (play.cell.loop.conns c).held
        → Meets Fed (size_move d r memory budget play c (play.cell.loop.conns c).held (play.admitted c))
    size_fed budget play c f within is_open four = go (play.admitted c) refl
      where
        go : (size : Option ℕ) → play.admitted c ≡ size
            → Meets (λ (p : Play C A M). IsFedSoFar d.max script rest p.cell.loop p.unread p.finish p.admitted) (size_move d r memory budget play c (play.cell.loop.conns c).held size)
        go None is =
            either_meets (λ (p : Play C A M). IsFedSoFar d.max script rest p.cell.loop p.unread p.finish p.admitted) (nat_le (all_admitted play + size_in (play.cell.loop.conns c).held) budget)
            (admission d r memory play c (size_in (play.cell.loop.conns c).held)) None (λ e. admission_fed play c f within is_open is four) (λ e. tt)
        go (Some size) is = read_fed play c ((4 + size) - length (play.cell.loop.conns c).held) f (λ none l owes. by owes ((f.each c).size size is).2)
          where
            by : OwesNothing (play.cell.loop.conns c) → HasItsSize (play.cell.loop.conns c) size
                → Completes d.max (play.cell.loop.conns c).held ((4 + size) - length (play.cell.loop.conns c).held)
            by owes (inl less) = let all : (play.cell.loop.conns c).collected ≡ length (play.cell.loop.conns c).payloads = owes.0 in absurd (let g : ⊥ = omega arith in g)
            by owes (inr t) = frame_completes d.max size (play.cell.loop.conns c).held small four ((f.each c).holds_less within is_open) t.1

    open_fed : (budget : ℕ) (play : Play C A M) (c : ℕ) → Fed play → c < play.cell.loop.count → (play.cell.loop.conns c).cause ≡ None
        → Meets Fed (open_move d r memory budget play c (play.cell.loop.conns c))
    open_fed budget play c f within is_open =
        let conn : LoopConn = play.cell.loop.conns c in
        let sizing : Option (Play C A M) = read_move d r play c (4 - length conn.held) (play.unread c) in
        let sized : Option (Play C A M) = size_move d r memory budget play c conn.held (play.admitted c) in
        let reading : Option (Play C A M) = if nat_lt (length conn.held) 4 then sizing else sized in
        let waiting : Option (Play C A M) = if nat_lt conn.collected conn.submitted then None else reading in
        let submitting : Option (Play C A M) = if nat_lt conn.submitted (length conn.payloads) then told_in d r play (goes (submits c)) else waiting in
        either_meets Fed (not (is_empty conn.left)) (write_move d r play c conn.left (play.rules c)) submitting (λ e. write_fed play c conn.left (play.rules c) f)
        (λ e. either_meets Fed (nat_lt conn.submitted (length conn.payloads)) (told_in d r play (goes (submits c))) waiting (λ k. submit_fed play c f)
        (λ k. either_meets Fed (nat_lt conn.collected conn.submitted) None reading (λ m. tt)
        (λ m. either_meets Fed (nat_lt (length conn.held) 4) sizing sized (λ l. read_fed play c (4 - length conn.held) f (λ n b owes. size_completes d.max conn.held (ltb-true (length conn.held) 4 l)))
        (λ l. size_fed budget play c f within is_open (ltb-false (length conn.held) 4 l)))))

    pub conn_fed : (budget c : ℕ) (play : Play C A M) → Fed play → Meets Fed (conn_move d r memory budget c play)
    conn_fed budget c play f =
        either_meets Fed (is_open play.cell.loop c) (open_move d r memory budget play c (play.cell.loop.conns c)) None
        (λ e. let t : (c < play.cell.loop.count) × ((play.cell.loop.conns c).cause ≡ None) = is_open_so play.cell.loop c e in open_fed budget play c f t.0 t.1) (λ e. tt)

    -- moves one after another
    goes_fed : (play : Play C A M) (o : Option (Play C A M)) (again : Play C A M → Option (Play C A M)) → Fed play → Meets Fed o → ((next : Play C A M) → Fed next → Meets Fed (again next))
        → Meets Fed (goes_on_with play o again)
    goes_fed play None again f a each = f
    goes_fed play (Some next) again f a each = each next a

    pub left_fed : (play : Play C A M) (o : Option (Play C A M)) → Fed play → Meets Fed o → Fed (left_by play o)
    left_fed play None f a = f
    left_fed play (Some next) f a = a

    still_fed : (n : ℕ) (move : Play C A M → Option (Play C A M)) → ((play : Play C A M) → Fed play → Meets Fed (move play)) → (play : Play C A M) → Fed play → Meets Fed (until_still n move play)
    still_fed zero move each play f = goes_fed play (move play) (λ next. None) f (each play f) (λ next a. tt)
    still_fed (suc n) move each play f = goes_fed play (move play) (λ next. until_still n move next) f (each play f) (λ next a. still_fed n move each next a)

    through_fed : (n w : ℕ) (play : Play C A M) → Fed play → Meets Fed (work_through d r memory n w play)
    through_fed zero w play f = f
    through_fed (suc n) w play f =
        goes_fed play (worker_move d r memory w play) (λ next. if is_idle (next.cell.workers w) then Some next else work_through d r memory n w next) f (worker_fed w play f)
        (λ next a. either_meets Fed (is_idle (next.cell.workers w)) (Some next) (work_through d r memory n w next) (λ e. a) (λ e. through_fed n w next a))

    all_read_fed : (fuel budget : ℕ) (cs : List ℕ) (play : Play C A M) → Fed play → Meets Fed (all_read d r memory fuel budget cs play)
    all_read_fed fuel budget [] play f = f
    all_read_fed fuel budget (c ∷ cs) play f =
        and_meets Fed Fed (λ next. all_read d r memory fuel budget cs next) (until_still fuel (conn_move d r memory budget c) play)
        (still_fed fuel (conn_move d r memory budget c) (conn_fed budget c) play f) (λ next a. all_read_fed fuel budget cs next a)

    all_work_fed : (ws : List ℕ) (play : Play C A M) → Fed play → Meets Fed (all_work d r memory ws play)
    all_work_fed [] play f = f
    all_work_fed (w ∷ ws) play f =
        and_meets Fed Fed (λ next. all_work d r memory ws next) (work_through d r memory 3 w play) (through_fed 3 w play f) (λ next a. all_work_fed ws next a)

    pass_fed : (fuel budget workers : ℕ) (play : Play C A M) → Fed play → Meets Fed (pass d r memory fuel budget workers play)
    pass_fed fuel budget workers play f =
        and_meets Fed Fed (λ next. until_still fuel (collect_move d r) next) _
        (and_meets Fed Fed (λ next. all_work d r memory (count_up 0 (workers_among workers)) next) _ (all_read_fed fuel budget (count_up 0 play.cell.loop.count) play f)
        (λ next a. all_work_fed (count_up 0 (workers_among workers)) next a)) (λ next a. still_fed fuel (collect_move d r) collect_fed next a)

    pub drain_fed : (n fuel budget workers : ℕ) (play : Play C A M) → Fed play → Meets Fed (drain d r memory n fuel budget workers play)
    drain_fed zero fuel budget workers play f = tt
    drain_fed (suc n) fuel budget workers play f =
        and_meets Fed Fed (λ next. if next.moves == play.moves then Some play else drain d r memory n fuel budget workers next) (pass d r memory fuel budget workers play)
        (pass_fed fuel budget workers play f)
        (λ next a. either_meets Fed (next.moves == play.moves) (Some play) (drain d r memory n fuel budget workers next) (λ e. f) (λ e. drain_fed n fuel budget workers next a))
