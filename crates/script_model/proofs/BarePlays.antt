-- A rehearsal does the same to a machine without what doesn't show; so what shows of it is one.
use Rattle.std.proofs.Common.{◌≡◌, ℕ, zero, suc, ◌+◌, ◌-◌, ◌<◌, ◌≤◌, ◌⊎◌, min, not, nat_lt, nat_le, Bool, true, false, ◌&&◌, ◌==◌, if◌then◌else◌, Option, None, Some, List, [], ◌∷◌, length, take, drop, slice_get, refl, sym, ap, ◌∙◌, inl, inr, option_map, arith}
use Rattle.std.specs.Prelude.{option_and_then}
use Rattle.std.proofs.lemmas.Bool.{le-ltb, cases_lt}
use Rattle.std.proofs.lemmas.Option.{same_Some}
use Rattle.streams.specs.declared.marks.Mark.{Mark}
use Rattle.host_model.specs.declared.cause.EndCause.{EndCause}
use Rattle.host_model.specs.declared.cause.EndCause.TheVariants.{NoMemory}
use Rattle.host_model.specs.Journal.{JournalEntry, ServiceRules}
use Rattle.host_model.specs.DeskRules.{DeskRules, DeskDecision, Close, Silent, Reply, Invoke}
use Rattle.machine_model.specs.HallState.{Job, JobOutcome, HallState}
use Rattle.machine_model.specs.Loop.{LoopConn, ConnEvent, opens, reads, ends, fails_read, writes, fails_write, gives_up}
use Rattle.machine_model.specs.Worker.{WorkerState, idle, holds, has_answer, has_none}
use Rattle.machine_model.specs.Machine.{Cell, HaveAllEnded, on_conn, submits, takes, puts, collects}
use Rattle.machine_model.specs.Plain.{is_empty, is_open, has_none_yet, Told, goes, puts_none, reads_plain, ends_plain, fails_read_plain, writes_plain, fails_write_plain, told_plain}
use Rattle.machine_model.specs.AtFronts.{size_in}
use Rattle.script_model.specs.ScriptLines.{PlanLine, opening, piece, input_end, input_fault, resting, turn_of_conn, turn_of_worker, turn_of_outcome, PlanRule, takes_most, blocks, fails, ScriptPlan, count_up}
use Rattle.script_model.specs.Playing.{InputFinish, finishes, faults, MemoryAt, ample, lacking, lacking_for_call, lacking_for_answer, is_ample, Play, most_read, at_number, kept_while_open, pieces_left, moved_on, all_admitted, event_on, or_else, told_without, told_wanting, by_memory, admission, freed, freed_if_over, with_rules, with_unread, told_in, on_one, read_behind, read_move, write_move, size_move, open_move, conn_move, step_of_worker, worker_move, collect_first, collect_move}
use Rattle.script_model.specs.Rehearsing.{workers_among, is_idle, left_by, goes_on_with, until_still, work_through, all_read, all_work, pass, drain, line_done, lines_done, before_all, rehearsal, IsRehearsalOf}
use Rattle.script_model.specs.Showing.{ShowTheSame, IsRehearsedTo}
use Rattle.script_model.proofs.Baring.{opened_alone, opened_is, TellsNoFault, bare, told_bare, StillOpened, still_opened, firsts_show, bare_by}
use Rattle.script_model.proofs.Sufficing.{more_suffice}

-- lists of as many elements, with the same at each place
same_lists : {X : Type 0} (xs ys : List X) → length xs ≡ length ys → ((n : ℕ) → n < length xs → slice_get xs n ≡ slice_get ys n) → xs ≡ ys
same_lists [] [] e each = refl
same_lists [] (y ∷ ys) e each = absurd (let f : ⊥ = omega (arith, e) in f)
same_lists (x ∷ xs) [] e each = absurd (let f : ⊥ = omega (arith, e) in f)
same_lists (x ∷ xs) (y ∷ ys) e each =
    let h : x ≡ y = same_Some x y (each 0 (omega arith)) in
    let t : xs ≡ ys = same_lists xs ys (omega (arith, e)) (λ n l. each (suc n) (omega arith)) in
    ap (λ z. z ∷ xs) h ∙ ap (λ zs. y ∷ zs) t

module _ {X : Type 0} (change : X → X) where
  either_same : (b : Bool) (x y x' y' : Option X) → x' ≡ option_map change x → y' ≡ option_map change y → (if b then x' else y') ≡ option_map change (if b then x else y)
  either_same true x y x' y' a b = a
  either_same false x y x' y' a b = b

  or_same : (x y x' y' : Option X) → x' ≡ option_map change x → y' ≡ option_map change y → or_else x' y' ≡ option_map change (or_else x y)
  or_same None y x' y' a b = ap (λ o. or_else o y') a ∙ b
  or_same (Some x) y x' y' a b = ap (λ o. or_else o y') a

  mapped_same : (f : X → X) (x x' : Option X) → ((y : X) → f (change y) ≡ change (f y)) → x' ≡ option_map change x → option_map f x' ≡ option_map change (option_map f x)
  mapped_same f None x' each a = ap (option_map f) a
  mapped_same f (Some x) x' each a = ap (option_map f) a ∙ ap (λ y. Some y) (each x)

  and_same : (f : X → Option X) (x x' : Option X) → ((y : X) → f (change y) ≡ option_map change (f y)) → x' ≡ option_map change x → option_and_then f x' ≡ option_map change (option_and_then f x)
  and_same f None x' each a = ap (option_and_then f) a
  and_same f (Some x) x' each a = ap (option_and_then f) a ∙ each x

  goes_same : (x : X) (o o' : Option X) (again : X → Option X) → ((y : X) → again (change y) ≡ option_map change (again y)) → o' ≡ option_map change o
      → goes_on_with (change x) o' again ≡ option_map change (goes_on_with x o again)
  goes_same x None o' again each a = ap (λ o. goes_on_with (change x) o again) a
  goes_same x (Some y) o' again each a = ap (λ o. goes_on_with (change x) o again) a ∙ each y

  left_same : (x : X) (o o' : Option X) → o' ≡ option_map change o → left_by (change x) o' ≡ change (left_by x o)
  left_same x None o' a = ap (left_by (change x)) a
  left_same x (Some y) o' a = ap (left_by (change x)) a

  still_same : (n : ℕ) (move : X → Option X) → ((x : X) → move (change x) ≡ option_map change (move x)) → (x : X) → until_still n move (change x) ≡ option_map change (until_still n move x)
  still_same zero move each x = goes_same x (move x) (move (change x)) (λ next. None) (λ y. refl) (each x)
  still_same (suc n) move each x = goes_same x (move x) (move (change x)) (λ next. until_still n move next) (λ y. still_same n move each y) (each x)

module _ {C A M : Type 0} where
  -- a play of the machine without what doesn't show
  abbrev bare_play : Play C A M → Play C A M
  bare_play play = record play { cell = bare play.cell }

  bare_same : (one other : Cell C A M) → bare one ≡ bare other → ShowTheSame one other
  bare_same one other e =
      let count : one.loop.count ≡ other.loop.count = ap (λ (cell : Cell C A M). cell.loop.count) e in
      record {
        tape = ap (λ (cell : Cell C A M). cell.loop.tape) e;
        count = count;
        conns = λ c l. sym (opened_is one.loop.count c one.loop.conns l) ∙ ap (λ (cell : Cell C A M). cell.loop.conns c) e ∙ opened_is other.loop.count c other.loop.conns (omega arith);
        hall = sym (ap (λ (cell : Cell C A M). record cell.hall { faults = other.hall.faults }) e);
        workers = λ w. ap (λ (cell : Cell C A M). cell.workers w) e;
      }

  causes_same : (last end : Cell C A M) (causes closings : List EndCause) → ShowTheSame last end → HaveAllEnded last.loop causes → HaveAllEnded end.loop closings → causes ≡ closings
  causes_same last end causes closings s a b = same_lists causes closings (a.count ∙ s.count ∙ sym b.count) each
    where
      each : (c : ℕ) → c < length causes → slice_get causes c ≡ slice_get closings c
      each c l =
          let among : c < last.loop.count = omega (arith, a.count) in
          sym (a.each c among) ∙ ap (λ (conn : LoopConn). conn.cause) (s.conns c among) ∙ b.each c (omega (arith, s.count))

module _ {C A M : Type 0} (d : DeskRules C A) (r : ServiceRules C A M) where
  told_same : (play : Play C A M) (told : Told) → TellsNoFault told → told_in d r (bare_play play) told ≡ option_map bare_play (told_in d r play told)
  told_same play told t =
      ap (option_map (λ cell. record (bare_play play) { cell = cell; moves = suc play.moves })) (told_bare d r play.cell told t) ∙ go (told_plain d r play.cell told)
    where
      go : (o : Option (Cell C A M)) → option_map (λ cell. record (bare_play play) { cell = cell; moves = suc play.moves }) (option_map bare o)
          ≡ option_map bare_play (option_map (λ cell. record play { cell = cell; moves = suc play.moves }) o)
      go None = refl
      go (Some cell) = refl

  wanting_same : (play : Play C A M) (told : Told) → TellsNoFault told → told_wanting d r (bare_play play) told ≡ option_map bare_play (told_wanting d r play told)
  wanting_same play told t =
      ap (option_map (λ cell. record (bare_play play) { cell = cell; moves = suc play.moves; wants = suc play.wants })) (told_bare d r play.cell told t) ∙ go (told_plain d r play.cell told)
    where
      go : (o : Option (Cell C A M)) → option_map (λ cell. record (bare_play play) { cell = cell; moves = suc play.moves; wants = suc play.wants }) (option_map bare o)
          ≡ option_map bare_play (option_map (λ cell. record play { cell = cell; moves = suc play.moves; wants = suc play.wants }) o)
      go None = refl
      go (Some cell) = refl

  memory_same : (at : MemoryAt) (play : Play C A M) (told : Told) (o o' : Option (Play C A M)) → TellsNoFault told → o' ≡ option_map bare_play o
      → by_memory d r at (bare_play play) told o' ≡ option_map bare_play (by_memory d r at play told o)
  memory_same at play told o o' t e =
      either_same bare_play (is_ample at) o (or_else (told_wanting d r play told) o) o' (or_else (told_wanting d r (bare_play play) told) o') e
      (or_same bare_play (told_wanting d r play told) o (told_wanting d r (bare_play play) told) o' (wanting_same play told t) e)

  -- something happens on a connection that is opened
  one_same : (play : Play C A M) (c : ℕ) (conn_event : ConnEvent) → StillOpened c (told_plain d r play.cell (goes (on_conn conn_event)))
      → on_one d r (bare_play play) c conn_event ≡ option_map bare_play (on_one d r play c conn_event)
  one_same play c conn_event opened =
      ap (λ o. option_map (freed_if_over c) (option_map (λ cell. record (bare_play play) { cell = cell; moves = suc play.moves }) o)) (told_bare d r play.cell (goes (on_conn conn_event)) tt)
      ∙ go (told_plain d r play.cell (goes (on_conn conn_event))) opened
    where
      go : (o : Option (Cell C A M)) → StillOpened c o
          → option_map (freed_if_over c) (option_map (λ cell. record (bare_play play) { cell = cell; moves = suc play.moves }) (option_map bare o))
          ≡ option_map bare_play (option_map (freed_if_over c) (option_map (λ cell. record play { cell = cell; moves = suc play.moves }) o))
      go None l = refl
      go (Some cell) l =
          ap (λ (conn : LoopConn). Some (record play { cell = bare cell; moves = suc play.moves; admitted = at_number play.admitted c (kept_while_open conn.cause (play.admitted c)) }))
          (opened_is cell.loop.count c cell.loop.conns l)

  behind_same : (play : Play C A M) (c : ℕ) (finish : Option InputFinish) → c < play.cell.loop.count → read_behind d r (bare_play play) c finish ≡ option_map bare_play (read_behind d r play c finish)
  behind_same play c None l = refl
  behind_same play c (Some finishes) l = one_same play c (ends c) (still_opened play.cell c (ends_plain c (play.cell.loop.conns c)) l)
  behind_same play c (Some faults) l = one_same play c (fails_read c) (still_opened play.cell c (fails_read_plain c (play.cell.loop.conns c)) l)

  read_same : (play : Play C A M) (c missing : ℕ) (pieces : List (List ℕ)) → c < play.cell.loop.count
      → read_move d r (bare_play play) c missing pieces ≡ option_map bare_play (read_move d r play c missing pieces)
  read_same play c missing [] l = behind_same play c (play.finish c) l
  read_same play c missing (bytes ∷ pieces) l =
      let n : ℕ = min (min missing most_read) (length bytes) in
      mapped_same bare_play (with_unread c (pieces_left (drop n bytes) pieces)) (on_one d r play c (reads c (take n bytes))) (on_one d r (bare_play play) c (reads c (take n bytes))) (λ y. refl)
      (one_same play c (reads c (take n bytes)) (still_opened play.cell c (reads_plain d.max c (take n bytes) (play.cell.loop.conns c)) l))

  write_same : (play : Play C A M) (c : ℕ) (left : List ℕ) (rules : List PlanRule) → c < play.cell.loop.count
      → write_move d r (bare_play play) c left rules ≡ option_map bare_play (write_move d r play c left rules)
  write_same play c left [] l = one_same play c (writes c (length left)) (still_opened play.cell c (writes_plain c (length left) (play.cell.loop.conns c)) l)
  write_same play c left (takes_most count ∷ rules) l =
      mapped_same bare_play (with_rules c rules) (on_one d r play c (writes c (min count (length left)))) (on_one d r (bare_play play) c (writes c (min count (length left)))) (λ y. refl)
      (one_same play c (writes c (min count (length left))) (still_opened play.cell c (writes_plain c (min count (length left)) (play.cell.loop.conns c)) l))
  write_same play c left (blocks ∷ rules) l = refl
  write_same play c left (fails ∷ rules) l =
      mapped_same bare_play (with_rules c rules) (on_one d r play c (fails_write c)) (on_one d r (bare_play play) c (fails_write c)) (λ y. refl)
      (one_same play c (fails_write c) (still_opened play.cell c (fails_write_plain c (play.cell.loop.conns c)) l))

  first_same : (play : Play C A M) (outcomes : List JobOutcome) → collect_first d r (bare_play play) outcomes ≡ option_map bare_play (collect_first d r play outcomes)
  first_same play [] = refl
  first_same play (outcome ∷ outcomes) = mapped_same bare_play (freed outcome.key.c) (told_in d r play (goes collects)) (told_in d r (bare_play play) (goes collects)) (λ y. refl) (told_same play (goes collects) tt)

  collect_same : (play : Play C A M) → collect_move d r (bare_play play) ≡ option_map bare_play (collect_move d r play)
  collect_same play = first_same play play.cell.hall.outcomes

module _ {C A M : Type 0} (d : DeskRules C A) (r : ServiceRules C A M) (memory : ℕ → MemoryAt) where
  sized_same : (budget : ℕ) (play : Play C A M) (c : ℕ) (held : List ℕ) (size : Option ℕ) → c < play.cell.loop.count
      → size_move d r memory budget (bare_play play) c held size ≡ option_map bare_play (size_move d r memory budget play c held size)
  sized_same budget play c held (Some size) l = read_same d r play c ((4 + size) - length held) (play.unread c) l
  sized_same budget play c held None l =
      either_same bare_play (nat_le (all_admitted play + size_in held) budget) (admission d r memory play c (size_in held)) None (admission d r memory (bare_play play) c (size_in held)) None
      (memory_same d r (memory play.moves) play (goes (on_conn (gives_up c NoMemory))) (Some (moved_on (record play { admitted = at_number play.admitted c (Some (size_in held)) })))
      (Some (moved_on (record (bare_play play) { admitted = at_number play.admitted c (Some (size_in held)) }))) tt refl) refl

  open_same : (budget : ℕ) (play : Play C A M) (c : ℕ) (conn : LoopConn) → c < play.cell.loop.count
      → open_move d r memory budget (bare_play play) c conn ≡ option_map bare_play (open_move d r memory budget play c conn)
  open_same budget play c conn l =
      either_same bare_play (not (is_empty conn.left)) _ _ _ _ (write_same d r play c conn.left (play.rules c) l)
      (either_same bare_play (nat_lt conn.submitted (length conn.payloads)) _ _ _ _ (told_same d r play (goes (submits c)) tt)
      (either_same bare_play (nat_lt conn.collected conn.submitted) None _ None _ refl
      (either_same bare_play (nat_lt (length conn.held) 4) _ _ _ _ (read_same d r play c (4 - length conn.held) (play.unread c) l) (sized_same budget play c conn.held (play.admitted c) l))))

  conn_same : (budget c : ℕ) (play : Play C A M) → conn_move d r memory budget c (bare_play play) ≡ option_map bare_play (conn_move d r memory budget c play)
  conn_same budget c play = go (cases_lt c play.cell.loop.count)
    where
      go : (c < play.cell.loop.count) ⊎ (play.cell.loop.count ≤ c) → conn_move d r memory budget c (bare_play play) ≡ option_map bare_play (conn_move d r memory budget c play)
      go (inl l) =
          ap (λ (conn : LoopConn). if nat_lt c play.cell.loop.count && has_none_yet conn.cause then open_move d r memory budget (bare_play play) c conn else None)
          (opened_is play.cell.loop.count c play.cell.loop.conns l)
          ∙ either_same bare_play (is_open play.cell.loop c) (open_move d r memory budget play c (play.cell.loop.conns c)) None
          (open_move d r memory budget (bare_play play) c (play.cell.loop.conns c)) None (open_same budget play c (play.cell.loop.conns c) l) refl
      go (inr l) =
          let e : nat_lt c play.cell.loop.count ≡ false = le-ltb c play.cell.loop.count l in
          let conn : LoopConn = opened_alone play.cell.loop.count play.cell.loop.conns c in
          ap (λ b. if b && has_none_yet conn.cause then open_move d r memory budget (bare_play play) c conn else None) e
          ∙ sym (ap (λ b. option_map bare_play (if b && has_none_yet (play.cell.loop.conns c).cause then open_move d r memory budget play c (play.cell.loop.conns c) else None)) e)

  event_tells : (w : ℕ) (decision : DeskDecision C) → TellsNoFault (goes (event_on d r w decision))
  event_tells w (Invoke call) = tt
  event_tells w (Close fault) = tt
  event_tells w Silent = tt
  event_tells w (Reply reply) = tt

  without_tells : (w : ℕ) (at : MemoryAt) (decision : DeskDecision C) → TellsNoFault (told_without d r w at decision)
  without_tells w lacking_for_call (Invoke call) = tt
  without_tells w lacking_for_answer (Invoke call) = tt
  without_tells w ample decision = tt
  without_tells w lacking decision = tt
  without_tells w lacking_for_call (Close fault) = tt
  without_tells w lacking_for_call Silent = tt
  without_tells w lacking_for_call (Reply reply) = tt
  without_tells w lacking_for_answer (Close fault) = tt
  without_tells w lacking_for_answer Silent = tt
  without_tells w lacking_for_answer (Reply reply) = tt

  step_same : (play : Play C A M) (w : ℕ) (worker : WorkerState A) (jobs : List Job)
      → step_of_worker d r memory (bare_play play) w worker jobs ≡ option_map bare_play (step_of_worker d r memory play w worker jobs)
  step_same play w idle [] = refl
  step_same play w idle (job ∷ jobs) = told_same d r play (goes (takes w)) tt
  step_same play w (holds key payload) jobs =
      let told : Told = goes (event_on d r w (d.decide payload)) in
      memory_same d r (memory play.moves) play (told_without d r w (memory play.moves) (d.decide payload)) (told_in d r play told) (told_in d r (bare_play play) told)
      (without_tells w (memory play.moves) (d.decide payload)) (told_same d r play told (event_tells w (d.decide payload)))
  step_same play w (has_answer key payload answer) jobs =
      memory_same d r (memory play.moves) play (puts_none w) (told_in d r play (goes (puts w))) (told_in d r (bare_play play) (goes (puts w))) tt (told_same d r play (goes (puts w)) tt)
  step_same play w (has_none key payload) jobs = told_same d r play (puts_none w) tt

  worker_same : (w : ℕ) (play : Play C A M) → worker_move d r memory w (bare_play play) ≡ option_map bare_play (worker_move d r memory w play)
  worker_same w play = step_same play w (play.cell.workers w) play.cell.hall.jobs

  through_same : (n w : ℕ) (play : Play C A M) → work_through d r memory n w (bare_play play) ≡ option_map bare_play (work_through d r memory n w play)
  through_same zero w play = refl
  through_same (suc n) w play =
      goes_same bare_play play (worker_move d r memory w play) (worker_move d r memory w (bare_play play)) (λ next. if is_idle (next.cell.workers w) then Some next else work_through d r memory n w next)
      (λ next. either_same bare_play (is_idle (next.cell.workers w)) (Some next) (work_through d r memory n w next) (Some (bare_play next)) (work_through d r memory n w (bare_play next)) refl (through_same n w next))
      (worker_same w play)

  module _ (fuel budget workers : ℕ) where
    all_read_same : (cs : List ℕ) (play : Play C A M) → all_read d r memory fuel budget cs (bare_play play) ≡ option_map bare_play (all_read d r memory fuel budget cs play)
    all_read_same [] play = refl
    all_read_same (c ∷ cs) play =
        and_same bare_play (λ next. all_read d r memory fuel budget cs next) (until_still fuel (conn_move d r memory budget c) play) (until_still fuel (conn_move d r memory budget c) (bare_play play))
        (λ next. all_read_same cs next) (still_same bare_play fuel (conn_move d r memory budget c) (conn_same budget c) play)

    all_work_same : (ws : List ℕ) (play : Play C A M) → all_work d r memory ws (bare_play play) ≡ option_map bare_play (all_work d r memory ws play)
    all_work_same [] play = refl
    all_work_same (w ∷ ws) play =
        and_same bare_play (λ next. all_work d r memory ws next) (work_through d r memory 3 w play) (work_through d r memory 3 w (bare_play play)) (λ next. all_work_same ws next) (through_same 3 w play)

    pass_same : (play : Play C A M) → pass d r memory fuel budget workers (bare_play play) ≡ option_map bare_play (pass d r memory fuel budget workers play)
    pass_same play =
        let ws : List ℕ = count_up 0 (workers_among workers) in
        let cs : List ℕ = count_up 0 play.cell.loop.count in
        and_same bare_play (λ next. until_still fuel (collect_move d r) next) (option_and_then (λ next. all_work d r memory ws next) (all_read d r memory fuel budget cs play))
        (option_and_then (λ next. all_work d r memory ws next) (all_read d r memory fuel budget cs (bare_play play))) (λ next. still_same bare_play fuel (collect_move d r) (collect_same d r) next)
        (and_same bare_play (λ next. all_work d r memory ws next) (all_read d r memory fuel budget cs play) (all_read d r memory fuel budget cs (bare_play play)) (λ next. all_work_same ws next)
        (all_read_same cs play))

    drain_same : (n : ℕ) (play : Play C A M) → drain d r memory n fuel budget workers (bare_play play) ≡ option_map bare_play (drain d r memory n fuel budget workers play)
    drain_same zero play = refl
    drain_same (suc n) play =
        onward (pass d r memory fuel budget workers play) (pass d r memory fuel budget workers (bare_play play)) (pass_same play)
        (λ next. either_same bare_play (next.moves == play.moves) (Some play) (drain d r memory n fuel budget workers next) (Some (bare_play play)) (drain d r memory n fuel budget workers (bare_play next)) refl
        (drain_same n next))
      where
        onward : (o o' : Option (Play C A M)) → o' ≡ option_map bare_play o
            → ((next : Play C A M) → (if next.moves == play.moves then Some (bare_play play) else drain d r memory n fuel budget workers (bare_play next))
            ≡ option_map bare_play (if next.moves == play.moves then Some play else drain d r memory n fuel budget workers next))
            → option_and_then (λ next. if next.moves == play.moves then Some (bare_play play) else drain d r memory n fuel budget workers next) o'
            ≡ option_map bare_play (option_and_then (λ next. if next.moves == play.moves then Some play else drain d r memory n fuel budget workers next) o)
        onward None o' e each = ap (option_and_then (λ next. if next.moves == play.moves then Some (bare_play play) else drain d r memory n fuel budget workers next)) e
        onward (Some next) o' e each = ap (option_and_then (λ next. if next.moves == play.moves then Some (bare_play play) else drain d r memory n fuel budget workers next)) e ∙ each next

    line_same : (play : Play C A M) (line : PlanLine) → line_done d r memory fuel budget workers (bare_play play) line ≡ option_map bare_play (line_done d r memory fuel budget workers play line)
    line_same play opening =
        ap (λ p. Some p) (left_same bare_play play (told_in d r play (goes (on_conn opens))) (told_in d r (bare_play play) (goes (on_conn opens))) (told_same d r play (goes (on_conn opens)) tt))
    line_same play (piece c bytes) = refl
    line_same play (input_end c) = refl
    line_same play (input_fault c) = refl
    line_same play resting = drain_same fuel play
    line_same play (turn_of_conn c) = ap (λ p. Some p) (left_same bare_play play (conn_move d r memory budget c play) (conn_move d r memory budget c (bare_play play)) (conn_same budget c play))
    line_same play (turn_of_worker w) = ap (λ p. Some p) (left_same bare_play play (worker_move d r memory w play) (worker_move d r memory w (bare_play play)) (worker_same w play))
    line_same play turn_of_outcome = ap (λ p. Some p) (left_same bare_play play (collect_move d r play) (collect_move d r (bare_play play)) (collect_same d r play))

    lines_same : (lines : List PlanLine) (play : Play C A M) → lines_done d r memory fuel budget workers lines (bare_play play) ≡ option_map bare_play (lines_done d r memory fuel budget workers lines play)
    lines_same [] play = drain_same fuel play
    lines_same (line ∷ lines) play =
        and_same bare_play (λ next. lines_done d r memory fuel budget workers lines next) (line_done d r memory fuel budget workers play line) (line_done d r memory fuel budget workers (bare_play play) line)
        (λ next. lines_same lines next) (line_same play line)

  module _ (budget workers : ℕ) (script : ScriptPlan) where
    -- from two machines of which the same shows
    pub same_shows : (wants others : ℕ) (first last other end : Cell C A M) → ShowTheSame first other → IsRehearsalOf d r memory budget workers script wants first last
        → IsRehearsalOf d r memory budget workers script others other end → (wants ≡ others) × ShowTheSame last end
    same_shows wants others first last other end same a b =
        let n : ℕ = a.fuel + b.fuel in
        let x : rehearsal d r memory n budget workers script first ≡ Some a.play = more_suffice d r memory budget workers script first a.play a.fuel n (omega arith) a.done in
        let y : rehearsal d r memory n budget workers script other ≡ Some b.play = more_suffice d r memory budget workers script other b.play b.fuel n (omega arith) b.done in
        let u : rehearsal d r memory n budget workers script (bare first) ≡ Some (bare_play a.play) = lines_same n budget workers script.lines (before_all first script) ∙ ap (option_map bare_play) x in
        let v : rehearsal d r memory n budget workers script (bare other) ≡ Some (bare_play b.play) = lines_same n budget workers script.lines (before_all other script) ∙ ap (option_map bare_play) y in
        let e : bare_play a.play ≡ bare_play b.play =
        same_Some (bare_play a.play) (bare_play b.play) (sym u ∙ ap (rehearsal d r memory n budget workers script) (bare_by first other same) ∙ v) in
        let s : bare last ≡ bare end = ap bare a.same ∙ ap (λ (p : Play C A M). p.cell) e ∙ sym (ap bare b.same) in
        (a.count ∙ ap (λ (p : Play C A M). p.wants) e ∙ sym b.count, bare_same last end s)

    pub shows_one : (memories : List M) (wants others : ℕ) (tape marks : List Mark) (journal entries : List (JournalEntry C A)) (causes closings : List EndCause)
        → IsRehearsedTo d r memories memory budget workers script wants tape journal causes → IsRehearsedTo d r memories memory budget workers script others marks entries closings
        → (wants ≡ others) × (tape ≡ marks) × (journal ≡ entries) × (causes ≡ closings)
    shows_one memories wants others tape marks journal entries causes closings a b =
        let t : (wants ≡ others) × ShowTheSame a.last b.last = same_shows wants others a.first a.last b.first b.last (firsts_show memories a.first b.first a.is_first b.is_first) a.rehearsed b.rehearsed in
        let s : ShowTheSame a.last b.last = t.1 in
        (t.0, a.same_tape ∙ s.tape ∙ sym b.same_tape, a.same_journal ∙ sym (ap (λ (hall : HallState C A M). hall.journal) s.hall) ∙ sym b.same_journal, causes_same a.last b.last causes closings s a.ended b.ended)
