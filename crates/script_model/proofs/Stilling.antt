-- A pass that moves nothing leaves nothing that can move; each move counts one, and lets no input's end be forgotten.
use Rattle.std.proofs.Common.{◌≡◌, ℕ, zero, suc, ◌+◌, ◌-◌, ◌≢◌, ◌<◌, ◌≤◌, ◌⊎◌, min, not, nat_lt, nat_le, Bool, true, false, ◌==◌, if◌then◌else◌, Option, None, Some, List, [], ◌∷◌, length, take, drop, refl, sym, ap, ◌∙◌, subst, inl, inr, option_map, arith}
use Rattle.std.specs.Prelude.{option_and_then}
use Rattle.std.proofs.lemmas.Bool.{eqb-true, eq-eqb, or_cases, false≢true, cases_lt}
use Rattle.std.proofs.lemmas.Option.{none-some}
use Rattle.host_model.specs.declared.cause.EndCause.TheVariants.{NoMemory}
use Rattle.host_model.specs.Journal.{ServiceRules}
use Rattle.host_model.specs.DeskRules.{DeskRules}
use Rattle.machine_model.specs.HallState.{Job, JobOutcome}
use Rattle.machine_model.specs.Loop.{LoopConn, ConnEvent, opens, reads, ends, fails_read, writes, fails_write, gives_up}
use Rattle.machine_model.specs.Worker.{WorkerState, idle, holds, has_answer, has_none}
use Rattle.machine_model.specs.Machine.{Cell, on_conn, submits, takes, puts, collects}
use Rattle.machine_model.specs.Plain.{is_empty, is_open, Told, goes, puts_none, told_plain}
use Rattle.machine_model.specs.AtFronts.{size_in}
use Rattle.script_model.specs.ScriptLines.{PlanLine, opening, piece, input_end, input_fault, resting, turn_of_conn, turn_of_worker, turn_of_outcome, PlanRule, takes_most, blocks, fails, ends_input, fails_input, some_line, count_up}
use Rattle.script_model.specs.Playing.{InputFinish, finishes, faults, MemoryAt, is_ample, Play, most_read, at_number, pieces_left, moved_on, all_admitted, event_on, or_else, told_without, told_wanting, by_memory, admission, freed, freed_if_over, with_rules, with_unread, told_in, on_one, read_behind, read_move, write_move, size_move, open_move, conn_move, step_of_worker, worker_move, collect_first, collect_move}
use Rattle.script_model.specs.Rehearsing.{workers_among, is_idle, left_by, goes_on_with, until_still, work_through, all_read, all_work, pass, drain, line_done, lines_done}
use Rattle.script_model.specs.Ending.{IsStill}

module _ {C A M : Type 0} (d : DeskRules C A) (r : ServiceRules C A M) (memory : ℕ → MemoryAt) where
  -- one move more was made, and what comes after the pieces is the same
  pub record IsOneMore (old new : Play C A M) : Type 0 where
    pub moves : new.moves ≡ suc old.moves
    pub finish : new.finish ≡ old.finish

  -- what comes of a play, where something does, is one move more
  abbrev AddsOne : Play C A M → Option (Play C A M) → Type 0
  AddsOne old None = Unit {0}
  AddsOne old (Some new) = IsOneMore old new

  -- No fewer moves were made; where no more were, nothing has changed, and this holds.
  record Stands (F : Type 0) (old new : Play C A M) : Type 0 where
    more : old.moves ≤ new.moves
    finish : new.finish ≡ old.finish
    same : new.moves ≡ old.moves → (new ≡ old) × F

  abbrev Standing : Type 0 → Play C A M → Option (Play C A M) → Type 0
  Standing F old None = Unit {0}
  Standing F old (Some new) = Stands F old new

  either : (old : Play C A M) (b : Bool) (x y : Option (Play C A M)) → AddsOne old x → AddsOne old y → AddsOne old (if b then x else y)
  either old true x y a b = a
  either old false x y a b = b

  mapped : (old : Play C A M) (f : Play C A M → Play C A M) (o : Option (Play C A M)) → ((play : Play C A M) → (f play).moves ≡ play.moves) → ((play : Play C A M) → (f play).finish ≡ play.finish)
      → AddsOne old o → AddsOne old (option_map f o)
  mapped old f None m e a = tt
  mapped old f (Some new) m e a = record { moves = m new ∙ a.moves; finish = e new ∙ a.finish }

  told_one : (play : Play C A M) (told : Told) → AddsOne play (told_in d r play told)
  told_one play told = go (told_plain d r play.cell told)
    where
      go : (o : Option (Cell C A M)) → AddsOne play (option_map (λ cell. record play { cell = cell; moves = suc play.moves }) o)
      go None = tt
      go (Some cell) = record { moves = refl; finish = refl }

  wanting_one : (play : Play C A M) (told : Told) → AddsOne play (told_wanting d r play told)
  wanting_one play told = go (told_plain d r play.cell told)
    where
      go : (o : Option (Cell C A M)) → AddsOne play (option_map (λ cell. record play { cell = cell; moves = suc play.moves; wants = suc play.wants }) o)
      go None = tt
      go (Some cell) = record { moves = refl; finish = refl }

  or_one : (old : Play C A M) (x y : Option (Play C A M)) → AddsOne old x → AddsOne old y → AddsOne old (or_else x y)
  or_one old None y a b = b
  or_one old (Some x) y a b = a

  memory_one : (play : Play C A M) (at : MemoryAt) (told : Told) (o : Option (Play C A M)) → AddsOne play o → AddsOne play (by_memory d r at play told o)
  memory_one play at told o a = either play (is_ample at) o (or_else (told_wanting d r play told) o) a (or_one play (told_wanting d r play told) o (wanting_one play told) a)

  one_one : (play : Play C A M) (c : ℕ) (conn_event : ConnEvent) → AddsOne play (on_one d r play c conn_event)
  one_one play c conn_event = mapped play (freed_if_over c) (told_in d r play (goes (on_conn conn_event))) (λ p. refl) (λ p. refl) (told_one play (goes (on_conn conn_event)))

  behind_one : (play : Play C A M) (c : ℕ) (finish : Option InputFinish) → AddsOne play (read_behind d r play c finish)
  behind_one play c None = tt
  behind_one play c (Some finishes) = one_one play c (ends c)
  behind_one play c (Some faults) = one_one play c (fails_read c)

  read_one : (play : Play C A M) (c missing : ℕ) (pieces : List (List ℕ)) → AddsOne play (read_move d r play c missing pieces)
  read_one play c missing [] = behind_one play c (play.finish c)
  read_one play c missing (bytes ∷ pieces) =
      let n : ℕ = min (min missing most_read) (length bytes) in
      mapped play (with_unread c (pieces_left (drop n bytes) pieces)) (on_one d r play c (reads c (take n bytes))) (λ p. refl) (λ p. refl) (one_one play c (reads c (take n bytes)))

  write_one : (play : Play C A M) (c : ℕ) (left : List ℕ) (rules : List PlanRule) → AddsOne play (write_move d r play c left rules)
  write_one play c left [] = one_one play c (writes c (length left))
  write_one play c left (takes_most count ∷ rules) =
      mapped play (with_rules c rules) (on_one d r play c (writes c (min count (length left)))) (λ p. refl) (λ p. refl) (one_one play c (writes c (min count (length left))))
  write_one play c left (blocks ∷ rules) = record { moves = refl; finish = refl }
  write_one play c left (fails ∷ rules) = mapped play (with_rules c rules) (on_one d r play c (fails_write c)) (λ p. refl) (λ p. refl) (one_one play c (fails_write c))

  size_one : (budget : ℕ) (play : Play C A M) (c : ℕ) (held : List ℕ) (size : Option ℕ) → AddsOne play (size_move d r memory budget play c held size)
  size_one budget play c held (Some size) = read_one play c ((4 + size) - length held) (play.unread c)
  size_one budget play c held None =
      let next : Play C A M = moved_on (record play { admitted = at_number play.admitted c (Some (size_in held)) }) in
      let one : AddsOne play (Some next) = record { moves = refl; finish = refl } in
      either play (nat_le (all_admitted play + size_in held) budget) (admission d r memory play c (size_in held)) None
      (memory_one play (memory play.moves) (goes (on_conn (gives_up c NoMemory))) (Some next) one) tt

  open_one : (budget c : ℕ) (play : Play C A M) (conn : LoopConn) → AddsOne play (open_move d r memory budget play c conn)
  open_one budget c play conn =
      either play (not (is_empty conn.left)) _ _ (write_one play c conn.left (play.rules c))
      (either play (nat_lt conn.submitted (length conn.payloads)) _ _ (told_one play (goes (submits c)))
      (either play (nat_lt conn.collected conn.submitted) None _ tt
      (either play (nat_lt (length conn.held) 4) _ _ (read_one play c (4 - length conn.held) (play.unread c)) (size_one budget play c conn.held (play.admitted c)))))

  conn_one : (budget c : ℕ) (play : Play C A M) → AddsOne play (conn_move d r memory budget c play)
  conn_one budget c play = either play (is_open play.cell.loop c) _ None (open_one budget c play (play.cell.loop.conns c)) tt

  step_one : (play : Play C A M) (w : ℕ) (worker : WorkerState A) (jobs : List Job) → AddsOne play (step_of_worker d r memory play w worker jobs)
  step_one play w idle [] = tt
  step_one play w idle (job ∷ jobs) = told_one play (goes (takes w))
  step_one play w (holds key payload) jobs =
      let told : Told = goes (event_on d r w (d.decide payload)) in
      memory_one play (memory play.moves) (told_without d r w (memory play.moves) (d.decide payload)) (told_in d r play told) (told_one play told)
  step_one play w (has_answer key payload answer) jobs =
      memory_one play (memory play.moves) (puts_none w) (told_in d r play (goes (puts w))) (told_one play (goes (puts w)))
  step_one play w (has_none key payload) jobs = told_one play (puts_none w)

  worker_one : (w : ℕ) (play : Play C A M) → AddsOne play (worker_move d r memory w play)
  worker_one w play = step_one play w (play.cell.workers w) play.cell.hall.jobs

  first_one : (play : Play C A M) (outcomes : List JobOutcome) → AddsOne play (collect_first d r play outcomes)
  first_one play [] = tt
  first_one play (outcome ∷ outcomes) = mapped play (freed outcome.key.c) (told_in d r play (goes collects)) (λ p. refl) (λ p. refl) (told_one play (goes collects))

  collect_one : (play : Play C A M) → AddsOne play (collect_move d r play)
  collect_one play = first_one play play.cell.hall.outcomes

  stays : (play : Play C A M) → Stands (Unit {0}) play play
  stays play = record { more = omega arith; finish = refl; same = λ e. (refl, tt) }

  -- once a move was made, whatever is left of it holds
  beyond : (F G : Type 0) (old next : Play C A M) (o : Option (Play C A M)) → IsOneMore old next → Standing G next o → Standing F old o
  beyond F G old next None a s = tt
  beyond F G old next (Some new) a s =
      let x : next.moves ≡ suc old.moves = a.moves in
      let y : next.moves ≤ new.moves = s.more in
      record { more = omega arith; finish = s.finish ∙ a.finish; same = λ e. absurd (let f : ⊥ = omega arith in f) }

  goes_stands : (F : Type 0) (old : Play C A M) (o : Option (Play C A M)) (again : Play C A M → Option (Play C A M)) → (o ≡ None → F) → AddsOne old o
      → ((next : Play C A M) → Standing (Unit {0}) next (again next)) → Standing F old (goes_on_with old o again)
  goes_stands F old None again f a each = record { more = omega arith; finish = refl; same = λ e. (refl, f refl) }
  goes_stands F old (Some next) again f a each = beyond F (Unit {0}) old next (again next) a (each next)

  weaker : (F : Type 0) (old : Play C A M) (o : Option (Play C A M)) → Standing F old o → Standing (Unit {0}) old o
  weaker F old None s = tt
  weaker F old (Some new) s = record { more = s.more; finish = s.finish; same = λ e. ((s.same e).0, tt) }

  either_stands : (F : Type 0) (old : Play C A M) (b : Bool) (x y : Option (Play C A M)) → Standing F old x → Standing F old y → Standing F old (if b then x else y)
  either_stands F old true x y a b = a
  either_stands F old false x y a b = b

  still_stands : (n : ℕ) (move : Play C A M → Option (Play C A M)) → ((play : Play C A M) → AddsOne play (move play)) → (play : Play C A M)
      → Standing (move play ≡ None) play (until_still n move play)
  still_stands zero move one play = goes_stands (move play ≡ None) play (move play) (λ next. None) (λ e. e) (one play) (λ next. tt)
  still_stands (suc n) move one play =
      goes_stands (move play ≡ None) play (move play) (λ next. until_still n move next) (λ e. e) (one play) (λ next. weaker (move next ≡ None) next (until_still n move next) (still_stands n move one next))

  through_more : (n w : ℕ) (play : Play C A M) → Standing (Unit {0}) play (work_through d r memory n w play)
  through_more zero w play = stays play
  through_more (suc n) w play =
      goes_stands (Unit {0}) play (worker_move d r memory w play) (λ next. if is_idle (next.cell.workers w) then Some next else work_through d r memory n w next) (λ e. tt) (worker_one w play)
      (λ next. either_stands (Unit {0}) next (is_idle (next.cell.workers w)) (Some next) _ (stays next) (through_more n w next))

  through_stands : (n w : ℕ) (play : Play C A M) → Standing (worker_move d r memory w play ≡ None) play (work_through d r memory (suc n) w play)
  through_stands n w play =
      goes_stands (worker_move d r memory w play ≡ None) play (worker_move d r memory w play) (λ next. if is_idle (next.cell.workers w) then Some next else work_through d r memory n w next) (λ e. e)
      (worker_one w play) (λ next. either_stands (Unit {0}) next (is_idle (next.cell.workers w)) (Some next) _ (stays next) (through_more n w next))

  -- one after the other
  and_stands : (F : Type 0) (G : Play C A M → Type 0) (old : Play C A M) (f : Play C A M → Option (Play C A M)) (o : Option (Play C A M)) → Standing F old o
      → ((next : Play C A M) → Standing (G next) next (f next)) → Standing (F × G old) old (option_and_then f o)
  and_stands F G old f None a each = tt
  and_stands F G old f (Some mid) a each = go (f mid) (each mid)
    where
      go : (o : Option (Play C A M)) → Standing (G mid) mid o → Standing (F × G old) old o
      go None b = tt
      go (Some new) b =
          let x : old.moves ≤ mid.moves = a.more in
          let y : mid.moves ≤ new.moves = b.more in
          record {
            more = omega arith;
            finish = b.finish ∙ a.finish;
            same = λ e. let s : (mid ≡ old) × F = a.same (omega arith) in
                let t : (new ≡ mid) × G mid = b.same (omega arith) in
                (t.0 ∙ s.0, (s.1, subst G s.0 t.1));
          }

  -- none of these moves can be made
  abbrev NoneMoves : (ℕ → Play C A M → Option (Play C A M)) → List ℕ → Play C A M → Type 0
  NoneMoves move [] play = Unit {0}
  NoneMoves move (x ∷ xs) play = (move x play ≡ None) × NoneMoves move xs play

  none_moves : (move : ℕ → Play C A M → Option (Play C A M)) (play : Play C A M) (from n x : ℕ) → NoneMoves move (count_up from n) play → from ≤ x → x < from + n → move x play ≡ None
  none_moves move play from zero x s l m = absurd (let f : ⊥ = omega arith in f)
  none_moves move play from (suc n) x s l m = go (cases_lt from x) (λ k. none_moves move play (suc from) n x s.1 k (omega arith))
    where
      go : (from < x) ⊎ (x ≤ from) → (suc from ≤ x → move x play ≡ None) → move x play ≡ None
      go (inl k) again = again (omega arith)
      go (inr k) again = let e : from ≡ x = omega arith in subst (λ y. move y play ≡ None) e s.0

  read_stands : (fuel budget : ℕ) (cs : List ℕ) (play : Play C A M) → Standing (NoneMoves (conn_move d r memory budget) cs play) play (all_read d r memory fuel budget cs play)
  read_stands fuel budget [] play = stays play
  read_stands fuel budget (c ∷ cs) play =
      and_stands (conn_move d r memory budget c play ≡ None) (λ next. NoneMoves (conn_move d r memory budget) cs next) play (λ next. all_read d r memory fuel budget cs next) _
      (still_stands fuel (conn_move d r memory budget c) (conn_one budget c) play) (λ next. read_stands fuel budget cs next)

  work_stands : (ws : List ℕ) (play : Play C A M) → Standing (NoneMoves (λ w next. worker_move d r memory w next) ws play) play (all_work d r memory ws play)
  work_stands [] play = stays play
  work_stands (w ∷ ws) play =
      and_stands (worker_move d r memory w play ≡ None) (λ next. NoneMoves (λ x after. worker_move d r memory x after) ws next) play (λ next. all_work d r memory ws next) _
      (through_stands 2 w play) (λ next. work_stands ws next)

  -- what a pass that moves nothing tells
  abbrev Passed : ℕ → ℕ → Play C A M → Type 0
  Passed budget workers play =
      (NoneMoves (conn_move d r memory budget) (count_up 0 play.cell.loop.count) play × NoneMoves (λ w next. worker_move d r memory w next) (count_up 0 (workers_among workers)) play)
      × (collect_move d r play ≡ None)

  pass_stands : (fuel budget workers : ℕ) (play : Play C A M) → Standing (Passed budget workers play) play (pass d r memory fuel budget workers play)
  pass_stands fuel budget workers play =
      and_stands (NoneMoves (conn_move d r memory budget) (count_up 0 play.cell.loop.count) play × NoneMoves (λ w next. worker_move d r memory w next) (count_up 0 (workers_among workers)) play)
      (λ next. collect_move d r next ≡ None) play (λ next. until_still fuel (collect_move d r) next) _
      (and_stands (NoneMoves (conn_move d r memory budget) (count_up 0 play.cell.loop.count) play) (λ next. NoneMoves (λ w after. worker_move d r memory w after) (count_up 0 (workers_among workers)) next) play
      (λ next. all_work d r memory (count_up 0 (workers_among workers)) next) _ (read_stands fuel budget (count_up 0 play.cell.loop.count) play)
      (λ next. work_stands (count_up 0 (workers_among workers)) next))
      (λ next. still_stands fuel (collect_move d r) collect_one next)

  still_by : (budget workers : ℕ) (play : Play C A M) → Passed budget workers play → IsStill d r memory budget workers play
  still_by budget workers play p =
      record {
        each_conn = λ c l. none_moves (conn_move d r memory budget) play 0 play.cell.loop.count c p.0.0 (omega arith) (omega arith);
        each_worker = λ w l. none_moves (λ x next. worker_move d r memory x next) play 0 (workers_among workers) w p.0.1 (omega arith) (omega arith);
        collected = p.1;
      }

  -- a pass that moves nothing leaves nothing that can move
  pub still_pass : (fuel budget workers : ℕ) (play next : Play C A M) → pass d r memory fuel budget workers play ≡ Some next → next.moves ≡ play.moves
      → (next ≡ play) × IsStill d r memory budget workers play
  still_pass fuel budget workers play next e m =
      let s : Stands (Passed budget workers play) play next = subst (Standing (Passed budget workers play) play) e (pass_stands fuel budget workers play) in
      ((s.same m).0, still_by budget workers play (s.same m).1)

  -- Where it comes to an end, nothing can move, and what comes after the pieces is the same.
  record Ends (budget workers : ℕ) (old new : Play C A M) : Type 0 where
    still : IsStill d r memory budget workers new
    finish : new.finish ≡ old.finish

  abbrev Ending : ℕ → ℕ → Play C A M → Option (Play C A M) → Type 0
  Ending budget workers old None = Unit {0}
  Ending budget workers old (Some new) = Ends budget workers old new

  drain_ends : (n fuel budget workers : ℕ) (play : Play C A M) → Ending budget workers play (drain d r memory n fuel budget workers play)
  drain_ends zero fuel budget workers play = tt
  drain_ends (suc n) fuel budget workers play = go (pass d r memory fuel budget workers play) (pass_stands fuel budget workers play) (λ next. drain_ends n fuel budget workers next)
    where
      onward : (next : Play C A M) (o : Option (Play C A M)) → next.finish ≡ play.finish → Ending budget workers next o → Ending budget workers play o
      onward next None f e = tt
      onward next (Some new) f e = record { still = e.still; finish = e.finish ∙ f }

      by : (next : Play C A M) (b : Bool) → (next.moves == play.moves) ≡ b → Stands (Passed budget workers play) play next
          → Ending budget workers next (drain d r memory n fuel budget workers next) → Ending budget workers play (if b then Some play else drain d r memory n fuel budget workers next)
      by next true e s again = record { still = still_by budget workers play (s.same (eqb-true next.moves play.moves e)).1; finish = refl }
      by next false e s again = onward next (drain d r memory n fuel budget workers next) s.finish again

      go : (o : Option (Play C A M)) → Standing (Passed budget workers play) play o → ((next : Play C A M) → Ending budget workers next (drain d r memory n fuel budget workers next))
          → Ending budget workers play (option_and_then (λ next. if next.moves == play.moves then Some play else drain d r memory n fuel budget workers next) o)
      go None s each = tt
      go (Some next) s each = by next (next.moves == play.moves) refl s (each next)

  -- Something comes after the pieces of connection c.
  abbrev HasFinish : ℕ → Option (Play C A M) → Type 0
  HasFinish c None = Unit {0}
  HasFinish c (Some play) = play.finish c ≢ None

  same_finish : (c : ℕ) (old new : Play C A M) → new.finish ≡ old.finish → old.finish c ≢ None → new.finish c ≢ None
  same_finish c old new e n f = n (ap (λ (finish : ℕ → Option InputFinish). finish c) (sym e) ∙ f)

  left_finish : (c : ℕ) (old : Play C A M) (o : Option (Play C A M)) → AddsOne old o → old.finish c ≢ None → (left_by old o).finish c ≢ None
  left_finish c old None a n = n
  left_finish c old (Some new) a n = same_finish c old new a.finish n

  drain_finish : (c n fuel budget workers : ℕ) (play : Play C A M) → play.finish c ≢ None → HasFinish c (drain d r memory n fuel budget workers play)
  drain_finish c n fuel budget workers play f = go (drain d r memory n fuel budget workers play) (drain_ends n fuel budget workers play)
    where
      go : (o : Option (Play C A M)) → Ending budget workers play o → HasFinish c o
      go None e = tt
      go (Some new) e = same_finish c play new e.finish f

  set_finish : (c x : ℕ) (finish : ℕ → Option InputFinish) (set : InputFinish) → finish c ≢ None → at_number finish x (Some set) c ≢ None
  set_finish c x finish set n = go (c == x)
    where
      go : (b : Bool) → (if b then Some set else finish c) ≢ None
      go true e = none-some set (sym e)
      go false e = n e

  own_finish : (c x : ℕ) (finish : ℕ → Option InputFinish) (set : InputFinish) → (x == c) ≡ true → at_number finish x (Some set) c ≢ None
  own_finish c x finish set e f =
      none-some set (sym f ∙ ap (λ b. if b then Some set else finish c) (eq-eqb c x (sym (eqb-true x c e))))

  line_finish : (c fuel budget workers : ℕ) (play : Play C A M) (line : PlanLine) → play.finish c ≢ None → HasFinish c (line_done d r memory fuel budget workers play line)
  line_finish c fuel budget workers play opening n = left_finish c play (told_in d r play (goes (on_conn opens))) (told_one play (goes (on_conn opens))) n
  line_finish c fuel budget workers play (piece x bytes) n = n
  line_finish c fuel budget workers play (input_end x) n = set_finish c x play.finish finishes n
  line_finish c fuel budget workers play (input_fault x) n = set_finish c x play.finish faults n
  line_finish c fuel budget workers play resting n = drain_finish c fuel fuel budget workers play n
  line_finish c fuel budget workers play (turn_of_conn x) n = left_finish c play (conn_move d r memory budget x play) (conn_one budget x play) n
  line_finish c fuel budget workers play (turn_of_worker w) n = left_finish c play (worker_move d r memory w play) (worker_one w play) n
  line_finish c fuel budget workers play turn_of_outcome n = left_finish c play (collect_move d r play) (collect_one play) n

  end_sets : (c fuel budget workers : ℕ) (line : PlanLine) (play : Play C A M) → ends_input c line ≡ true → HasFinish c (line_done d r memory fuel budget workers play line)
  end_sets c fuel budget workers (input_end x) play e = own_finish c x play.finish finishes e
  end_sets c fuel budget workers opening play e = absurd (false≢true e)
  end_sets c fuel budget workers (piece x bytes) play e = absurd (false≢true e)
  end_sets c fuel budget workers (input_fault x) play e = absurd (false≢true e)
  end_sets c fuel budget workers resting play e = absurd (false≢true e)
  end_sets c fuel budget workers (turn_of_conn x) play e = absurd (false≢true e)
  end_sets c fuel budget workers (turn_of_worker w) play e = absurd (false≢true e)
  end_sets c fuel budget workers turn_of_outcome play e = absurd (false≢true e)

  fault_sets : (c fuel budget workers : ℕ) (line : PlanLine) (play : Play C A M) → fails_input c line ≡ true → HasFinish c (line_done d r memory fuel budget workers play line)
  fault_sets c fuel budget workers (input_fault x) play e = own_finish c x play.finish faults e
  fault_sets c fuel budget workers opening play e = absurd (false≢true e)
  fault_sets c fuel budget workers (piece x bytes) play e = absurd (false≢true e)
  fault_sets c fuel budget workers (input_end x) play e = absurd (false≢true e)
  fault_sets c fuel budget workers resting play e = absurd (false≢true e)
  fault_sets c fuel budget workers (turn_of_conn x) play e = absurd (false≢true e)
  fault_sets c fuel budget workers (turn_of_worker w) play e = absurd (false≢true e)
  fault_sets c fuel budget workers turn_of_outcome play e = absurd (false≢true e)

  lines_finish : (c fuel budget workers : ℕ) (lines : List PlanLine) (play : Play C A M) → play.finish c ≢ None → HasFinish c (lines_done d r memory fuel budget workers lines play)
  lines_finish c fuel budget workers [] play n = drain_finish c fuel fuel budget workers play n
  lines_finish c fuel budget workers (line ∷ lines) play n =
      go (line_done d r memory fuel budget workers play line) (line_finish c fuel budget workers play line n) (λ next m. lines_finish c fuel budget workers lines next m)
    where
      go : (o : Option (Play C A M)) → HasFinish c o → ((next : Play C A M) → next.finish c ≢ None → HasFinish c (lines_done d r memory fuel budget workers lines next))
          → HasFinish c (option_and_then (λ next. lines_done d r memory fuel budget workers lines next) o)
      go None m each = tt
      go (Some next) m each = each next m

  -- a line that some test finds, and that gives connection c its end, does so for the play that the lines come to
  lines_set : (c fuel budget workers : ℕ) (test : PlanLine → Bool) → ((line : PlanLine) (play : Play C A M) → test line ≡ true → HasFinish c (line_done d r memory fuel budget workers play line))
      → (lines : List PlanLine) (play : Play C A M) → some_line test lines ≡ true → HasFinish c (lines_done d r memory fuel budget workers lines play)
  lines_set c fuel budget workers test sets [] play e = absurd (false≢true e)
  lines_set c fuel budget workers test sets (line ∷ lines) play e =
      go (line_done d r memory fuel budget workers play line) (or_cases (test line) (some_line test lines) e) (λ f. sets line play f) (λ next f. lines_set c fuel budget workers test sets lines next f)
    where
      go : (o : Option (Play C A M)) → (test line ≡ true) ⊎ (some_line test lines ≡ true) → (test line ≡ true → HasFinish c o)
          → ((next : Play C A M) → some_line test lines ≡ true → HasFinish c (lines_done d r memory fuel budget workers lines next))
          → HasFinish c (option_and_then (λ next. lines_done d r memory fuel budget workers lines next) o)
      go None t now later = tt
      go (Some next) (inl f) now later = lines_finish c fuel budget workers lines next (now f)
      go (Some next) (inr f) now later = later next f

  pub finish_comes : (c fuel budget workers : ℕ) (lines : List PlanLine) (first last : Play C A M) → lines_done d r memory fuel budget workers lines first ≡ Some last
      → (some_line (ends_input c) lines ≡ true) ⊎ (some_line (fails_input c) lines ≡ true) → last.finish c ≢ None
  finish_comes c fuel budget workers lines first last e (inl t) = subst (HasFinish c) e (lines_set c fuel budget workers (ends_input c) (λ line play f. end_sets c fuel budget workers line play f) lines first t)
  finish_comes c fuel budget workers lines first last e (inr t) = subst (HasFinish c) e (lines_set c fuel budget workers (fails_input c) (λ line play f. fault_sets c fuel budget workers line play f) lines first t)

  -- what lines come to is still
  abbrev Stills : ℕ → ℕ → Option (Play C A M) → Type 0
  Stills budget workers None = Unit {0}
  Stills budget workers (Some play) = IsStill d r memory budget workers play

  lines_still : (fuel budget workers : ℕ) (lines : List PlanLine) (play : Play C A M) → Stills budget workers (lines_done d r memory fuel budget workers lines play)
  lines_still fuel budget workers [] play = go (drain d r memory fuel fuel budget workers play) (drain_ends fuel fuel budget workers play)
    where
      go : (o : Option (Play C A M)) → Ending budget workers play o → Stills budget workers o
      go None e = tt
      go (Some new) e = e.still
  lines_still fuel budget workers (line ∷ lines) play = go (line_done d r memory fuel budget workers play line) (λ next. lines_still fuel budget workers lines next)
    where
      go : (o : Option (Play C A M)) → ((next : Play C A M) → Stills budget workers (lines_done d r memory fuel budget workers lines next))
          → Stills budget workers (option_and_then (λ next. lines_done d r memory fuel budget workers lines next) o)
      go None each = tt
      go (Some next) each = each next

  pub still_at_last : (fuel budget workers : ℕ) (lines : List PlanLine) (first last : Play C A M) → lines_done d r memory fuel budget workers lines first ≡ Some last
      → IsStill d r memory budget workers last
  still_at_last fuel budget workers lines first last e = subst (Stills budget workers) e (lines_still fuel budget workers lines first)
