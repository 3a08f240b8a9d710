-- Some number of steps suffices: a run is drained by no more moves than its weight, and so each line of a script is done.
use Rattle.std.proofs.Common.{◌≡◌, ℕ, zero, suc, ◌+◌, ◌<◌, ◌≤◌, ◌≢◌, ◌⊎◌, inl, inr, option_map, Bool, true, false, ◌==◌, if◌then◌else◌, Option, None, Some, List, [], ◌∷◌, ◌++◌, refl, sym, ap, ◌∙◌, arith}
use Rattle.std.specs.Prelude.{option_and_then}
use Rattle.std.proofs.lemmas.Bool.{eq-eqb, true≢false, cases_lt}
use Rattle.host_model.specs.Journal.{ServiceRules}
use Rattle.host_model.specs.DeskRules.{DeskRules}
use Rattle.machine_model.specs.Loop.{Loop, opens}
use Rattle.machine_model.specs.Machine.{Cell, on_conn}
use Rattle.machine_model.specs.Plain.{goes, with_loop, conn_event_plain}
use Rattle.script_model.specs.ScriptLines.{PlanLine, opening, piece, input_end, input_fault, resting, turn_of_conn, turn_of_worker, turn_of_outcome, ScriptPlan, count_up}
use Rattle.script_model.specs.Playing.{finishes, faults, MemoryAt, Play, at_number, told_in, conn_move, worker_move, collect_move}
use Rattle.script_model.specs.Rehearsing.{workers_among, is_idle, left_by, goes_on_with, until_still, work_through, all_read, all_work, pass, drain, line_done, lines_done, before_all, IsRehearsalOf}
use Rattle.script_model.proofs.Lasting.{Holding}
use Rattle.script_model.proofs.Sufficing.{line_agrees, lines_agree}
use Rattle.script_model.proofs.Spending.{play_weight, IsLess, conn_less, worker_less, collect_less}

-- what comes of one thing, and then of another
chained : {X : Type 0} (f : X → Option X) (o : Option X) (x y : X) → o ≡ Some x → f x ≡ Some y → option_and_then f o ≡ Some y
chained f o x y e k = ap (option_and_then f) e ∙ k

module _ {C A M : Type 0} (bound : ℕ) where
  -- no fewer moves were made, each took something off what is left to do, and the hall isn't closed
  record Spends (old new : Play C A M) : Type 0 where
    weight : play_weight bound new + new.moves ≤ play_weight bound old + old.moves
    moves : old.moves ≤ new.moves
    closed : new.cell.hall.closed ≡ false

  -- something comes of it
  abbrev Comes : Play C A M → Option (Play C A M) → Type 0
  Comes old o = (new : Play C A M) × (o ≡ Some new) × Spends old new

  spends_none : (play : Play C A M) → play.cell.hall.closed ≡ false → Spends play play
  spends_none play open_yet = record { weight = omega arith; moves = omega arith; closed = open_yet }

  spends_one : (old next : Play C A M) → IsLess bound old next → Spends old next
  spends_one old next one =
      let a : play_weight bound next < play_weight bound old = one.weight in
      let b : next.moves ≡ suc old.moves = one.moves in
      record { weight = omega arith; moves = omega arith; closed = one.closed }

  spends_on : (old next new : Play C A M) → Spends old next → Spends next new → Spends old new
  spends_on old next new one two =
      let a : play_weight bound next + next.moves ≤ play_weight bound old + old.moves = one.weight in
      let b : play_weight bound new + new.moves ≤ play_weight bound next + next.moves = two.weight in
      let e : old.moves ≤ next.moves = one.moves in
      let f : next.moves ≤ new.moves = two.moves in
      record { weight = omega arith; moves = omega arith; closed = two.closed }

  comes_on : (old next : Play C A M) (o : Option (Play C A M)) → Spends old next → Comes next o → Comes old o
  comes_on old next o s t = (t.0, t.1, spends_on old next t.0 s t.2)

  and_comes : (old : Play C A M) (f : Play C A M → Option (Play C A M)) (o : Option (Play C A M)) → Comes old o → ((next : Play C A M) → Spends old next → Comes next (f next))
      → Comes old (option_and_then f o)
  and_comes old f o t each =
      let u : Comes t.0 (f t.0) = each t.0 t.2 in
      (u.0, chained f o t.0 u.0 t.1 u.1, spends_on old t.0 u.0 t.2 u.2)

  goes_comes : (old : Play C A M) (o : Option (Play C A M)) (again : Play C A M → Option (Play C A M)) → old.cell.hall.closed ≡ false → Holding (IsLess bound old) o
      → ((next : Play C A M) → IsLess bound old next → Comes next (again next)) → Comes old (goes_on_with old o again)
  goes_comes old None again open_yet less each = (old, refl, spends_none old open_yet)
  goes_comes old (Some next) again open_yet less each = comes_on old next (again next) (spends_one old next less) (each next less)

  either_comes : (old : Play C A M) (b : Bool) (x y : Option (Play C A M)) → (b ≡ true → Comes old x) → (b ≡ false → Comes old y) → Comes old (if b then x else y)
  either_comes old true x y f g = f refl
  either_comes old false x y f g = g refl

  -- a move is made as often as it can be
  still_comes : (n : ℕ) (move : Play C A M → Option (Play C A M)) → ((play : Play C A M) → play.cell.hall.closed ≡ false → Holding (IsLess bound play) (move play)) → (play : Play C A M)
      → play.cell.hall.closed ≡ false → play_weight bound play ≤ n → Comes play (until_still n move play)
  still_comes zero move each play open_yet l =
      goes_comes play (move play) (λ next. None) open_yet (each play open_yet)
      (λ next less. let a : play_weight bound next < play_weight bound play = less.weight in absurd (let f : ⊥ = omega arith in f))
  still_comes (suc n) move each play open_yet l =
      goes_comes play (move play) (λ next. until_still n move next) open_yet (each play open_yet)
      (λ next less. let a : play_weight bound next < play_weight bound play = less.weight in still_comes n move each next less.closed (omega arith))

module _ {C A M : Type 0} (d : DeskRules C A) (r : ServiceRules C A M) (memory : ℕ → MemoryAt) (budget workers : ℕ) where
  abbrev Counted : Play C A M → ℕ
  Counted play = play_weight (workers_among workers) play

  abbrev ComesOf : Play C A M → Option (Play C A M) → Type 0
  ComesOf old o = Comes (workers_among workers) old o

  through_comes : (n w : ℕ) (play : Play C A M) → w < workers_among workers → play.cell.hall.closed ≡ false → ComesOf play (work_through d r memory n w play)
  through_comes zero w play among open_yet = (play, refl, spends_none (workers_among workers) play open_yet)
  through_comes (suc n) w play among open_yet =
      goes_comes (workers_among workers) play (worker_move d r memory w play) (λ next. if is_idle (next.cell.workers w) then Some next else work_through d r memory n w next) open_yet
      (worker_less d r memory (workers_among workers) w play among open_yet)
      (λ next less. either_comes (workers_among workers) next (is_idle (next.cell.workers w)) (Some next) (work_through d r memory n w next)
      (λ e. (next, refl, spends_none (workers_among workers) next less.closed)) (λ e. through_comes n w next among less.closed))

  read_comes : (fuel : ℕ) (cs : List ℕ) (play : Play C A M) → play.cell.hall.closed ≡ false → Counted play ≤ fuel → ComesOf play (all_read d r memory fuel budget cs play)
  read_comes fuel [] play open_yet l = (play, refl, spends_none (workers_among workers) play open_yet)
  read_comes fuel (c ∷ cs) play open_yet l =
      and_comes (workers_among workers) play (λ next. all_read d r memory fuel budget cs next) (until_still fuel (conn_move d r memory budget c) play)
      (still_comes (workers_among workers) fuel (conn_move d r memory budget c) (λ old o. conn_less d r memory (workers_among workers) budget c old o) play open_yet l)
      (λ next s. let a : Counted next + next.moves ≤ Counted play + play.moves = s.weight in
      let b : play.moves ≤ next.moves = s.moves in
      read_comes fuel cs next s.closed (omega arith))

  work_comes : (from n : ℕ) (play : Play C A M) → from + n ≤ workers_among workers → play.cell.hall.closed ≡ false → ComesOf play (all_work d r memory (count_up from n) play)
  work_comes from zero play l open_yet = (play, refl, spends_none (workers_among workers) play open_yet)
  work_comes from (suc n) play l open_yet =
      and_comes (workers_among workers) play (λ next. all_work d r memory (count_up (suc from) n) next) (work_through d r memory 3 from play)
      (through_comes 3 from play (omega arith) open_yet) (λ next s. work_comes (suc from) n next (omega arith) s.closed)

  pass_comes : (fuel : ℕ) (play : Play C A M) → play.cell.hall.closed ≡ false → Counted play ≤ fuel → ComesOf play (pass d r memory fuel budget workers play)
  pass_comes fuel play open_yet l =
      and_comes (workers_among workers) play (λ next. until_still fuel (collect_move d r) next)
      (option_and_then (λ next. all_work d r memory (count_up 0 (workers_among workers)) next) (all_read d r memory fuel budget (count_up 0 play.cell.loop.count) play))
      (and_comes (workers_among workers) play (λ next. all_work d r memory (count_up 0 (workers_among workers)) next) (all_read d r memory fuel budget (count_up 0 play.cell.loop.count) play)
      (read_comes fuel (count_up 0 play.cell.loop.count) play open_yet l) (λ next s. work_comes 0 (workers_among workers) next (omega arith) s.closed))
      (λ next s. let a : Counted next + next.moves ≤ Counted play + play.moves = s.weight in
      let b : play.moves ≤ next.moves = s.moves in
      still_comes (workers_among workers) fuel (collect_move d r) (λ old o. collect_less d r memory (workers_among workers) old o) next s.closed (omega arith))

  drain_comes : (n fuel : ℕ) (play : Play C A M) → play.cell.hall.closed ≡ false → Counted play < n → Counted play ≤ fuel → ComesOf play (drain d r memory n fuel budget workers play)
  drain_comes zero fuel play open_yet l m = absurd (let f : ⊥ = omega arith in f)
  drain_comes (suc n) fuel play open_yet l m =
      let t : ComesOf play (pass d r memory fuel budget workers play) = pass_comes fuel play open_yet m in
      let s : Counted t.0 + t.0.moves ≤ Counted play + play.moves = t.2.weight in
      let u : play.moves ≤ t.0.moves = t.2.moves in
      let v : ComesOf play (if t.0.moves == play.moves then Some play else drain d r memory n fuel budget workers t.0) =
      either_comes (workers_among workers) play (t.0.moves == play.moves) (Some play) (drain d r memory n fuel budget workers t.0)
      (λ e. (play, refl, spends_none (workers_among workers) play open_yet))
      (λ e. let ne : t.0.moves ≢ play.moves = λ same. true≢false (sym (eq-eqb t.0.moves play.moves same) ∙ e) in
      let more : play.moves < t.0.moves = further play.moves t.0.moves u ne in
      comes_on (workers_among workers) play t.0 (drain d r memory n fuel budget workers t.0) t.2 (drain_comes n fuel t.0 t.2.closed (omega arith) (omega arith))) in
      (v.0, chained (λ next. if next.moves == play.moves then Some play else drain d r memory n fuel budget workers next) (pass d r memory fuel budget workers play) t.0 v.0 t.1 v.1, v.2)
    where
      further : (x y : ℕ) → x ≤ y → y ≢ x → x < y
      further x y l n = go (cases_lt x y)
        where
          go : (x < y) ⊎ (y ≤ x) → x < y
          go (inl k) = k
          go (inr k) = absurd (n (omega arith))

  -- with some number of steps this is done, and the hall isn't closed then
  abbrev Suffices : (ℕ → Option (Play C A M)) → Type 0
  Suffices done = (fuel : ℕ) × (new : Play C A M) × (done fuel ≡ Some new) × (new.cell.hall.closed ≡ false)

  drain_suffices : (play : Play C A M) → play.cell.hall.closed ≡ false → Suffices (λ fuel. drain d r memory fuel fuel budget workers play)
  drain_suffices play open_yet =
      let t : ComesOf play (drain d r memory (suc (Counted play)) (suc (Counted play)) budget workers play) = drain_comes (suc (Counted play)) (suc (Counted play)) play open_yet (omega arith) (omega arith) in
      (suc (Counted play), t.0, t.1, t.2.closed)

  left_open : (bound : ℕ) (old : Play C A M) (o : Option (Play C A M)) → old.cell.hall.closed ≡ false → Holding (IsLess bound old) o → (left_by old o).cell.hall.closed ≡ false
  left_open bound old None open_yet less = open_yet
  left_open bound old (Some new) open_yet less = less.closed

  opens_open : (play : Play C A M) → play.cell.hall.closed ≡ false → (left_by play (told_in d r play (goes (on_conn opens)))).cell.hall.closed ≡ false
  opens_open play open_yet = go (conn_event_plain d.max play.cell.loop opens)
    where
      go : (o : Option Loop) → (left_by play (option_map (λ cell. record play { cell = cell; moves = suc play.moves }) (with_loop play.cell o))).cell.hall.closed ≡ false
      go None = open_yet
      go (Some loop) = open_yet

  line_suffices : (play : Play C A M) (line : PlanLine) → play.cell.hall.closed ≡ false → Suffices (λ fuel. line_done d r memory fuel budget workers play line)
  line_suffices play opening open_yet = (0, left_by play (told_in d r play (goes (on_conn opens))), refl, opens_open play open_yet)
  line_suffices play (piece c bytes) open_yet = (0, record play { unread = at_number play.unread c (play.unread c ++ bytes ∷ []) }, refl, open_yet)
  line_suffices play (input_end c) open_yet = (0, record play { finish = at_number play.finish c (Some finishes) }, refl, open_yet)
  line_suffices play (input_fault c) open_yet = (0, record play { finish = at_number play.finish c (Some faults) }, refl, open_yet)
  line_suffices play resting open_yet = drain_suffices play open_yet
  line_suffices play (turn_of_conn c) open_yet =
      (0, left_by play (conn_move d r memory budget c play), refl, left_open 0 play (conn_move d r memory budget c play) open_yet (conn_less d r memory 0 budget c play open_yet))
  line_suffices play (turn_of_worker w) open_yet =
      (0, left_by play (worker_move d r memory w play), refl, left_open (suc w) play (worker_move d r memory w play) open_yet (worker_less d r memory (suc w) w play (omega arith) open_yet))
  line_suffices play turn_of_outcome open_yet =
      (0, left_by play (collect_move d r play), refl, left_open 0 play (collect_move d r play) open_yet (collect_less d r memory 0 play open_yet))

  lines_suffice : (lines : List PlanLine) (play : Play C A M) → play.cell.hall.closed ≡ false → Suffices (λ fuel. lines_done d r memory fuel budget workers lines play)
  lines_suffice [] play open_yet = drain_suffices play open_yet
  lines_suffice (line ∷ lines) play open_yet =
      let s : Suffices (λ fuel. line_done d r memory fuel budget workers play line) = line_suffices play line open_yet in
      let t : Suffices (λ fuel. lines_done d r memory fuel budget workers lines s.1) = lines_suffice lines s.1 s.3 in
      let a : line_done d r memory (s.0 + t.0) budget workers play line ≡ Some s.1 = line_agrees d r memory budget workers s.0 (s.0 + t.0) (omega arith) play line s.1 s.2 in
      let b : lines_done d r memory (s.0 + t.0) budget workers lines s.1 ≡ Some t.1 = lines_agree d r memory budget workers t.0 (s.0 + t.0) (omega arith) lines s.1 t.1 t.2 in
      (s.0 + t.0, t.1, chained (λ next. lines_done d r memory (s.0 + t.0) budget workers lines next) (line_done d r memory (s.0 + t.0) budget workers play line) s.1 t.1 a b, t.3)

  -- a script has a rehearsal
  pub some_suffice : (script : ScriptPlan) (first : Cell C A M) → first.hall.closed ≡ false → (wants : ℕ) × (last : Cell C A M) × IsRehearsalOf d r memory budget workers script wants first last
  some_suffice script first open_yet =
      let t : Suffices (λ fuel. lines_done d r memory fuel budget workers script.lines (before_all first script)) = lines_suffice script.lines (before_all first script) open_yet in
      (t.1.wants, t.1.cell, record { fuel = t.0; play = t.1; done = t.2; count = refl; same = refl })
