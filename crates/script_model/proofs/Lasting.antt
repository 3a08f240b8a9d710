-- What each move of a rehearsal keeps, the whole rehearsal keeps.
use Rattle.std.proofs.Common.{ℕ, zero, suc, Bool, true, false, ◌==◌, if◌then◌else◌, Option, None, Some, List, [], ◌∷◌, ◌++◌, ◌≡◌, refl, option_map}
use Rattle.std.specs.Prelude.{option_and_then}
use Rattle.host_model.specs.Journal.{ServiceRules}
use Rattle.host_model.specs.DeskRules.{DeskRules}
use Rattle.machine_model.specs.Loop.{opens}
use Rattle.machine_model.specs.Machine.{on_conn}
use Rattle.machine_model.specs.Plain.{goes}
use Rattle.script_model.specs.ScriptLines.{PlanLine, opening, piece, input_end, input_fault, resting, turn_of_conn, turn_of_worker, turn_of_outcome, count_up}
use Rattle.script_model.specs.Playing.{finishes, faults, InputFinish, MemoryAt, Play, at_number, or_else, told_in, conn_move, worker_move, collect_move}
use Rattle.script_model.specs.Rehearsing.{workers_among, is_idle, left_by, goes_on_with, until_still, work_through, all_read, all_work, pass, drain, line_done, lines_done}

module _ {C A M : Type 0} (Holds : Play C A M → Type 0) where
  -- what comes of a move, where something does, holds
  abbrev pub Holding : Option (Play C A M) → Type 0
  Holding None = Unit {0}
  Holding (Some play) = Holds play

  pub by_test : (b : Bool) (x y : Option (Play C A M)) → (b ≡ true → Holding x) → (b ≡ false → Holding y) → Holding (if b then x else y)
  by_test true x y f g = f refl
  by_test false x y f g = g refl

  pub mapped_holds : (f : Play C A M → Play C A M) (o : Option (Play C A M)) → ((play : Play C A M) → Holds play → Holds (f play)) → Holding o → Holding (option_map f o)
  mapped_holds f None each h = tt
  mapped_holds f (Some play) each h = each play h

  pub or_holds : (x y : Option (Play C A M)) → Holding x → Holding y → Holding (or_else x y)
  or_holds None y h k = k
  or_holds (Some x) y h k = h

  and_holds : (f : Play C A M → Option (Play C A M)) (o : Option (Play C A M)) → Holding o → ((play : Play C A M) → Holds play → Holding (f play)) → Holding (option_and_then f o)
  and_holds f None h each = tt
  and_holds f (Some play) h each = each play h

  goes_holds : (play : Play C A M) (o : Option (Play C A M)) (again : Play C A M → Option (Play C A M)) → Holds play → Holding o → ((next : Play C A M) → Holds next → Holding (again next))
      → Holding (goes_on_with play o again)
  goes_holds play None again old h each = old
  goes_holds play (Some next) again old h each = each next h

  left_holds : (play : Play C A M) (o : Option (Play C A M)) → Holds play → Holding o → Holds (left_by play o)
  left_holds play None old h = old
  left_holds play (Some next) old h = h

  still_holds : (n : ℕ) (move : Play C A M → Option (Play C A M)) → ((play : Play C A M) → Holds play → Holding (move play)) → (play : Play C A M) → Holds play → Holding (until_still n move play)
  still_holds zero move each play h = goes_holds play (move play) (λ next. None) h (each play h) (λ next k. tt)
  still_holds (suc n) move each play h = goes_holds play (move play) (λ next. until_still n move next) h (each play h) (λ next k. still_holds n move each next k)

  -- each kind of move keeps it, and so does what arrives
  module _ (d : DeskRules C A) (r : ServiceRules C A M) (memory : ℕ → MemoryAt)
      (by_conn : (budget c : ℕ) (play : Play C A M) → Holds play → Holding (conn_move d r memory budget c play))
      (by_worker : (w : ℕ) (play : Play C A M) → Holds play → Holding (worker_move d r memory w play))
      (by_outcome : (play : Play C A M) → Holds play → Holding (collect_move d r play))
      (by_opening : (play : Play C A M) → Holds play → Holding (told_in d r play (goes (on_conn opens))))
      (arrived : (play : Play C A M) (unread : ℕ → List (List ℕ)) (finish : ℕ → Option InputFinish) → Holds play → Holds (record play { unread = unread; finish = finish })) where
    through_holds : (n w : ℕ) (play : Play C A M) → Holds play → Holding (work_through d r memory n w play)
    through_holds zero w play h = h
    through_holds (suc n) w play h =
        goes_holds play (worker_move d r memory w play) (λ next. if is_idle (next.cell.workers w) then Some next else work_through d r memory n w next) h (by_worker w play h)
        (λ next k. by_test (is_idle (next.cell.workers w)) (Some next) (work_through d r memory n w next) (λ e. k) (λ e. through_holds n w next k))

    all_read_holds : (fuel budget : ℕ) (cs : List ℕ) (play : Play C A M) → Holds play → Holding (all_read d r memory fuel budget cs play)
    all_read_holds fuel budget [] play h = h
    all_read_holds fuel budget (c ∷ cs) play h =
        and_holds (λ next. all_read d r memory fuel budget cs next) (until_still fuel (conn_move d r memory budget c) play)
        (still_holds fuel (conn_move d r memory budget c) (by_conn budget c) play h) (λ next k. all_read_holds fuel budget cs next k)

    all_work_holds : (ws : List ℕ) (play : Play C A M) → Holds play → Holding (all_work d r memory ws play)
    all_work_holds [] play h = h
    all_work_holds (w ∷ ws) play h =
        and_holds (λ next. all_work d r memory ws next) (work_through d r memory 3 w play) (through_holds 3 w play h) (λ next k. all_work_holds ws next k)

    pass_holds : (fuel budget workers : ℕ) (play : Play C A M) → Holds play → Holding (pass d r memory fuel budget workers play)
    pass_holds fuel budget workers play h =
        let ws : List ℕ = count_up 0 (workers_among workers) in
        let cs : List ℕ = count_up 0 play.cell.loop.count in
        and_holds (λ next. until_still fuel (collect_move d r) next) (option_and_then (λ next. all_work d r memory ws next) (all_read d r memory fuel budget cs play))
        (and_holds (λ next. all_work d r memory ws next) (all_read d r memory fuel budget cs play) (all_read_holds fuel budget cs play h) (λ next k. all_work_holds ws next k))
        (λ next k. still_holds fuel (collect_move d r) by_outcome next k)

    drain_holds : (n fuel budget workers : ℕ) (play : Play C A M) → Holds play → Holding (drain d r memory n fuel budget workers play)
    drain_holds zero fuel budget workers play h = tt
    drain_holds (suc n) fuel budget workers play h =
        and_holds (λ next. if next.moves == play.moves then Some play else drain d r memory n fuel budget workers next) (pass d r memory fuel budget workers play)
        (pass_holds fuel budget workers play h)
        (λ next k. by_test (next.moves == play.moves) (Some play) (drain d r memory n fuel budget workers next) (λ e. h) (λ e. drain_holds n fuel budget workers next k))

    line_holds : (fuel budget workers : ℕ) (play : Play C A M) (line : PlanLine) → Holds play → Holding (line_done d r memory fuel budget workers play line)
    line_holds fuel budget workers play opening h = left_holds play (told_in d r play (goes (on_conn opens))) h (by_opening play h)
    line_holds fuel budget workers play (piece c bytes) h = arrived play (at_number play.unread c (play.unread c ++ bytes ∷ [])) play.finish h
    line_holds fuel budget workers play (input_end c) h = arrived play play.unread (at_number play.finish c (Some finishes)) h
    line_holds fuel budget workers play (input_fault c) h = arrived play play.unread (at_number play.finish c (Some faults)) h
    line_holds fuel budget workers play resting h = drain_holds fuel fuel budget workers play h
    line_holds fuel budget workers play (turn_of_conn c) h = left_holds play (conn_move d r memory budget c play) h (by_conn budget c play h)
    line_holds fuel budget workers play (turn_of_worker w) h = left_holds play (worker_move d r memory w play) h (by_worker w play h)
    line_holds fuel budget workers play turn_of_outcome h = left_holds play (collect_move d r play) h (by_outcome play h)

    pub lines_hold : (fuel budget workers : ℕ) (lines : List PlanLine) (play : Play C A M) → Holds play → Holding (lines_done d r memory fuel budget workers lines play)
    lines_hold fuel budget workers [] play h = drain_holds fuel fuel budget workers play h
    lines_hold fuel budget workers (line ∷ lines) play h =
        and_holds (λ next. lines_done d r memory fuel budget workers lines next) (line_done d r memory fuel budget workers play line) (line_holds fuel budget workers play line h)
        (λ next k. lines_hold fuel budget workers lines next k)
