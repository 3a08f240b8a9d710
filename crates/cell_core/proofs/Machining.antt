-- A worker's move of a machine in memory: whichever play the machine was tied to, and what the move keeps.
use Rattle.std.proofs.Common.{◌≡◌, ℕ, ◌<◌, Bool, Result, List, length, set, get_or, length-set, refl, sym, ap, ◌∙◌, subst}
use Rattle.std.specs.Prelude.{IfOk, IfErr, OnErr}
use Rattle.std.proofs.lemmas.List.{set-set}
use Rattle.call_rules.specs.Desks.{DeskMeaning}
use Rattle.hall_core.specs.Meant.{ServedHall}
use Rattle.cell_loop.specs.declared.loop_part.LoopPart.{LoopPart}
use Rattle.cell_core.specs.declared.worker.Holding.{Holding}
use Rattle.cell_core.specs.declared.worker.Holding.TheVariants.{Idle}
use Rattle.cell_core.specs.declared.turn.Stepped.{Stepped}
use Rattle.cell_core.specs.declared.turn.Stepped.TheVariants.{Idle, Moves, Fails}
use Rattle.cell_core.specs.declared.stop.RunStop.{RunStop}
use Rattle.cell_core.specs.declared.stop.RunStop.TheVariants.{JournalFault}
use Rattle.cell_loop.specs.Settings.{CellSetting, ServedPlay}
use Rattle.cell_loop.specs.Moving.{ComesTo, one_of_worker}
use Rattle.cell_loop.specs.Reached.{IsReached, IsReachedFrom}
use Rattle.cell_core.specs.TurnMoves.{MayTurn}
use Rattle.cell_core.specs.Turns.{IsWorkerTurn, AnswersStep}
use Rattle.cell_core.specs.Parts.{Parts}
use Rattle.cell_core.specs.Machines.{ArePlayed, IsOfDesk, DeskMoves, FailsAt, LeavesLess, MoveKeeps}
use Rattle.cell_core.proofs.Working.{worker_may, WorkMakes, work_makes}
use Rattle.cell_core.proofs.Lessening.{worker_lessens, stays_heavy}

-- a worker of a machine of this desk may make a step
pub machine_may : (desk : DeskMeaning) (m : Parts) (w : ℕ) → IsOfDesk desk m → MayTurn desk m.hall (get_or m.workers w Idle)
machine_may desk m w now = worker_may now.0 m.part m.hall m.workers w desk now.1 now.2

-- what was taken out and put back
pub put_back_so : (old out back : List Holding) (w : ℕ) (next : Holding) → out ≡ set old w Idle → back ≡ set out w next → back ≡ set old w next
put_back_so old out back w next taken put = put ∙ ap (λ xs. set xs w next) taken ∙ set-set old w Idle next

-- only the journal's failing stops a worker
pub only_faults : (stepped : Stepped) (result : Result Bool RunStop) → AnswersStep stepped result → IfErr result (λ stop. stop ≡ JournalFault)
only_faults Idle result tells = subst (λ r. IfErr r (λ stop. stop ≡ JournalFault)) (sym tells) tt
only_faults Moves result tells = subst (λ r. IfErr r (λ stop. stop ≡ JournalFault)) (sym tells) tt
only_faults Fails result tells = subst (λ r. IfErr r (λ stop. stop ≡ JournalFault)) (sym tells) refl

module _ (desk : DeskMeaning) (w : ℕ) (part : LoopPart) (hall new_hall : ServedHall) (workers : List Holding) (next : Holding) (stepped : Stepped) (there : w < length workers)
    (turned : IsWorkerTurn desk hall new_hall (get_or workers w Idle) next stepped)
    (reaches : (s : CellSetting) (v : ℕ) (one other : ServedPlay) → IsReached s one → ComesTo (one_of_worker s v) one other → IsReachedFrom s one other) where
  -- the machine before the step, and after it
  abbrev before : Parts
  before = record { part = part; hall = hall; workers = workers }

  abbrev behind : Parts
  behind = record { part = part; hall = new_hall; workers = set workers w next }

  -- what the step makes of a play
  makes : (s : CellSetting) (play : ServedPlay) → s.desk ≡ desk → ArePlayed s before play → (now : Stepped) → stepped ≡ now → WorkMakes s w play part hall new_hall workers next now
  makes s play same tied now is =
      subst (WorkMakes s w play part hall new_hall workers next) is
      (work_makes s w play part hall new_hall workers next tied there (λ new reached comes. reaches s w play new reached comes) stepped
      (subst (λ (d : DeskMeaning). IsWorkerTurn d hall new_hall (get_or workers w Idle) next stepped) (sym same) turned))

  abbrev MovedSo : Result Bool RunStop → Type 0
  MovedSo result = IfOk result (λ moved. DeskMoves desk (λ s. one_of_worker s w) before moved behind)

  pub worker_moved : (result : Result Bool RunStop) (now : Stepped) → stepped ≡ now → AnswersStep now result → IfOk result (λ moved. DeskMoves desk (λ s. one_of_worker s w) before moved behind)
  worker_moved result Idle is tells = subst MovedSo (sym tells) (λ s play same tied. makes s play same tied Idle is)
  worker_moved result Moves is tells = subst MovedSo (sym tells) (λ s play same tied. makes s play same tied Moves is)
  worker_moved result Fails is tells = subst MovedSo (sym tells) tt

  abbrev FailedSo : Result Bool RunStop → Type 0
  FailedSo result = OnErr result (FailsAt desk before behind)

  pub worker_failed : (result : Result Bool RunStop) (now : Stepped) → stepped ≡ now → AnswersStep now result → OnErr result (FailsAt desk before behind)
  worker_failed result Idle is tells = subst FailedSo (sym tells) tt
  worker_failed result Moves is tells = subst FailedSo (sym tells) tt
  worker_failed result Fails is tells =
      subst FailedSo (sym tells)
      (λ s play same tied.
      let t : WorkMakes s w play part hall new_hall workers next Fails = makes s play same tied Fails is in
      record { cell = t.0; play = play; run = t.1; kept = t.4; none_left = t.5; tied = tied.loop_tied; same = t.2; torn = t.3 })

  abbrev LessSo : Result Bool RunStop → Type 0
  LessSo result = IfOk result (λ moved. LeavesLess moved before behind)

  pub worker_less : (result : Result Bool RunStop) → IsOfDesk desk before → (now : Stepped) → stepped ≡ now → AnswersStep now result → IfOk result (λ moved. LeavesLess moved before behind)
  worker_less result of_desk Idle is tells =
      let t : WorkMakes of_desk.0 w of_desk.2.play part hall new_hall workers next Idle = makes of_desk.0 of_desk.2.play of_desk.1 of_desk.2.tied Idle is in
      subst LessSo (sym tells) (stays_heavy of_desk.0 before behind of_desk.2.play of_desk.2.tied t.1 (length-set workers w next))
  worker_less result of_desk Moves is tells =
      let t : WorkMakes of_desk.0 w of_desk.2.play part hall new_hall workers next Moves = makes of_desk.0 of_desk.2.play of_desk.1 of_desk.2.tied Moves is in
      subst LessSo (sym tells)
      (worker_lessens of_desk.0 w before behind of_desk.2.play t.0 there of_desk.2.tied t.2 (length-set workers w next)
      (reaches of_desk.0 w of_desk.2.play t.0 of_desk.2.tied.reached t.1) t.1)
  worker_less result of_desk Fails is tells = subst LessSo (sym tells) tt

  pub worker_kept : IsOfDesk desk before → MoveKeeps before behind
  worker_kept of_desk = record { room = of_desk.2.room; workers = length-set workers w next; feeds = refl }
