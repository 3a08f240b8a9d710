-- What a submit and a collect are of a machine in memory, whichever play it was tied to.
use Rattle.std.proofs.Common.{◌≡◌, ℕ, ◌<◌, Bool, true, false, Some, List, ◌∷◌, ◌++◌, [], length, slice_get, refl, sym, ap, subst}
use Rattle.streams.specs.declared.outcomes.Settled.{Settled}
use Rattle.host_model.specs.declared.key.Key.{Key}
use Rattle.call_rules.specs.PlainCalls.{PlainAnswer}
use Rattle.call_rules.specs.Handling.{handler_rules}
use Rattle.machine_model.specs.HallState.{key_of, JobOutcome}
use Rattle.machine_model.specs.HallRule.{submit, collect, HallAnswer, outcome, job_of, outcome_of}
use Rattle.machine_model.specs.SeenHall.{SeenGives, SeenCan}
use Rattle.hall_core.specs.Meant.{ServedHall}
use Rattle.cell_loop.specs.Settings.{CellSetting, ServedPlay, HallInCell, PlainWorker}
use Rattle.cell_loop.specs.Moving.{ComesTo, HasNoMove, one_of_conn, one_of_outcome}
use Rattle.cell_loop.specs.Reached.{IsReached, IsReachedFrom}
use Rattle.cell_loop.specs.Replies.{IsReplySome}
use Rattle.cell_loop.specs.declared.loop_part.CellStage.TheVariants.{Whole, Asked}
use Rattle.cell_loop.specs.declared.loop_part.LoopPart.{LoopPart}
use Rattle.cell_loop.specs.LoopTied.{IsLoopTied, HasRoomToClose}
use Rattle.cell_loop.specs.LoopMoves.{GivesOut, TakesOutcome}
use Rattle.conn_refinement.proofs.Tables.{place_of}
use Rattle.cell_core.specs.declared.worker.Holding.{Holding}
use Rattle.cell_core.specs.HallTied.{IsHallTied, AreWorkersTied}
use Rattle.cell_core.specs.Turns.{IsNoOutcome}
use Rattle.cell_core.proofs.HallTying.{still_open}
use Rattle.cell_core.specs.Parts.{Parts}
use Rattle.cell_core.specs.Machines.{ArePlayed, SomeMachine, MachineMoves}
use Rattle.cell_core.specs.MachineSteps.{IsOutcomeStep}
use Rattle.cell_core.proofs.Lessening.{outcome_lessens, stays_heavy}
use Rattle.cell_core.proofs.Submitting.{submit_can, submit_goes}
use Rattle.cell_core.proofs.Outcomes.{stands_asked, collected_from, reply_some, collect_goes, collect_stays}

-- a move of a connection comes from a play that is reached to one that is
abbrev pub ConnReaches : Type 0
ConnReaches = (s : CellSetting) (x : ℕ) (one other : ServedPlay) → IsReached s one → ComesTo (one_of_conn s x) one other → IsReachedFrom s one other

-- so does a collect
abbrev pub OutcomeReaches : Type 0
OutcomeReaches = (s : CellSetting) (one other : ServedPlay) → IsReached s one → ComesTo (one_of_outcome s) one other → IsReachedFrom s one other

-- a machine that is tied to a play whose hall and workers are these
pub played_so : (s : CellSetting) (part : LoopPart) (hall : ServedHall) (workers : List Holding) (next : ServedPlay) (states : ℕ → PlainWorker) (now : HallInCell) → IsLoopTied s part next
    → next.cell.workers ≡ states → next.cell.hall ≡ now → IsHallTied hall now → AreWorkersTied s.desk workers states → IsReached s next
    → ArePlayed s (record { part = part; hall = hall; workers = workers }) next
played_so s part hall workers next states now loop workers_are hall_is hall_tied workers_tied reached =
    record {
      loop_tied = loop;
      hall_tied = subst (IsHallTied hall) (sym hall_is) hall_tied;
      workers_tied = subst (AreWorkersTied s.desk workers) (sym workers_are) workers_tied;
      reached = reached;
    }

-- the hall can take the payload that is handed out
pub hands_to : (m : Parts) (c i : ℕ) (payload : List ℕ) (new_part : LoopPart) → SomeMachine m → slice_get m.part.stages.items c ≡ Some Whole → GivesOut c i payload m.part new_part
    → SeenCan handler_rules m.hall (submit (key_of c i) payload)
hands_to m c i payload new_part now whole handed =
    let s : CellSetting = now.0 in
    let play : ServedPlay = now.1.play in
    let t = handed s play now.1.tied.loop_tied (still_open m.hall play.cell.hall now.1.tied.hall_tied) in
    submit_can s m.hall play c i payload now.1.tied.reached now.1.tied.hall_tied
    (subst (λ n. c < n) (sym now.1.tied.loop_tied.count) (place_of m.part.stages.items c Whole whole)) t.0 t.1

-- a submit is the connection's move
pub submit_moves : (part : LoopPart) (hall : ServedHall) (workers : List Holding) (c i : ℕ) (payload : List ℕ) (new_part : LoopPart) (new_hall : ServedHall) (answer : HallAnswer PlainAnswer)
    → GivesOut c i payload part new_part → SeenGives handler_rules hall (submit (key_of c i) payload) answer new_hall
    → ConnReaches → (max : ℕ)
    → MachineMoves max (λ s. one_of_conn s c) (record { part = part; hall = hall; workers = workers }) true (record { part = new_part; hall = new_hall; workers = workers })
submit_moves part hall workers c i payload new_part new_hall answer handed gives reaches max =
    λ s play longest tied.
    let t = handed s play tied.loop_tied (still_open hall play.cell.hall tied.hall_tied) in
    let next : ServedPlay = t.2.0 in (
      next,
      t.2.1,
      played_so s new_part new_hall workers next play.cell.workers (record play.cell.hall { jobs = play.cell.hall.jobs ++ job_of (key_of c i) payload ∷ [] }) t.2.2.0 t.2.2.1 t.2.2.2
          (submit_goes hall new_hall play.cell.hall (key_of c i) payload answer tied.hall_tied gives) tied.workers_tied (reaches s c play next tied.reached t.2.1).reached,
    )

-- the loop's part can take the outcome that was collected
pub settles_some : (m : Parts) (new_hall : ServedHall) (key : Key) (settled : Settled) → SomeMachine m → SeenGives handler_rules m.hall collect (outcome key settled) new_hall
    → (slice_get m.part.stages.items key.c ≡ Some Asked) × IsReplySome settled
settles_some m new_hall key settled now gives =
    let play : ServedPlay = now.1.play in
    let t : (outs : List JobOutcome) × (play.cell.hall.outcomes ≡ outcome_of key settled ∷ outs) = collected_from m.hall new_hall play.cell.hall key settled now.1.tied.hall_tied gives in (
      stands_asked now.0 m.part play (outcome_of key settled) t.0 now.1.tied.loop_tied now.1.tied.reached t.1,
      reply_some m.hall new_hall play.cell.hall key settled now.1.tied.hall_tied gives,
    )

-- a collect is the move of an outcome
pub collect_moves : (part : LoopPart) (hall : ServedHall) (workers : List Holding) (key : Key) (settled : Settled) (new_part : LoopPart) (new_hall : ServedHall)
    → SeenGives handler_rules hall collect (outcome key settled) new_hall → TakesOutcome key settled part new_part
    → OutcomeReaches → (max : ℕ)
    → MachineMoves max one_of_outcome (record { part = part; hall = hall; workers = workers }) true (record { part = new_part; hall = new_hall; workers = workers })
collect_moves part hall workers key settled new_part new_hall gives taken reaches max =
    λ s play longest tied.
    let first : (outs : List JobOutcome) × (play.cell.hall.outcomes ≡ outcome_of key settled ∷ outs) = collected_from hall new_hall play.cell.hall key settled tied.hall_tied gives in
    let t = taken s play first.0 tied.loop_tied first.1 in
    let next : ServedPlay = t.0 in (
      next,
      t.1,
      played_so s new_part new_hall workers next play.cell.workers (record play.cell.hall { outcomes = first.0 }) t.2.0 t.2.1 t.2.2
          (collect_goes hall new_hall play.cell.hall key settled first.0 tied.hall_tied gives first.1) tied.workers_tied (reaches s play next tied.reached t.1).reached,
    )

-- where there is none, there is no such move
pub collect_rests : (part : LoopPart) (hall : ServedHall) (workers : List Holding) (new_hall : ServedHall) (answer : HallAnswer PlainAnswer)
    → SeenGives handler_rules hall collect answer new_hall → IsNoOutcome answer → (max : ℕ)
    → MachineMoves max one_of_outcome (record { part = part; hall = hall; workers = workers }) false (record { part = part; hall = new_hall; workers = workers })
collect_rests part hall workers new_hall answer gives none max =
    λ s play longest tied.
    let t : HasNoMove (one_of_outcome s) play × IsHallTied new_hall play.cell.hall = collect_stays s hall new_hall play answer tied.hall_tied gives none in
    (t.0, record { loop_tied = tied.loop_tied; hall_tied = t.1; workers_tied = tied.workers_tied; reached = tied.reached })

-- A collect, all at once.
pub outcome_steps : (old new : Parts) (moved : Bool) → OutcomeReaches
    → SomeMachine old → ((max : ℕ) → MachineMoves max one_of_outcome old moved new) → HasRoomToClose new.part → new.workers ≡ old.workers
    → length new.part.feeds.items ≡ length old.part.feeds.items → new.hall.faults ≡ old.hall.faults → IsOutcomeStep old new moved
outcome_steps old new true reaches now moves room workers feeds count =
    let s : CellSetting = now.0 in
    let t = moves s.desk.max_frame s now.1.play refl now.1.tied in
    record {
      moves = moves;
      less = outcome_lessens s old new now.1.play t.0 now.1.tied t.2 (ap length workers) (reaches s now.1.play t.0 now.1.tied.reached t.1) t.1;
      kept = record { room = room; workers = ap length workers; feeds = feeds };
      count = count;
    }
outcome_steps old new false reaches now moves room workers feeds count =
    let s : CellSetting = now.0 in
    let t = moves s.desk.max_frame s now.1.play refl now.1.tied in
    record {
      moves = moves;
      less = stays_heavy s old new now.1.play now.1.tied t.1 (ap length workers);
      kept = record { room = room; workers = ap length workers; feeds = feeds };
      count = count;
    }
