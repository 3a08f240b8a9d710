-- A worker's step in a machine: loop and other workers are as they were, and the worker holds what the step has left it.
use Rattle.std.proofs.Common.{◌≡◌, ℕ, zero, suc, ◌<◌, ◌≤◌, ◌⊎◌, Option, List, [], ◌∷◌, ◌++◌, length, set, get_or, refl, sym, ap, ◌∙◌, subst, inl, inr}
use Rattle.std.specs.List.{AllByRecursion}
use Rattle.std.proofs.lemmas.Bool.{cases_eq}
use Rattle.std.proofs.lemmas.List.{get_or-set_same, get_or-set_other}
use Rattle.call_rules.specs.Desks.{DeskMeaning, longest_payload}
use Rattle.call_rules.specs.Handling.{handler_rules}
use Rattle.machine_model.specs.AtFronts.{KeepsWithin}
use Rattle.machine_model.specs.Bounds.{NoneIsLeftBehind}
use Rattle.machine_model.specs.Loop.{Loop}
use Rattle.machine_model.specs.Worker.{WorkerAsks}
use Rattle.machine_model.specs.Machine.{applies, with_worker, EventsLead}
use Rattle.machine_model.proofs.Lists.{put_same, put_other}
use Rattle.machine_model.proofs.Merging.{runs-append}
use Rattle.script_model.specs.ScriptLines.{PlanRule}
use Rattle.script_model.specs.Playing.{InputFinish}
use Rattle.hall_core.specs.Meant.{ServedHall}
use Rattle.cell_loop.specs.declared.loop_part.CellStage.TheVariants.{Lean}
use Rattle.cell_loop.specs.declared.loop_part.LoopPart.{LoopPart}
use Rattle.cell_core.specs.declared.worker.Holding.{Holding}
use Rattle.cell_core.specs.declared.worker.Holding.TheVariants.{Idle}
use Rattle.cell_core.specs.declared.turn.Stepped.{Stepped}
use Rattle.cell_core.specs.declared.turn.Stepped.TheVariants.{Idle, Moves, Fails}
use Rattle.cell_loop.specs.Settings.{CellSetting, ServedCell, ServedPlay, PlainWorker, desk_of_setting}
use Rattle.cell_loop.specs.Moving.{ComesTo, HasNoMove, GoesTo, one_of_worker}
use Rattle.cell_loop.specs.LoopTied.{CellStageTells, IsLoopTied}
use Rattle.cell_core.specs.HallTied.{plain_worker, worker_in, KnowsItsCall, AreWorkersTied}
use Rattle.cell_loop.specs.Reached.{IsRunTo, IsReached, IsReachedFrom}
use Rattle.cell_core.specs.Played.{IsPlayed, IsUnderWay}
use Rattle.cell_core.specs.TurnMoves.{IsHallTorn, TurnMakes, MayTurn}
use Rattle.cell_core.specs.Turns.{IsWorkerTurn}
use Rattle.cell_core.proofs.Turning.{turn_makes}

-- where loop and rest of a play are as they were, the loop's part stays tied
pub loop_same : (s : CellSetting) (part : LoopPart) (old new : ServedPlay) → IsLoopTied s part old → new.cell.loop ≡ old.cell.loop → new.unread ≡ old.unread → new.finish ≡ old.finish
    → new.rules ≡ old.rules → new.admitted ≡ old.admitted → IsLoopTied s part new
loop_same s part old new tied loop unread finish rules admitted =
    record {
      budget = tied.budget;
      tape = ap (λ (l : Loop). l.tape) loop ∙ tied.tape;
      count = ap (λ (l : Loop). l.count) loop ∙ tied.count;
      stages = λ c below.
          subst (λ (p : Loop × (ℕ → Option ℕ)). CellStageTells s.desk.max_frame part.table c (p.0.conns c) (p.1 c) (get_or part.stages.items c Lean)) (λ i. (sym loop i, sym admitted i)) (tied.stages c below);
      unopened = λ c beyond. ((tied.unopened c beyond).0, ap (λ (f : ℕ → Option ℕ). f c) admitted ∙ (tied.unopened c beyond).1);
      unread = λ c. ap (λ (f : ℕ → List (List ℕ)). f c) unread ∙ tied.unread c;
      finish = λ c. ap (λ (f : ℕ → Option InputFinish). f c) finish ∙ tied.finish c;
      rules = λ c. ap (λ (f : ℕ → List PlanRule). f c) rules ∙ tied.rules c;
      pieces = tied.pieces;
      writes = tied.writes;
      fed = tied.fed;
    }

-- each worker knows its call, also where one is another
known_set : (desk : DeskMeaning) (workers : List Holding) (w : ℕ) (next : Holding) → AllByRecursion (KnowsItsCall desk) workers → KnowsItsCall desk next
    → AllByRecursion (KnowsItsCall desk) (set workers w next)
known_set desk [] w next all one = tt
known_set desk (worker ∷ workers) zero next all one = (one, all.1)
known_set desk (worker ∷ workers) (suc w) next all one = (all.0, known_set desk workers w next all.1 one)

known_at : (desk : DeskMeaning) (workers : List Holding) (w : ℕ) → AllByRecursion (KnowsItsCall desk) workers → KnowsItsCall desk (get_or workers w Idle)
known_at desk [] w all = tt
known_at desk (worker ∷ workers) zero all = all.0
known_at desk (worker ∷ workers) (suc w) all = known_at desk workers w all.1

-- workers stay tied where one is another on both sides
pub tied_set : (desk : DeskMeaning) (workers : List Holding) (states : ℕ → PlainWorker) (w : ℕ) (next : Holding) → w < length workers → AreWorkersTied desk workers states → KnowsItsCall desk next
    → AreWorkersTied desk (set workers w next) (with_worker states w (plain_worker next))
tied_set desk workers states w next there tied known =
    record { each = λ x. go x (cases_eq x w); known = known_set desk workers w next tied.known known }
  where
    go : (x : ℕ) → (x ≡ w) ⊎ (x ≡ w → ⊥) → with_worker states w (plain_worker next) x ≡ worker_in (set workers w next) x
    go x (inl e) =
        ap (λ y. with_worker states w (plain_worker next) y) e ∙ put_same states w (plain_worker next)
        ∙ sym (ap (λ y. plain_worker (get_or (set workers w next) y Idle)) e ∙ ap plain_worker (get_or-set_same workers w next Idle there))
    go x (inr n) = put_other states w (plain_worker next) x n ∙ tied.each x ∙ sym (ap plain_worker (get_or-set_other workers w x next Idle n))

-- workers stay tied where one that stands for the same is put back
tied_still : (desk : DeskMeaning) (workers : List Holding) (states : ℕ → PlainWorker) (w : ℕ) (next : Holding) → w < length workers → AreWorkersTied desk workers states → KnowsItsCall desk next
    → states w ≡ plain_worker next → AreWorkersTied desk (set workers w next) states
tied_still desk workers states w next there tied known same =
    record { each = λ x. go x (cases_eq x w); known = known_set desk workers w next tied.known known }
  where
    go : (x : ℕ) → (x ≡ w) ⊎ (x ≡ w → ⊥) → states x ≡ worker_in (set workers w next) x
    go x (inl e) =
        ap states e ∙ same ∙ sym (ap (λ y. plain_worker (get_or (set workers w next) y Idle)) e ∙ ap plain_worker (get_or-set_same workers w next Idle there))
    go x (inr n) = tied.each x ∙ sym (ap plain_worker (get_or-set_other workers w x next Idle n))

-- a worker of a machine may make a step
pub worker_may : (s : CellSetting) (part : LoopPart) (hall : ServedHall) (workers : List Holding) (w : ℕ) (desk : DeskMeaning) → s.desk ≡ desk → IsUnderWay s part hall workers
    → MayTurn desk hall (get_or workers w Idle)
worker_may s part hall workers w desk same now =
    record {
      setting = s;
      play = now.play;
      w = w;
      desk_is = same;
      slots = subst (λ (d : DeskMeaning). d.slots ≡ length s.opening) same now.slots;
      max = subst (λ (d : DeskMeaning). d.max_frame ≤ longest_payload) same now.max;
      reached = now.tied.reached;
      hall_tied = now.tied.hall_tied;
      holds = now.tied.workers_tied.each w;
      known = subst (λ (d : DeskMeaning). KnowsItsCall d (get_or workers w Idle)) same (known_at s.desk workers w now.tied.workers_tied.known);
    }

-- what a worker's step makes of a machine
abbrev pub WorkMakes : CellSetting → ℕ → ServedPlay → LoopPart → ServedHall → ServedHall → List Holding → Holding → Stepped → Type 0
WorkMakes s w play part old new workers next Idle = HasNoMove (one_of_worker s w) play × IsPlayed s part new (set workers w next) play
WorkMakes s w play part old new workers next Moves = GoesTo (one_of_worker s w) (IsPlayed s part new (set workers w next)) play
WorkMakes s w play part old new workers next Fails =
    (cell : ServedCell) × IsRunTo s cell × (cell.loop ≡ play.cell.loop) × IsHallTorn old new cell.hall × KeepsWithin s.desk.max_frame s.budget cell.loop × NoneIsLeftBehind cell.loop

module _ (s : CellSetting) (w : ℕ) (play : ServedPlay) (part : LoopPart) (old new : ServedHall) (workers : List Holding) (next : Holding) (tied : IsPlayed s part old workers play)
    (there : w < length workers) where
  makes_so : ((now : ServedPlay) → IsReached s play → ComesTo (one_of_worker s w) play now → IsReachedFrom s play now) → (stepped : Stepped) → TurnMakes s w play old new next stepped → WorkMakes s w play part old new workers next stepped
  makes_so reaches Idle t = (
    t.0,
    record {
      loop_tied = tied.loop_tied;
      hall_tied = t.1;
      workers_tied = tied_still s.desk workers play.cell.workers w next there tied.workers_tied t.3 t.2;
      reached = tied.reached;
    },
  )
  makes_so reaches Moves t =
      let now : ServedPlay = t.0 in (
        now,
        t.1,
        record {
          loop_tied = loop_same s part play now tied.loop_tied (ap (λ (c : ServedCell). c.loop) t.2.2) t.2.3 t.2.4 t.2.5 t.2.6;
          hall_tied = t.2.0;
          workers_tied = subst (AreWorkersTied s.desk (set workers w next)) (sym (ap (λ (c : ServedCell). c.workers) t.2.2))
              (tied_set s.desk workers play.cell.workers w next there tied.workers_tied t.2.1);
          reached = (reaches now tied.reached t.1).reached;
        },
      )
  makes_so reaches Fails t =
      let run : IsRunTo s play.cell = tied.reached.run in
      let step : EventsLead (desk_of_setting s) handler_rules play.cell (applies w ∷ []) t.0 = (t.0, t.1, refl) in (
        t.0,
        record {
          first = run.first;
          events = run.events ++ applies w ∷ [];
          is_first = run.is_first;
          lead = runs-append (desk_of_setting s) handler_rules run.first play.cell t.0 run.events (applies w ∷ []) run.lead step;
        },
        t.2,
        t.3,
        subst (KeepsWithin s.desk.max_frame s.budget) (sym t.2) tied.reached.kept,
        subst NoneIsLeftBehind (sym t.2) tied.reached.none_left,
      )

  -- the step of a worker is one of the machine
  pub work_makes : ((now : ServedPlay) → IsReached s play → ComesTo (one_of_worker s w) play now → IsReachedFrom s play now) → (stepped : Stepped)
      → IsWorkerTurn s.desk old new (get_or workers w Idle) next stepped → WorkMakes s w play part old new workers next stepped
  work_makes reaches stepped turn =
      makes_so reaches stepped
      (subst (TurnMakes s w play old new next) (sym turn.tells)
      (turn_makes s w play old new next tied.hall_tied turn.op turn.answer turn.in_turn turn.gives
      (subst (λ (x : PlainWorker). WorkerAsks (desk_of_setting s) x turn.op turn.answer (plain_worker next)) (sym (tied.workers_tied.each w)) turn.asks) turn.known))
