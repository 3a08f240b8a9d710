use Rattle.std.proofs.Common.{◌≡◌, true, refl, sym, subst, inr}
use Rattle.streams.specs.declared.outcomes.Settled.TheVariants.{NoMemory}
use Rattle.call_rules.specs.Desks.{DeskMeaning}
use Rattle.call_rules.specs.Handling.{handler_rules}
use Rattle.machine_model.specs.HallState.{Job, has_key}
use Rattle.machine_model.specs.HallRule.{put, done}
use Rattle.machine_model.specs.SeenHall.{SeenGives}
use Rattle.cell_core.specs.declared.worker.Holding.{Holding}
use Rattle.cell_core.specs.declared.worker.Holding.TheVariants.{Answered, Unanswered}
use Rattle.cell_core.specs.TurnMoves.{MayTurn}
use Rattle.cell_core.specs.Turns.{IsWorkerTurn}
use Rattle.cell_core.proofs.Asking.{put_turns, told_call}
use Rattle.cell_core.proofs.Permitting.{put_can, held_short}
use Rattle.cell_core.proofs.turn.turn.Goals as goal

pub settled_with-settled-requires-clause-short : goal.settled_with-settled-requires-clause-short
settled_with-settled-requires-clause-short g c =
    held_short (g.D.Desk.meaning c.args.desk.now) (g.met.D.Desk.holds c.args.desk.now) c.args.hall.now (Answered c.in-Answered.job c.in-Answered.given)
    (subst (MayTurn (g.D.Desk.meaning c.args.desk.now) c.args.hall.now) c.in-Answered.is c.requires) c.in-Answered.job.key refl

pub settled_with-settled-requires-clause-called : goal.settled_with-settled-requires-clause-called
settled_with-settled-requires-clause-called g c =
    let may : MayTurn (g.D.Desk.meaning c.args.desk.now) c.args.hall.now (Answered c.in-Answered.job c.in-Answered.given) =
    subst (MayTurn (g.D.Desk.meaning c.args.desk.now) c.args.hall.now) c.in-Answered.is c.requires in
    told_call c.in-Answered.given.silent ((g.D.Desk.meaning c.args.desk.now).decide c.in-Answered.job.payload) may.known

pub put-requires-after_bounds : goal.put-requires-after_bounds
put-requires-after_bounds g c κs within =
    subst (λ (job : Job). has_key job.key c.args.hall.now.taken ≡ true) (sym c.job.view_is)
    (put_can (g.D.Desk.meaning c.args.desk.now) (g.met.D.Desk.holds c.args.desk.now) c.args.hall.now (Answered c.in-Answered.job c.in-Answered.given)
    (subst (MayTurn (g.D.Desk.meaning c.args.desk.now) c.args.hall.now) c.in-Answered.is c.requires) c.in-Answered.job.key refl)

pub put-requires-in-Unanswered-after_bounds : goal.put-requires-in-Unanswered-after_bounds
put-requires-in-Unanswered-after_bounds g c κs within =
    subst (λ (job : Job). has_key job.key c.args.hall.now.taken ≡ true) (sym c.job-in-Unanswered.view_is)
    (put_can (g.D.Desk.meaning c.args.desk.now) (g.met.D.Desk.holds c.args.desk.now) c.args.hall.now (Unanswered c.in-Unanswered.job)
    (subst (MayTurn (g.D.Desk.meaning c.args.desk.now) c.args.hall.now) c.in-Unanswered.is c.requires) c.in-Unanswered.job.key refl)

pub returns-in-Answered : goal.returns-in-Answered
returns-in-Answered g c =
    let desk : DeskMeaning = g.D.Desk.meaning c.args.desk.now in
    subst (λ (x : Holding). IsWorkerTurn desk c.args.hall.now c.put.new.hall x c.put.result.worker c.put.result.stepped) (sym c.in-Answered.is)
    (put_turns desk (g.met.D.Desk.holds c.args.desk.now) c.args.hall.now c.put.new.hall (Answered c.in-Answered.job c.in-Answered.given) c.put.result.worker c.put.result.stepped
    c.in-Answered.job.key c.settled_with-settled.result (subst (MayTurn desk c.args.hall.now) c.in-Answered.is c.requires) c.settled_with-settled.ensures
    (subst (λ (job : Job). SeenGives handler_rules c.args.hall.now (put job.key c.settled_with-settled.result) done c.put.new.hall) c.job.view_is c.put.ensures.gives) c.put.ensures.worker
    c.put.ensures.stepped)

pub returns-in-Unanswered : goal.returns-in-Unanswered
returns-in-Unanswered g c =
    let desk : DeskMeaning = g.D.Desk.meaning c.args.desk.now in
    subst (λ (x : Holding). IsWorkerTurn desk c.args.hall.now c.put-in-Unanswered.new.hall x c.put-in-Unanswered.result.worker c.put-in-Unanswered.result.stepped) (sym c.in-Unanswered.is)
    (put_turns desk (g.met.D.Desk.holds c.args.desk.now) c.args.hall.now c.put-in-Unanswered.new.hall (Unanswered c.in-Unanswered.job) c.put-in-Unanswered.result.worker
    c.put-in-Unanswered.result.stepped c.in-Unanswered.job.key NoMemory (subst (MayTurn desk c.args.hall.now) c.in-Unanswered.is c.requires) (refl, inr refl)
    (subst (λ (job : Job). SeenGives handler_rules c.args.hall.now (put job.key NoMemory) done c.put-in-Unanswered.new.hall) c.job-in-Unanswered.view_is c.put-in-Unanswered.ensures.gives)
    c.put-in-Unanswered.ensures.worker c.put-in-Unanswered.ensures.stepped)
