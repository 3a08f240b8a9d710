use Rattle.std.proofs.Common.{◌<◌, ℕ, List, length, get_or, length-set, refl, sym, ap, ◌∙◌, subst}
use Rattle.std.specs.Prelude.{IfOk, OnErr}
use Rattle.call_rules.specs.Desks.{DeskMeaning}
use Rattle.hall_core.specs.Meant.{ServedHall}
use Rattle.cell_core.specs.declared.turn.Stepped.{Stepped}
use Rattle.cell_core.specs.declared.worker.Holding.{Holding}
use Rattle.cell_core.specs.declared.worker.Holding.TheVariants.{Idle}
use Rattle.cell_core.specs.Parts.{Parts, parts_of}
use Rattle.cell_loop.specs.Moving.{one_of_worker}
use Rattle.cell_core.specs.Machines.{DeskMoves, FailsAt, LeavesLess, MoveKeeps}
use Rattle.cell_core.specs.TurnMoves.{MayTurn}
use Rattle.cell_core.specs.Turns.{IsWorkerTurn, stepped_by}
use Rattle.cell_core.proofs.Machining.{machine_may, put_back_so, worker_moved, worker_failed, worker_less, worker_kept, only_faults}
use Rattle.cell_core.proofs.FaultCount.{CountGoes, count_goes, never_falls, count_stays}
use Rattle.cell_core.proofs.machine.Machine.worker_move.Goals as goal

pub turn-worker-requires-after_bounds : goal.turn-worker-requires-after_bounds
turn-worker-requires-after_bounds g c κs within =
    subst (MayTurn (g.D.Desk.meaning c.args.desk.now) c.args.self.now.hall) (sym c.take_out-worker.ensures.taken)
    (machine_may (g.D.Desk.meaning c.args.desk.now) (parts_of c.args.self.now) c.args.w c.requires.desk)

pub put_back-requires : goal.put_back-requires
put_back-requires g c =
    record { there = subst (λ (n : ℕ). c.args.w < n) (sym (ap length c.take_out-worker.ensures.left ∙ length-set c.args.self.now.workers.items c.args.w Idle)) c.requires.there }

pub returns-clause-moved : goal.returns-clause-moved
returns-clause-moved g c =
    let desk : DeskMeaning = g.D.Desk.meaning c.args.desk.now in
    let old : Parts = parts_of c.args.self.now in
    let turned : IsWorkerTurn desk old.hall c.turn-worker.new.hall (get_or old.workers c.args.w Idle) c.turn-worker.result.worker c.turn-worker.result.stepped =
    subst (λ (x : Holding). IsWorkerTurn desk old.hall c.turn-worker.new.hall x c.turn-worker.result.worker c.turn-worker.result.stepped) c.take_out-worker.ensures.taken c.turn-worker.ensures in
    subst (λ (ws : List Holding). IfOk c.moved.result (λ moved. DeskMoves desk (λ s. one_of_worker s c.args.w) old moved (record { part = old.part; hall = c.turn-worker.new.hall; workers = ws })))
    (sym (put_back_so old.workers c.take_out-worker.new.workers.items c.put_back.new.workers.items c.args.w c.turn-worker.result.worker c.take_out-worker.ensures.left c.put_back.ensures))
    (worker_moved desk c.args.w old.part old.hall c.turn-worker.new.hall old.workers c.turn-worker.result.worker c.turn-worker.result.stepped c.requires.there turned
    (λ s v one other reached comes. c.moves_are_reached.ensures.worker s v one other reached comes) c.moved.result c.turn-worker.result.stepped refl c.moved.ensures)

pub returns-clause-failed : goal.returns-clause-failed
returns-clause-failed g c =
    let desk : DeskMeaning = g.D.Desk.meaning c.args.desk.now in
    let old : Parts = parts_of c.args.self.now in
    let turned : IsWorkerTurn desk old.hall c.turn-worker.new.hall (get_or old.workers c.args.w Idle) c.turn-worker.result.worker c.turn-worker.result.stepped =
    subst (λ (x : Holding). IsWorkerTurn desk old.hall c.turn-worker.new.hall x c.turn-worker.result.worker c.turn-worker.result.stepped) c.take_out-worker.ensures.taken c.turn-worker.ensures in
    subst (λ (ws : List Holding). OnErr c.moved.result (FailsAt desk old (record { part = old.part; hall = c.turn-worker.new.hall; workers = ws })))
    (sym (put_back_so old.workers c.take_out-worker.new.workers.items c.put_back.new.workers.items c.args.w c.turn-worker.result.worker c.take_out-worker.ensures.left c.put_back.ensures))
    (worker_failed desk c.args.w old.part old.hall c.turn-worker.new.hall old.workers c.turn-worker.result.worker c.turn-worker.result.stepped c.requires.there turned
    (λ s v one other reached comes. c.moves_are_reached.ensures.worker s v one other reached comes) c.moved.result c.turn-worker.result.stepped refl c.moved.ensures)

pub returns-clause-only : goal.returns-clause-only
returns-clause-only g c = only_faults c.turn-worker.result.stepped c.moved.result c.moved.ensures

pub returns-clause-less : goal.returns-clause-less
returns-clause-less g c =
    let desk : DeskMeaning = g.D.Desk.meaning c.args.desk.now in
    let old : Parts = parts_of c.args.self.now in
    let turned : IsWorkerTurn desk old.hall c.turn-worker.new.hall (get_or old.workers c.args.w Idle) c.turn-worker.result.worker c.turn-worker.result.stepped =
    subst (λ (x : Holding). IsWorkerTurn desk old.hall c.turn-worker.new.hall x c.turn-worker.result.worker c.turn-worker.result.stepped) c.take_out-worker.ensures.taken c.turn-worker.ensures in
    subst (λ (ws : List Holding). IfOk c.moved.result (λ moved. LeavesLess moved old (record { part = old.part; hall = c.turn-worker.new.hall; workers = ws })))
    (sym (put_back_so old.workers c.take_out-worker.new.workers.items c.put_back.new.workers.items c.args.w c.turn-worker.result.worker c.take_out-worker.ensures.left c.put_back.ensures))
    (worker_less desk c.args.w old.part old.hall c.turn-worker.new.hall old.workers c.turn-worker.result.worker c.turn-worker.result.stepped c.requires.there turned
    (λ s v one other reached comes. c.moves_are_reached.ensures.worker s v one other reached comes) c.moved.result c.requires.desk c.turn-worker.result.stepped refl c.moved.ensures)

pub returns-clause-kept : goal.returns-clause-kept
returns-clause-kept g c =
    let desk : DeskMeaning = g.D.Desk.meaning c.args.desk.now in
    let old : Parts = parts_of c.args.self.now in
    let turned : IsWorkerTurn desk old.hall c.turn-worker.new.hall (get_or old.workers c.args.w Idle) c.turn-worker.result.worker c.turn-worker.result.stepped =
    subst (λ (x : Holding). IsWorkerTurn desk old.hall c.turn-worker.new.hall x c.turn-worker.result.worker c.turn-worker.result.stepped) c.take_out-worker.ensures.taken c.turn-worker.ensures in
    subst (λ (ws : List Holding). MoveKeeps old (record { part = old.part; hall = c.turn-worker.new.hall; workers = ws }))
    (sym (put_back_so old.workers c.take_out-worker.new.workers.items c.put_back.new.workers.items c.args.w c.turn-worker.result.worker c.take_out-worker.ensures.left c.put_back.ensures))
    (worker_kept desk c.args.w old.part old.hall c.turn-worker.new.hall old.workers c.turn-worker.result.worker c.turn-worker.result.stepped c.requires.there turned
    (λ s v one other reached comes. c.moves_are_reached.ensures.worker s v one other reached comes) c.requires.desk)

pub returns-clause-count : goal.returns-clause-count
returns-clause-count g c =
    let old : ServedHall = c.args.self.now.hall in
    let new : ServedHall = c.turn-worker.new.hall in
    count_stays c.turn-worker.result.stepped c.moved.result old.faults new.faults c.moved.ensures
    (subst (λ (stepped : Stepped). CountGoes stepped old.faults new.faults) (sym c.turn-worker.ensures.tells)
    (count_goes old new c.turn-worker.ensures.op c.turn-worker.ensures.answer c.turn-worker.ensures.gives))

pub returns-clause-later : goal.returns-clause-later
returns-clause-later g c =
    let old : ServedHall = c.args.self.now.hall in
    let new : ServedHall = c.turn-worker.new.hall in
    never_falls (stepped_by c.turn-worker.ensures.op c.turn-worker.ensures.answer) old.faults new.faults
    (count_goes old new c.turn-worker.ensures.op c.turn-worker.ensures.answer c.turn-worker.ensures.gives)
