use Rattle.std.proofs.Common.{◌∙◌, ◌||◌, Bool, ap, length, refl}
use Rattle.cell_core.specs.declared.stop.RunStop.{RunStop}
use Rattle.cell_core.specs.declared.stop.RunStop.TheVariants.{NoMemory}
use Rattle.cell_loop.specs.Moving.{first_of_conns, first_of_workers}
use Rattle.cell_loop.specs.LoopMoves.{HasLongest}
use Rattle.cell_core.specs.Parts.{parts_of}
use Rattle.cell_core.specs.Machines.{HasDesk, HasCrew, StopsMachine}
use Rattle.cell_core.proofs.Rounds.{narrowed_early, narrowed_stop, narrowed_done, early_stops}
use Rattle.cell_core.proofs.PassRounds.{machine_of, desk_some, done_on, done_stops, longest_of, pass_done, on_same}
use Rattle.cell_core.proofs.machine.Machine.pass.Goals as goal

pub all_read-requires-clause-under_way : goal.all_read-requires-clause-under_way
all_read-requires-clause-under_way g c κs within = machine_of (g.D.Desk.meaning c.args.desk.now) c.args.max_frame (parts_of c.args.self.now) c.requires.longest c.requires.under_way

pub returns-in_err-read-clause-err : goal.returns-in_err-read-clause-err
returns-in_err-read-clause-err g c =
    on_same c.from_residual.result
    (λ (stop : RunStop). StopsMachine (HasCrew (g.D.Desk.meaning c.args.desk.now) (length c.args.self.now.workers.items)) (parts_of c.args.self.now) (parts_of c.all_read.new.self) stop)
    NoMemory c.from_residual.ensures.1
    (early_stops (HasCrew (g.D.Desk.meaning c.args.desk.now) (length c.args.self.now.workers.items)) (parts_of c.args.self.now) (parts_of c.all_read.new.self) NoMemory refl
    (narrowed_early (HasLongest c.args.max_frame) (HasCrew (g.D.Desk.meaning c.args.desk.now) (length c.args.self.now.workers.items))
    (λ s v. longest_of (g.D.Desk.meaning c.args.desk.now) c.args.max_frame c.requires.longest s v.0) (parts_of c.args.self.now) (parts_of c.all_read.new.self) c.in_err-read.ensures.err))

pub all_work-requires-clause-under_way : goal.all_work-requires-clause-under_way
all_work-requires-clause-under_way g c κs within =
    done_on (HasLongest c.args.max_frame) (g.D.Desk.meaning c.args.desk.now) (λ s. first_of_conns s (length c.args.self.now.part.stages.items)) (parts_of c.args.self.now) (parts_of c.all_read.new.self)
    c.in_ok-read.read (λ s d. longest_of (g.D.Desk.meaning c.args.desk.now) c.args.max_frame c.requires.longest s d) c.in_ok-read.ensures.done c.requires.under_way

pub returns-in_err-worked-clause-err : goal.returns-in_err-worked-clause-err
returns-in_err-worked-clause-err g c =
    on_same c.from_residual-in_err-worked.result
    (λ (stop : RunStop). StopsMachine (HasCrew (g.D.Desk.meaning c.args.desk.now) (length c.args.self.now.workers.items)) (parts_of c.args.self.now) (parts_of c.all_work.new.self) stop)
    c.in_err-worked.field-0.0 c.from_residual-in_err-worked.ensures.1
    (done_stops (HasCrew (g.D.Desk.meaning c.args.desk.now) (length c.args.self.now.workers.items)) (λ s. first_of_conns s (length c.args.self.now.part.stages.items)) (parts_of c.args.self.now)
    (parts_of c.all_read.new.self) (parts_of c.all_work.new.self) c.in_ok-read.read c.in_err-worked.field-0.0
    (narrowed_done (HasLongest c.args.max_frame) (HasCrew (g.D.Desk.meaning c.args.desk.now) (length c.args.self.now.workers.items))
    (λ s v. longest_of (g.D.Desk.meaning c.args.desk.now) c.args.max_frame c.requires.longest s v.0) (λ s. first_of_conns s (length c.args.self.now.part.stages.items)) (parts_of c.args.self.now)
    (parts_of c.all_read.new.self) c.in_ok-read.read c.in_ok-read.ensures.done)
    (narrowed_stop (HasDesk (g.D.Desk.meaning c.args.desk.now)) (HasCrew (g.D.Desk.meaning c.args.desk.now) (length c.args.self.now.workers.items)) (λ s v. v.0)
    (parts_of c.all_read.new.self) (parts_of c.all_work.new.self) c.in_err-worked.field-0.0 c.in_err-worked.ensures.err))

pub collect_all-collected-requires-clause-under_way : goal.collect_all-collected-requires-clause-under_way
collect_all-collected-requires-clause-under_way g c κs within =
    desk_some (g.D.Desk.meaning c.args.desk.now) (parts_of c.all_work.new.self)
    (done_on (HasDesk (g.D.Desk.meaning c.args.desk.now)) (g.D.Desk.meaning c.args.desk.now) (λ s. first_of_workers s (length c.all_read.new.self.workers.items)) (parts_of c.all_read.new.self)
    (parts_of c.all_work.new.self) c.in_ok-worked.worked (λ s d. d) c.in_ok-worked.ensures.done
    (done_on (HasLongest c.args.max_frame) (g.D.Desk.meaning c.args.desk.now) (λ s. first_of_conns s (length c.args.self.now.part.stages.items)) (parts_of c.args.self.now) (parts_of c.all_read.new.self)
    c.in_ok-read.read (λ s d. longest_of (g.D.Desk.meaning c.args.desk.now) c.args.max_frame c.requires.longest s d) c.in_ok-read.ensures.done c.requires.under_way))

pub returns-clause-done : goal.returns-clause-done
returns-clause-done g c =
    pass_done (g.D.Desk.meaning c.args.desk.now) c.args.max_frame (parts_of c.args.self.now) (parts_of c.all_read.new.self) (parts_of c.all_work.new.self) (parts_of c.collect_all-collected.new.self)
    c.in_ok-read.read c.in_ok-worked.worked c.collect_all-collected.result c.requires.longest c.in_ok-read.ensures.done c.in_ok-worked.ensures.done c.collect_all-collected.ensures.done c.either-2.result
    (c.either-2.ensures ∙ ap (λ (b : Bool). b || c.collect_all-collected.result) c.either.ensures)
