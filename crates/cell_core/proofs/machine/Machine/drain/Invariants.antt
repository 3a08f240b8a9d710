use Rattle.std.proofs.Common.{length}
use Rattle.cell_loop.specs.Moving.{all_passes}
use Rattle.cell_core.specs.Parts.{parts_of}
use Rattle.cell_core.specs.Machines.{HasCrew}
use Rattle.cell_core.specs.Work.{steps_left}
use Rattle.cell_core.proofs.Rounds.{LoopIsRunning}
use Rattle.cell_core.proofs.machine.Machine.drain.Given as goal

-- the passes that are left come to what all of them come to
abbrev pub invariant-passes : goal.invariant-passes
invariant-passes g l = LoopIsRunning (HasCrew (g.D.Desk.meaning l.desk) (length l.fn.self.workers.items)) all_passes all_passes (parts_of l.fn.self) (parts_of l.self)

abbrev pub decreases-passes : goal.decreases-passes
decreases-passes g l = steps_left l.self.part l.self.hall l.self.workers.items
