use Rattle.std.proofs.Common.{◌-◌, length}
use Rattle.script_model.specs.ScriptLines.{count_up}
use Rattle.cell_loop.specs.Moving.{all_of_workers, first_of_workers}
use Rattle.cell_core.specs.Parts.{parts_of}
use Rattle.cell_core.specs.Machines.{HasDesk}
use Rattle.cell_core.proofs.Rounds.{IsGoing}
use Rattle.cell_core.proofs.machine.Machine.all_work.Given as goal

-- what the workers from number w on come to, all of them come to
abbrev pub invariant-workers : goal.invariant-workers
invariant-workers g l =
    IsGoing (HasDesk (g.D.Desk.meaning l.desk)) (λ s. first_of_workers s (length l.fn.self.workers.items)) (λ s. all_of_workers s (count_up l.w (length l.fn.self.workers.items - l.w)))
    (parts_of l.fn.self) l.moved (parts_of l.self)
