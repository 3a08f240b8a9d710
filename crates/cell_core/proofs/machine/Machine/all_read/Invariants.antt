use Rattle.std.proofs.Common.{◌-◌, length}
use Rattle.script_model.specs.ScriptLines.{count_up}
use Rattle.cell_loop.specs.Moving.{all_of_conns, first_of_conns}
use Rattle.cell_core.specs.Parts.{parts_of}
use Rattle.cell_loop.specs.LoopMoves.{HasLongest}
use Rattle.cell_core.proofs.Rounds.{IsGoing}
use Rattle.cell_core.proofs.machine.Machine.all_read.Given as goal

-- what the connections from number c on come to, all of them come to
abbrev pub invariant-conns : goal.invariant-conns
invariant-conns g l =
    IsGoing (HasLongest l.max_frame) (λ s. first_of_conns s (length l.fn.self.part.stages.items)) (λ s. all_of_conns s (count_up l.c (length l.fn.self.part.stages.items - l.c)))
    (parts_of l.fn.self) l.moved (parts_of l.self)

abbrev pub decreases-conns : goal.decreases-conns
decreases-conns g l = l.count - l.c
