use Rattle.cell_loop.specs.Moving.{all_of_conn}
use Rattle.cell_core.specs.Parts.{parts_of}
use Rattle.cell_loop.specs.LoopMoves.{HasLongest}
use Rattle.cell_core.specs.Work.{steps_left}
use Rattle.cell_core.proofs.Rounds.{IsGoing}
use Rattle.cell_core.proofs.machine.Machine.read_through.Given as goal

-- what the connection has left to do comes to what all of it comes to
abbrev pub invariant-reads : goal.invariant-reads
invariant-reads g l = IsGoing (HasLongest l.max_frame) (λ s. all_of_conn s l.c) (λ s. all_of_conn s l.c) (parts_of l.fn.self) l.moved (parts_of l.self)

abbrev pub decreases-reads : goal.decreases-reads
decreases-reads g l = steps_left l.self.part l.self.hall l.self.workers.items
