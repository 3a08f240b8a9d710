use Rattle.cell_loop.specs.Moving.{all_of_outcomes}
use Rattle.cell_core.specs.Parts.{parts_of}
use Rattle.cell_loop.specs.LoopMoves.{AnySetting}
use Rattle.cell_core.specs.Work.{steps_left}
use Rattle.cell_core.proofs.Rounds.{IsGoing}
use Rattle.cell_core.proofs.machine.Machine.collect_all.Given as goal

-- what is left to collect comes to what all of it comes to
abbrev pub invariant-outcomes : goal.invariant-outcomes
invariant-outcomes g l = IsGoing AnySetting all_of_outcomes all_of_outcomes (parts_of l.fn.self) l.moved (parts_of l.self)

abbrev pub decreases-outcomes : goal.decreases-outcomes
decreases-outcomes g l = steps_left l.self.part l.self.hall l.self.workers.items
