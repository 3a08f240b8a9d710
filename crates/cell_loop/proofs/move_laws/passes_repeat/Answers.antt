use Rattle.cell_loop.proofs.Going.{pass_is, passes_go_on, passes_end}
use Rattle.cell_loop.proofs.move_laws.passes_repeat.Goals as goal

pub returns-clause-pass : goal.returns-clause-pass
returns-clause-pass c s n m old new count workers done = pass_is s n m old new count workers done

pub returns-clause-more : goal.returns-clause-more
returns-clause-more c s old mid new more one rest = passes_go_on s old mid new more one rest

pub returns-clause-last : goal.returns-clause-last
returns-clause-last c s old new none one = passes_end s old new none one
