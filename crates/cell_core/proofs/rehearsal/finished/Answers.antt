use Rattle.std.proofs.Common.{◌∙◌}
use Rattle.cell_core.proofs.rehearsal.finished.Goals as goal

pub returns-clause-ends : goal.returns-clause-ends
returns-clause-ends g c = λ causes over. c.new-2.ensures ∙ c.tell_ends.ensures.ends causes over
