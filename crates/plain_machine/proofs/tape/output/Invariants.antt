use Rattle.host_model.specs.Marks.{written_by}
use Rattle.plain_machine.proofs.Fronting.{Flat}
use Rattle.plain_machine.proofs.tape.output.Given as goal

abbrev pub invariant-loop-mark : goal.invariant-loop-mark
invariant-loop-mark l = Flat written_by l.marks l.mark-index l.bytes.items
