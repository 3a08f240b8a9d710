use Rattle.host_model.specs.Marks.{read_by}
use Rattle.plain_machine.proofs.Fronting.{Flat}
use Rattle.plain_machine.proofs.tape.input.Given as goal

abbrev pub invariant-loop-mark : goal.invariant-loop-mark
invariant-loop-mark l = Flat read_by l.marks l.mark-index l.bytes.items
