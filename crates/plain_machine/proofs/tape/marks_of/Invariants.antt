use Rattle.std.proofs.Common.{◌==◌}
use Rattle.host_model.specs.Marks.{connection_of}
use Rattle.plain_machine.proofs.Fronting.{Kept}
use Rattle.plain_machine.proofs.tape.marks_of.Given as goal

abbrev pub invariant-loop-mark : goal.invariant-loop-mark
invariant-loop-mark l = Kept (λ mark. connection_of mark == l.c) l.tape l.mark-index l.own.items
