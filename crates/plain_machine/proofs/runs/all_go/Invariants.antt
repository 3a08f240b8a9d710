use Rattle.plain_machine.specs.Seen.{cell_of, told_of}
use Rattle.plain_machine.proofs.Seeing.{Going}
use Rattle.plain_machine.proofs.runs.all_go.Given as goal

abbrev pub invariant-loop-event : goal.invariant-loop-event
invariant-loop-event g l =
    Going (g.D.PlainDesk.desk l.desk) (g.S.PlainServices.rules l.services) told_of (cell_of l.fn.cell) l.events l.event-index (cell_of l.cell)
