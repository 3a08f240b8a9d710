use Rattle.std.proofs.Common.{length, map, drop}
use Rattle.script_text.specs.Plans.{plain_line}
use Rattle.cell_loop.specs.Moving.{all_lines}
use Rattle.cell_core.specs.Parts.{parts_of}
use Rattle.cell_core.specs.Machines.{HasCrew}
use Rattle.cell_core.proofs.Rounds.{LoopIsRunning}
use Rattle.cell_core.proofs.machine.Machine.do_lines.Given as goal

-- the lines that are left come to what all of them come to
abbrev pub invariant-lines : goal.invariant-lines
invariant-lines g l =
    LoopIsRunning (HasCrew (g.D.Desk.meaning l.desk) (length l.fn.self.workers.items)) (λ s. all_lines s (map plain_line l.lines)) (λ s. all_lines s (drop l.line-index (map plain_line l.lines)))
    (parts_of l.fn.self) (parts_of l.self)
