use Rattle.std.proofs.Common.{◌-◌}
use Rattle.cell_loop.specs.Moving.{all_of_worker}
use Rattle.cell_core.specs.Parts.{parts_of}
use Rattle.cell_core.specs.Machines.{HasDesk}
use Rattle.cell_core.proofs.Rounds.{IsGoing}
use Rattle.cell_core.proofs.machine.Machine.work_through.Given as goal

-- what the moves that are left come to, all three come to
abbrev pub invariant-tries : goal.invariant-tries
invariant-tries g l =
    IsGoing (HasDesk (g.D.Desk.meaning l.desk)) (λ s. all_of_worker s 3 l.w) (λ s. all_of_worker s (3 - l.tried) l.w) (parts_of l.fn.self) l.moved (parts_of l.self)
