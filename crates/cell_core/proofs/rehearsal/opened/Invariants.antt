use Rattle.std.proofs.Common.{◌≡◌, replicate}
use Rattle.cell_core.specs.declared.worker.Holding.TheVariants.{Idle}
use Rattle.cell_core.proofs.rehearsal.opened.Given as goal

-- so many workers without a job
abbrev pub invariant-loop : goal.invariant-loop
invariant-loop l = l.all.items ≡ replicate l.counter Idle
