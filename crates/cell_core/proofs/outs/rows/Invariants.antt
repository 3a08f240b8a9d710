use Rattle.std.proofs.Common.{◌≡◌, [], map, replicate}
use Rattle.cell_core.proofs.outs.rows.Given as goal

abbrev pub invariant-loop : goal.invariant-loop
invariant-loop l = map (λ row. row.items) l.all.items ≡ replicate l.counter []
