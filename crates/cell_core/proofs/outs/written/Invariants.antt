use Rattle.std.proofs.Common.{◌≡◌, length, map}
use Rattle.cell_core.specs.Rehearsed.{written_from}
use Rattle.cell_core.proofs.OutRows.{rows_behind_all}
use Rattle.cell_core.proofs.outs.written.Given as goal

-- the rows so far, with what the marks that are left say, are what all marks say
abbrev pub invariant-walk : goal.invariant-walk
invariant-walk l = rows_behind_all (map (λ row. row.items) l.all.items) l.marks ≡ written_from l.fn.marks 0 l.count

abbrev pub decreases-walk : goal.decreases-walk
decreases-walk l = length l.marks

-- the items so far are the rows so far
abbrev pub invariant-loop-row : goal.invariant-loop-row
invariant-loop-row l = l.items.items ≡ map (λ row. row.items) l.yielded
