use Rattle.std.proofs.Common.{◌≡◌, map, take}
use Rattle.idl_include.specs.Cycles.{listed}
use Rattle.idl_types.proofs.rows.parent_rows.Given as goal

abbrev pub invariant-loop-parent : goal.invariant-loop-parent
invariant-loop-parent l = map (λ row. row.items) l.rows.items ≡ map listed (take l.parent-index l.parents)
