use Rattle.std.proofs.Common.{◌∙◌, ap, List, Option, ℕ, map}
use Rattle.idl_include.specs.Cycles.{listed}
use Rattle.idl_types.proofs.RowsMade.{rows_end, parent_rows_are}
use Rattle.idl_types.proofs.rows.parent_rows.Goals as goal

pub returns-clause-graph : goal.returns-clause-graph
returns-clause-graph c = λ program are.
    rows_end listed c.args.parents.now c.loop-parent.parent-index (map (λ row. row.items) c.loop-parent.rows.items) c.loop-parent-test.false c.loop-parent.invariant
    ∙ ap (λ (ps : List (Option ℕ)). map listed ps) are
    ∙ parent_rows_are program
