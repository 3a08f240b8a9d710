use Rattle.cell_core.proofs.OutRows.{row_grown}
use Rattle.cell_core.proofs.outs.add.Goals as goal

pub returns-in_ok-extend_from_slice : goal.returns-in_ok-extend_from_slice
returns-in_ok-extend_from_slice c =
    row_grown (λ row. row.items) c.args.all.now.items c.args.c c.in-Some.row.now c.extend_from_slice.new.self c.args.bytes.now c.in-Some.ensures.item.3.0 c.in-Some.ensures.item.1 c.in_ok-extend_from_slice.ensures.items
