use Rattle.const_evaluator.proofs.Valued.{tables_next, tables_end}
use Rattle.const_evaluator.proofs.enum_tables.enum_tables.Goals as goal

pub loop-item-preserved : goal.loop-item-preserved
loop-item-preserved c =
    tables_next c.args.enums.now c.loop-item.item-index c.item-item.result c.as_slice.result.now c.in_ok-table.table c.loop-item.tables.items c.push.new.self.items
    c.loop-item-test.true c.item-item.is c.as_slice.ensures.value c.in_ok-table.ensures c.in_ok-push.ensures.items c.loop-item.invariant

pub returns : goal.returns
returns c = tables_end c.args.enums.now c.loop-item.tables.items c.loop-item.item-index c.loop-item-test.false c.loop-item.invariant
