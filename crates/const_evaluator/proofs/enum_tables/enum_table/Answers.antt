use Rattle.const_evaluator.proofs.Valued.{table_is}
use Rattle.const_evaluator.proofs.enum_tables.enum_table.Goals as goal

pub returns-in-Ok : goal.returns-in-Ok
returns-in-Ok c = table_is c.args.values.now c.in-Ok.places c.in_ok-numbers.numbers.items c.in-Ok.ensures c.in_ok-numbers.ensures
