use Rattle.std.proofs.Common.{take}
use Rattle.const_evaluator.specs.EnumTables.{AreTablesOf}
use Rattle.const_evaluator.proofs.enum_tables.enum_tables.Given as goal

abbrev pub invariant-loop-item : goal.invariant-loop-item
invariant-loop-item l = AreTablesOf (take l.item-index l.enums) l.tables.items
