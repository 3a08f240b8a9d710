use Rattle.std.proofs.Common.{◌≡◌, map, take}
use Rattle.schema.specs.SchemaOf.{plain_struct}
use Rattle.const_evaluator.specs.Places.{number_at_place}
use Rattle.const_evaluator.specs.GivenFields.{fields_given, default_among}
use Rattle.const_evaluator.specs.StructTables.{struct_in_table, AreStructTables}
use Rattle.const_evaluator.proofs.struct_tables.struct_tables.Given as goal

-- the structs so far
abbrev pub invariant-loop-number : goal.invariant-loop-number
invariant-loop-number l = record {
  structs : map struct_in_table l.tables.items ≡ map plain_struct (take l.number l.structs);
  right : AreStructTables (default_among (number_at_place l.places) (map fields_given l.lists)) l.tables.items;
}
