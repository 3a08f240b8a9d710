use Rattle.std.proofs.Common.{List, map, drop}
use Rattle.thrift_value.specs.TreeOf.{field_tree, field_trees}
use Rattle.schema.specs.SchemaOf.{plain_field}
use Rattle.schema.specs.PlainSchema.{PlainStruct}
use Rattle.schema.specs.declared.types.FieldsKind.{FieldsKind}
use Rattle.struct_skew.specs.Plan.{AllAt, Follows}
use Rattle.struct_skew.specs.Projection.{offers_of}
use Rattle.struct_skew.specs.TakenOut.{AreApartBelow}
use Rattle.struct_skew.proofs.plan.put_sent.Given as goal

-- the choices so far follow the raw fields that are left, where those at the start followed all; and no two name the same raw field
abbrev pub invariant-loop-index : goal.invariant-loop-index
invariant-loop-index l = record {
  counts :
      (structs : List PlainStruct) (kind : FieldsKind)
      → AllAt (Follows kind (offers_of structs (field_trees (map field_tree l.sent))) l.initial.into.items (offers_of structs (field_trees (map field_tree l.sent)))) 0 (map plain_field l.declared)
      → AllAt (Follows kind (offers_of structs (field_trees (map field_tree l.sent))) l.into.items (offers_of structs (field_trees (map field_tree (drop l.index l.sent))))) 0 (map plain_field l.declared);
  apart : AreApartBelow 0 l.initial.into.items → AreApartBelow l.index l.into.items;
}
