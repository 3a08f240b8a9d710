use Rattle.std.proofs.Common.{◌≡◌, ◌++◌, map, drop}
use Rattle.schema.specs.SchemaOf.{plain_field}
use Rattle.check_model.specs.FieldLists.{NumberedField}
use Rattle.idl_const.specs.FieldRows.{owed_in}
use Rattle.schema_bare.specs.ById.{numbered_in}
use Rattle.const_evaluator.specs.Places.{number_at_place}
use Rattle.const_evaluator.specs.GivenFields.{default_number}
use Rattle.const_evaluator.specs.OwedFields.{owed_beside, HaveSameIds}
use Rattle.const_evaluator.proofs.struct_tables.owed_fields.Given as goal

-- what was put, and what is owed of the rest, are what is owed of all
abbrev pub invariant-loop-place : goal.invariant-loop-place
invariant-loop-place l = record {
  ids : HaveSameIds (map numbered_in (drop l.place l.sorted)) (map plain_field (drop l.place l.fields)) → HaveSameIds (map numbered_in l.sorted) (map plain_field l.fields);
  owed : map owed_in l.owed.items ++ owed_beside (λ (f : NumberedField). default_number (number_at_place l.places) l.file f.decl) (map numbered_in (drop l.place l.sorted)) (map plain_field (drop l.place l.fields))
      ≡ owed_beside (λ (f : NumberedField). default_number (number_at_place l.places) l.file f.decl) (map numbered_in l.sorted) (map plain_field l.fields);
}
