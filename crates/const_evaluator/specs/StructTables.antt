-- Tables of structs: fields by name, and those that are owed.
use Rattle.std.specs.Prelude.{◌≡◌, ◌<ℤ◌, ℕ, ℤ, List, map, slice_get, Option, Some, AllPairs}
use Rattle.std.specs.List.{position_from}
use Rattle.std.specs.Str.{bytes_eq}
use Rattle.schema.specs.PlainSchema.{PlainField, PlainStruct}
use Rattle.schema.specs.SchemaOf.{plain_field, plain_struct}
use Rattle.idl_names.specs.NameMaps.{number_of_name}
use Rattle.idl_const.specs.FieldRows.{owed_in, owed_entries}
use Rattle.const_evaluator.specs.declared.struct_tables.StructTable.{StructTable}

-- the ids of fields rise
abbrev pub HaveRisingIds : List PlainField → Type 0
HaveRisingIds fields = AllPairs (λ (f g : PlainField). f.id <ℤ g.id) fields

-- the struct of a table
abbrev pub struct_in_table : StructTable → PlainStruct
struct_in_table t = plain_struct t.desc.now

-- the fields of a table's struct
abbrev pub fields_in_table : StructTable → List PlainField
fields_in_table t = map plain_field t.desc.now.fields

-- a table is right about its struct, where the default of the field of each id has this number
pub record IsStructTable (default : ℤ → Option ℕ) (t : StructTable) : Type 0 where
  pub named : (name : List ℕ) → number_of_name t.places name ≡ position_from (λ (f : PlainField). bytes_eq f.name name) 0 (fields_in_table t)
  pub owed : map owed_in t.owed.items ≡ owed_entries default (fields_in_table t)
  pub rising : HaveRisingIds (fields_in_table t)

-- the same of each of several tables, by number
abbrev pub AreStructTables : (ℕ → ℤ → Option ℕ) → List StructTable → Type 0
AreStructTables default tables = (which : ℕ) (t : StructTable) → slice_get tables which ≡ Some t → IsStructTable (default which) t
