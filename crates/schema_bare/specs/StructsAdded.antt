-- Structs of a schema, some more at the end of others.
use Rattle.std.specs.Prelude.{List, ◌++◌, map}
use Rattle.std.specs.List.{AllZip}
use Rattle.idl_include.specs.Program.{Program}
use Rattle.schema.specs.declared.types.StructDesc.{StructDesc}
use Rattle.schema.specs.SchemaOf.{plain_struct}
use Rattle.check_model.specs.FieldLists.{FieldsDecl}
use Rattle.check_model.specs.SchemaParts.{NoDefault, IsStructFrom}

-- structs are those of lists of fields
abbrev pub AreStructs : Program → List FieldsDecl → List StructDesc → Type 0
AreStructs program decls made = AllZip (IsStructFrom NoDefault program) decls (map plain_struct made)

-- where there were structs of some lists, there are those of these lists behind them
pub record AddsStructs (program : Program) (decls : List FieldsDecl) (old new : List StructDesc) : Type 0 where
  pub behind : (front : List FieldsDecl) → AreStructs program front old → AreStructs program (front ++ decls) new
