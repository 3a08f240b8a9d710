-- A small schema as an example, a file with a struct and a service; and a union and a struct with a field that has to be there.
use Rattle.std.specs.Prelude.{pos, true, false, [], ◌∷◌, codes, Some, None}
use Rattle.thrift_value.specs.Tree.{of_bool}
use Rattle.schema.specs.declared.types.FieldNeed.TheVariants.{Default, Optional, Required}
use Rattle.schema.specs.declared.types.FieldsKind.TheVariants as of_kind
use Rattle.schema.specs.declared.types.DefRef.TheVariants as definition
use Rattle.schema.specs.PlainKind.{kind_bool, kind_struct, kind_list}
use Rattle.schema.specs.PlainSchema.{PlainField, PlainStruct, PlainFunction, PlainService, PlainFile, PlainSchema}

-- 1: bool a = true
abbrev pub example_field : PlainField
example_field = record { id = pos 1; need = Default; kind = kind_bool; name = codes "a"; default = Some (of_bool true) }

-- struct S { 1: bool a = true }
abbrev pub example_struct : PlainStruct
example_struct = record { file = 0; name = codes "S"; kind = of_kind.Struct; fields = example_field ∷ [] }

-- union U { 1: bool a, 2: bool b }
abbrev pub example_first : PlainField
example_first = record { id = pos 1; need = Optional; kind = kind_bool; name = codes "a"; default = None }

abbrev pub example_second : PlainField
example_second = record { id = pos 2; need = Optional; kind = kind_bool; name = codes "b"; default = None }

abbrev pub example_union : PlainStruct
example_union = record { file = 0; name = codes "U"; kind = of_kind.Union; fields = example_first ∷ example_second ∷ [] }

-- struct R { 1: required bool a }
abbrev pub example_required : PlainField
example_required = record { id = pos 1; need = Required; kind = kind_bool; name = codes "a"; default = None }

abbrev pub example_needy : PlainStruct
example_needy = record { file = 0; name = codes "R"; kind = of_kind.Struct; fields = example_required ∷ [] }

-- the arguments of f: none
abbrev pub example_args : PlainStruct
example_args = record { file = 0; name = codes "f"; kind = of_kind.Args; fields = [] }

-- list<S> f()
abbrev pub example_function : PlainFunction
example_function = record { name = codes "f"; oneway = false; args = 1; result = Some (kind_list (kind_struct 0)); throws = [] }

-- service V { list<S> f() }
abbrev pub example_service : PlainService
example_service = record { file = 0; name = codes "V"; parent = None; functions = example_function ∷ [] }

-- t.thrift, which has the struct and then the service
abbrev pub example_file : PlainFile
example_file = record { base = codes "t"; includes = []; defs = definition.Struct 0 ∷ definition.Service 0 ∷ [] }

-- the program that is this file
abbrev pub example_schema : PlainSchema
example_schema = record {
  files = example_file ∷ [];
  structs = example_struct ∷ example_args ∷ [];
  enums = [];
  services = example_service ∷ [];
  aliases = [];
  constants = [];
}
