-- Small changes, as worked examples.
use Rattle.std.specs.Prelude.{ℕ, pos, true, false, List, [], ◌∷◌, codes, Option, Some, None}
use Rattle.schema.specs.declared.types.FieldNeed.{FieldNeed}
use Rattle.schema.specs.declared.types.FieldNeed.TheVariants.{Default, Optional}
use Rattle.schema.specs.declared.types.FieldsKind.{FieldsKind}
use Rattle.schema.specs.declared.types.FieldsKind.TheVariants as of_kind
use Rattle.schema.specs.PlainKind.{PlainKind, kind_i32, kind_text, kind_struct, kind_list, kind_map}
use Rattle.schema.specs.PlainSchema.{PlainField, PlainStruct, PlainFunction, PlainService, PlainSchema}
use Rattle.compat_model.specs.declared.break_kind.BreakKind.{BreakKind}
use Rattle.compat_model.specs.Breaks.{PlainBreak}
use Rattle.compat_model.specs.StructPairs.{SchemaChange}

-- a field
abbrev pub worked_field : ℕ → FieldNeed → PlainKind → PlainField
worked_field id need kind = record { id = pos id; need = need; kind = kind; name = []; default = None }

-- what has fields, in the main file
abbrev pub worked_struct : List ℕ → FieldsKind → List PlainField → PlainStruct
worked_struct name kind fields = record { file = 0; name = name; kind = kind; fields = fields }

-- a struct of a file that the main file includes
abbrev pub included_struct : List ℕ → List PlainField → PlainStruct
included_struct name fields = record { file = 1; name = name; kind = of_kind.Struct; fields = fields }

-- a function whose arguments are struct 0
abbrev pub worked_function : List ℕ → Option PlainKind → List PlainField → PlainFunction
worked_function name result throws = record { name = name; oneway = false; args = 0; result = result; throws = throws }

-- a service of the main file
abbrev pub worked_service : List ℕ → Option ℕ → List PlainFunction → PlainService
worked_service name parent functions = record { file = 0; name = name; parent = parent; functions = functions }

-- a schema of these
abbrev pub worked_schema : List PlainStruct → List PlainService → PlainSchema
worked_schema structs services = record { files = []; structs = structs; enums = []; services = services; aliases = []; constants = [] }

-- a change of structs alone
abbrev pub worked_change : List PlainStruct → List PlainStruct → SchemaChange
worked_change old new = record { old = worked_schema old []; new = worked_schema new [] }

-- a change of structs and services
abbrev pub served_change : List PlainStruct → List PlainService → List PlainStruct → List PlainService → SchemaChange
served_change old services new others = record { old = worked_schema old services; new = worked_schema new others }

-- struct S with these fields, alone
abbrev pub lone_struct : FieldsKind → List PlainField → List PlainStruct
lone_struct kind fields = worked_struct (codes "S") kind fields ∷ []

-- struct S { 1: i32 a }
abbrev pub first_struct : List PlainStruct
first_struct = lone_struct of_kind.Struct (worked_field 1 Default kind_i32 ∷ [])

-- the arguments of a function f: { 1: i32 a }, a struct R of an included file with its first field, and an exception E
abbrev pub function_structs : FieldNeed → List PlainStruct
function_structs need =
    worked_struct (codes "f") of_kind.Args (worked_field 1 Default kind_i32 ∷ []) ∷ included_struct (codes "R") (worked_field 1 need kind_i32 ∷ [])
    ∷ worked_struct (codes "E") of_kind.Exception [] ∷ []

-- the arguments of a function f alone: { 1: .. }
abbrev pub arguments_alone : PlainKind → List PlainStruct
arguments_alone kind = worked_struct (codes "f") of_kind.Args (worked_field 1 Default kind ∷ []) ∷ []

-- no arguments of a function f, and a union U of an included file with these fields
abbrev pub answering : List PlainField → List PlainStruct
answering fields =
    worked_struct (codes "f") of_kind.Args [] ∷ record { file = 1; name = codes "U"; kind = of_kind.Union; fields = fields } ∷ []

-- service V { .. f(1: i32 a) .. }
abbrev pub one_function : PlainFunction → List PlainService
one_function f = worked_service (codes "V") None (f ∷ []) ∷ []

-- what the change of f, where its structs stay, comes to
abbrev pub function_change : PlainFunction → PlainFunction → SchemaChange
function_change f g = served_change (function_structs Optional) (one_function f) (function_structs Optional) (one_function g)

-- i32 f(1: i32 a) throws (1: E e)
abbrev pub first_function : PlainFunction
first_function = worked_function (codes "f") (Some kind_i32) (worked_field 1 Default (kind_struct 2) ∷ [])

-- oneway void f(1: i32 a)
abbrev pub oneway_function : PlainFunction
oneway_function = record { name = codes "f"; oneway = true; args = 0; result = None; throws = [] }

-- struct A { 1: list<B> }, and of an included file B { 1: map<string, C> } and C with this field
abbrev pub two_steps : PlainKind → List PlainStruct
two_steps kind =
    worked_struct (codes "A") of_kind.Struct (worked_field 1 Default (kind_list (kind_struct 1)) ∷ [])
    ∷ included_struct (codes "B") (worked_field 1 Default (kind_map kind_text (kind_struct 2)) ∷ [])
    ∷ included_struct (codes "C") (worked_field 1 Default kind ∷ []) ∷ []

-- service W { these functions }, and service V extends W
abbrev pub inherited_functions : List PlainFunction → List PlainService
inherited_functions functions = record { file = 1; name = codes "W"; parent = None; functions = functions } ∷ worked_service (codes "V") (Some 0) [] ∷ []

-- the break of S or of another thing
abbrev pub worked_break : List ℕ → ℕ → BreakKind → Option PlainBreak
worked_break name id kind = Some (record { name = name; id = pos id; kind = kind })
