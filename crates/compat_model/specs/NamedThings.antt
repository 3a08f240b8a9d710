-- What the main file of a schema defines, by name.
use Rattle.std.specs.Prelude.{ℕ, Bool, true, false, not, ◌&&◌, ◌==◌, List, Option}
use Rattle.std.specs.List.{position_from}
use Rattle.std.specs.Str.{bytes_eq}
use Rattle.schema.specs.declared.types.FieldsKind.{FieldsKind}
use Rattle.schema.specs.declared.types.FieldsKind.TheVariants.{Args}
use Rattle.schema.specs.PlainSchema.{PlainStruct, PlainService, PlainSchema}

-- the arguments of a function
abbrev pub is_arguments : FieldsKind → Bool
is_arguments Args = true
is_arguments _ = false

-- a struct, a union or an exception of the main file
abbrev pub is_main_struct : PlainStruct → Bool
is_main_struct d = d.file == 0 && not (is_arguments d.kind)

-- the number of the main file's struct, union or exception with a name
abbrev pub main_struct_named : PlainSchema → List ℕ → Option ℕ
main_struct_named s name = position_from (λ d. is_main_struct d && bytes_eq d.name name) 0 s.structs

-- the number of the main file's service with a name
abbrev pub main_service_named : PlainSchema → List ℕ → Option ℕ
main_service_named s name = position_from (λ (v : PlainService). v.file == 0 && bytes_eq v.name name) 0 s.services
