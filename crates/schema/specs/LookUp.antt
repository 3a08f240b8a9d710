-- What a name or a number stands for in a schema.
use Rattle.std.specs.Prelude.{ℕ, ℤ, ◌==◌, ◌&&◌, ◌||◌, Bool, List, [], ◌++◌, codes, Option, unwrap_or}
use Rattle.std.specs.List.{slice_get, find, list_any, position_from}
use Rattle.std.specs.Option.{option_map}
use Rattle.std.specs.Str.{bytes_eq}
use Rattle.schema.specs.Inherited.{functions_of}
use Rattle.schema.specs.PlainSchema.{PlainField, PlainStruct, PlainFunction, PlainService, PlainFile, PlainSchema}
use Rattle.schema.specs.WrittenAs.{field_with_id}

-- the fields of the struct at a number
abbrev pub fields_at : PlainSchema → ℕ → List PlainField
fields_at s which = unwrap_or (option_map (λ (d : PlainStruct). d.fields) (slice_get s.structs which)) []

-- the field with this id of the struct at a number
abbrev pub field_at : PlainSchema → ℕ → ℤ → Option PlainField
field_at s which id = field_with_id id (fields_at s which)

-- the base name of the file at a number
abbrev pub base_at : PlainSchema → ℕ → List ℕ
base_at s file = unwrap_or (option_map (λ (f : PlainFile). f.base) (slice_get s.files file)) []

-- the main file includes the file at this number
abbrev pub is_included : PlainSchema → ℕ → Bool
is_included s file = list_any (λ n. n == file) (unwrap_or (option_map (λ (f : PlainFile). f.includes) (slice_get s.files 0)) [])

-- a file's base name, a dot and a name
abbrev pub dotted : List ℕ → List ℕ → List ℕ
dotted base name = base ++ (codes "." ++ name)

-- the main file knows the service of an included file by this name: base name, dot and name
abbrev pub is_included_name : PlainSchema → List ℕ → PlainService → Bool
is_included_name s name v = bytes_eq name (dotted (base_at s v.file) v.name) && is_included s v.file

-- the main file knows the service by this name: its own by their names, and those of included files
abbrev pub is_service_name : PlainSchema → List ℕ → PlainService → Bool
is_service_name s name v = (v.file == 0 && bytes_eq name v.name) || is_included_name s name v

-- the number of the first service that the main file knows by this name
abbrev pub service_named : PlainSchema → List ℕ → Option ℕ
service_named s name = position_from (is_service_name s name) 0 s.services

-- a function has this name
abbrev pub is_named : List ℕ → PlainFunction → Bool
is_named name f = bytes_eq f.name name

-- the function with this name of the service at a number, inherited ones included
abbrev pub function_named : PlainSchema → ℕ → List ℕ → Option PlainFunction
function_named s which name = find (is_named name) (functions_of s.services which)
