-- What a name stands for in a file: `A` is a definition of the same file, and `f.A` the definition A of the included file with base name f.
use Rattle.std.specs.Prelude.{ℕ, ◌==◌, Bool, false, List, [], slice_get, Option, Some, if◌then◌else◌}
use Rattle.std.specs.Str.{bytes_eq}
use Rattle.std.specs.Option.{option_map, option_or, option_and_then, option_map_or}
use Rattle.std.specs.List.{list_any, find, before_last, after_last}
use Rattle.idl_include.specs.Declarations.{TypedefDecl, EnumDecl, StructDecl, ServiceDecl}
use Rattle.idl_include.specs.Program.{SourceFile, Program, base_of_file}
use Rattle.idl_include.specs.Numbering.{number_named, typedefs_of, enums_of, structs_of, services_of}

-- the byte is `.`
abbrev pub is_dot : ℕ → Bool
is_dot b = b == 46

-- the name has a `.`
abbrev pub is_dotted : List ℕ → Bool
is_dotted name = list_any is_dot name

-- what stands before the last `.` of a name
abbrev pub qualifier : List ℕ → List ℕ
qualifier name = before_last is_dot name

-- what stands behind the last `.` of a name, or all of it where there is none
abbrev pub bare_name : List ℕ → List ℕ
bare_name name = after_last is_dot name

-- a name without a `.` and the number of the file that may define it
pub record Sought : Type 0 where
  pub file : ℕ
  pub name : List ℕ

-- the numbers of the files that a file includes
abbrev pub includes_in : Program → ℕ → List ℕ
includes_in program file = option_map_or (λ (f : SourceFile). f.includes) (slice_get program file) []

-- the file of this number has this base name
abbrev pub has_base : Program → List ℕ → ℕ → Bool
has_base program base number = option_map_or (λ f. bytes_eq (base_of_file f) base) (slice_get program number) false

-- the number of the included file with this base name
abbrev pub included_with : Program → ℕ → List ℕ → Option ℕ
included_with program file base = find (has_base program base) (includes_in program file)

-- where a name that stands in a file is defined
unfoldable pub sought : Program → ℕ → List ℕ → Option Sought
sought program file name =
    if is_dotted name then option_map (λ other. record { file = other; name = bare_name name }) (included_with program file (qualifier name))
    else Some (record { file = file; name = name })

-- what a type's name may stand for, by number: a typedef, an enum, or a struct, union or exception
pub data NamedType : Type 0 where
  an_alias : ℕ → NamedType
  an_enum : ℕ → NamedType
  a_struct : ℕ → NamedType

-- the type of a name that is defined in a file
abbrev pub type_defined : Program → Sought → Option NamedType
type_defined program s =
    option_or (option_map an_alias (number_named (λ (t : TypedefDecl). t.name) (typedefs_of program) s.file s.name))
    (option_or (option_map an_enum (number_named (λ (e : EnumDecl). e.name) (enums_of program) s.file s.name))
    (option_map a_struct (number_named (λ (t : StructDecl). t.name) (structs_of program) s.file s.name)))

-- the service of a name that is defined in a file
abbrev pub service_defined : Program → Sought → Option ℕ
service_defined program s = number_named (λ (t : ServiceDecl). t.name) (services_of program) s.file s.name

-- The type that a name in a file stands for.
unfoldable pub type_named : Program → ℕ → List ℕ → Option NamedType
type_named program file name = option_and_then (type_defined program) (sought program file name)

-- The service that a name in a file stands for.
unfoldable pub service_for_name : Program → ℕ → List ℕ → Option ℕ
service_for_name program file name = option_and_then (service_defined program) (sought program file name)
