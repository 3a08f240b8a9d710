-- What definitions in memory declare, with the number of their file.
use Rattle.std.specs.Prelude.{List, map}
use Rattle.std.specs.Option.{option_map}
use Rattle.idl_parser.specs.declared.tree.Const.{Const}
use Rattle.idl_parser.specs.declared.tree.Typedef.{Typedef}
use Rattle.idl_parser.specs.declared.tree.Enum.{Enum}
use Rattle.idl_parser.specs.declared.tree.Struct.{Struct}
use Rattle.idl_parser.specs.declared.tree.Service.{Service}
use Rattle.idl_include.specs.Declarations.{ConstDecl, TypedefDecl, EnumDecl, StructDecl, ServiceDecl}
use Rattle.idl_include.specs.DeclaredIn.{name_in, type_in, value_in, field_in, function_in, enum_value_in}
use Rattle.idl_include.specs.Numbering.{Filed}
use Rattle.idl_names.specs.declared.filed.InFile.{InFile}

-- a constant
abbrev pub const_declared : Const → ConstDecl
const_declared c = record { name = name_in c.name; type = type_in c.kind; value = value_in c.value }

-- a typedef
abbrev pub typedef_declared : Typedef → TypedefDecl
typedef_declared t = record { name = name_in t.name; type = type_in t.kind }

-- an enum
abbrev pub enum_declared : Enum → EnumDecl
enum_declared e = record { name = name_in e.name; values = map enum_value_in e.values.items }

-- a struct, a union or an exception
abbrev pub struct_declared : Struct → StructDecl
struct_declared s = record { name = name_in s.name; kind = s.kind; fields = map field_in s.fields.items }

-- a service
abbrev pub service_declared : Service → ServiceDecl
service_declared s = record { name = name_in s.name; parent = option_map name_in s.parent; functions = map function_in s.functions.items }

-- something in a file, by what it declares
abbrev pub filed_by : {D A : Type 0} → (D → A) → InFile D → Filed A
filed_by declares x = record { file = x.file; item = declares x.item.now }

-- constants in files
abbrev pub filed_consts : List (InFile Const) → List (Filed ConstDecl)
filed_consts = map (filed_by const_declared)

-- typedefs in files
abbrev pub filed_typedefs : List (InFile Typedef) → List (Filed TypedefDecl)
filed_typedefs = map (filed_by typedef_declared)

-- enums in files
abbrev pub filed_enums : List (InFile Enum) → List (Filed EnumDecl)
filed_enums = map (filed_by enum_declared)

-- structs, unions and exceptions in files
abbrev pub filed_structs : List (InFile Struct) → List (Filed StructDecl)
filed_structs = map (filed_by struct_declared)

-- services in files
abbrev pub filed_services : List (InFile Service) → List (Filed ServiceDecl)
filed_services = map (filed_by service_declared)
