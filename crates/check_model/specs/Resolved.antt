-- What a type means: typedefs are resolved, and enums and structs named by number.
use Rattle.std.specs.Prelude.{◌≡◌, ℕ, zero, suc, slice_get, Option, Some, None}
use Rattle.std.specs.Option.{option_and_then, option_map}
use Rattle.idl_parser.specs.declared.tree.Base.{Base}
use Rattle.idl_parser.specs.declared.tree.Base.TheVariants as base
use Rattle.idl_include.specs.TypeExpr.{TypeExpr, base_expr, name_expr, map_expr, set_expr, list_expr}
use Rattle.idl_include.specs.Declarations.{TypedefDecl}
use Rattle.idl_include.specs.Program.{Program}
use Rattle.idl_include.specs.Numbering.{Filed, typedefs_of}
use Rattle.idl_include.specs.Names.{NamedType, an_alias, an_enum, a_struct, type_named}
use Rattle.schema.specs.PlainKind.{PlainKind, kind_bool, kind_i8, kind_i16, kind_i32, kind_i64, kind_double, kind_text, kind_binary, kind_uuid, kind_enum, kind_struct, kind_map, kind_set, kind_list}

-- a base type; `byte` is `i8` (Thrift IDL, 'Base Types')
abbrev pub base_kind : Base → PlainKind
base_kind base.Bool = kind_bool
base_kind base.Byte = kind_i8
base_kind base.I8 = kind_i8
base_kind base.I16 = kind_i16
base_kind base.I32 = kind_i32
base_kind base.I64 = kind_i64
base_kind base.Double = kind_double
base_kind base.String = kind_text
base_kind base.Binary = kind_binary
base_kind base.Uuid = kind_uuid

-- what a name means that stands for a type, where typedefs mean what `alias` says
abbrev pub named_kind : (ℕ → Option PlainKind) → NamedType → Option PlainKind
named_kind alias (an_alias number) = alias number
named_kind alias (an_enum number) = Some (kind_enum number)
named_kind alias (a_struct number) = Some (kind_struct number)

-- a container of two types that mean something
abbrev pub map_kind : Option PlainKind → Option PlainKind → Option PlainKind
map_kind (Some key) (Some value) = Some (kind_map key value)
map_kind _ _ = None

-- what a type that stands in a file means, where typedefs mean what `alias` says; nothing where a name stands for no type
abbrev pub kind_by : (ℕ → Option PlainKind) → Program → ℕ → TypeExpr → Option PlainKind
kind_by alias program file (base_expr b) = Some (base_kind b)
kind_by alias program file (name_expr name) = option_and_then (named_kind alias) (type_named program file name.text)
kind_by alias program file (map_expr key value) = map_kind (kind_by alias program file key) (kind_by alias program file value)
kind_by alias program file (set_expr member) = option_map kind_set (kind_by alias program file member)
kind_by alias program file (list_expr element) = option_map kind_list (kind_by alias program file element)

-- what a typedef means that leads over others at most so many deep
unfoldable pub alias_kind : Program → ℕ → ℕ → Option PlainKind
alias_kind program zero number = None
alias_kind program (suc deep) number =
    option_and_then (λ (t : Filed TypedefDecl). kind_by (alias_kind program deep) program t.file t.item.type) (slice_get (typedefs_of program) number)

-- A type that stands in a file means this kind.
abbrev pub TypeMeans : Program → ℕ → TypeExpr → PlainKind → Type 0
TypeMeans program file type kind = (deep : ℕ) × (kind_by (alias_kind program deep) program file type ≡ Some kind)
