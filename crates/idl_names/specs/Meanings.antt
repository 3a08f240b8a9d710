-- What names in memory are found to stand for.
use Rattle.std.specs.Prelude.{ℕ, List, Option, Some, None}
use Rattle.idl_include.specs.Names.{Sought, NamedType, an_alias, an_enum, a_struct}
use Rattle.idl_include.specs.ConstNames.{ConstMeaning, enum_value, given_value}
use Rattle.idl_names.specs.declared.tables.TypeName.{TypeName}
use Rattle.idl_names.specs.declared.tables.TypeName.TheVariants as found
use Rattle.idl_names.specs.declared.tables.ConstName.{ConstName}
use Rattle.idl_names.specs.declared.tables.ConstName.TheVariants as name
use denote.Ref.{Bor}

-- what a type's name stands for
abbrev pub type_meant : TypeName → NamedType
type_meant (found.Alias number) = an_alias number
type_meant (found.Enum number) = an_enum number
type_meant (found.Struct number) = a_struct number

-- what a constant's name stands for
abbrev pub const_meant : ConstName → ConstMeaning
const_meant (name.Number which n) = enum_value which n
const_meant (name.Value which) = given_value which

-- a file's number and a name
abbrev pub FileName : Type 0
FileName = ℕ × Bor (List ℕ)

-- where a name may be defined
abbrev pub sought_meant : Option FileName → Option Sought
sought_meant None = None
sought_meant (Some p) = Some (record { file = p.0; name = p.1.now })
