-- What a type means that functions throw: a struct, which is an exception or not.
use Rattle.std.specs.Prelude.{ℕ, Bool, true, false, Option, Some, None}
use Rattle.idl_parser.specs.declared.tree.StructKind.{StructKind}
use Rattle.idl_parser.specs.declared.tree.StructKind.TheVariants as kinds
use Rattle.idl_include.specs.Written.{Written}
use Rattle.idl_include.specs.TypeExpr.{TypeExpr, name_expr}
use Rattle.idl_include.specs.Declarations.{StructDecl}
use Rattle.idl_include.specs.Program.{Program}
use Rattle.idl_include.specs.Numbering.{Filed}
use Rattle.schema.specs.PlainKind.{PlainKind, kind_struct}
use Rattle.check_model.specs.Resolved.{TypeMeans}

-- the struct of a kind, if it is one
abbrev pub struct_number_in : PlainKind → Option ℕ
struct_number_in (kind_struct number) = Some number
struct_number_in _ = None

-- the name that a type is, if it is one
abbrev pub type_name : TypeExpr → Option Written
type_name (name_expr name) = Some name
type_name _ = None

-- the struct that a type means that stands in a file, if it means one
abbrev pub IsStructMeant : Program → ℕ → TypeExpr → Option ℕ → Type 0
IsStructMeant program file type None = (number : ℕ) → TypeMeans program file type (kind_struct number) → ⊥
IsStructMeant program file type (Some number) = TypeMeans program file type (kind_struct number)

-- what is declared as an exception
abbrev pub names_exception : StructKind → Bool
names_exception kinds.Exception = true
names_exception _ = false

-- a declaration of an exception
abbrev pub declares_exception : Filed StructDecl → Bool
declares_exception s = names_exception s.item.kind
