-- Types of exceptions, among structs, unions and exceptions by number.
use Rattle.std.specs.Prelude.{ℕ, Bool, true, false, List, slice_get}
use Rattle.std.specs.Option.{option_map_or}
use Rattle.idl_parser.specs.declared.tree.StructKind.{StructKind}
use Rattle.idl_parser.specs.declared.tree.StructKind.TheVariants as kind
use Rattle.idl_include.specs.Declarations.{StructDecl}
use Rattle.idl_include.specs.Numbering.{Filed}
use Rattle.schema.specs.PlainKind.{PlainKind, kind_struct}

-- the word makes an exception
abbrev pub is_exception_word : StructKind → Bool
is_exception_word kind.Struct = false
is_exception_word kind.Union = false
is_exception_word kind.Exception = true

-- the one of this number is an exception
abbrev pub is_exception_at : List (Filed StructDecl) → ℕ → Bool
is_exception_at structs number = option_map_or (λ (s : Filed StructDecl). is_exception_word s.item.kind) (slice_get structs number) false

-- the type is an exception
abbrev pub is_exception_kind : List (Filed StructDecl) → PlainKind → Bool
is_exception_kind structs (kind_struct number) = is_exception_at structs number
is_exception_kind structs _ = false
