-- What typedefs are known to mean, as far as their types are made.
use Rattle.std.specs.Prelude.{◌≡◌, ℕ, List, slice_get, Option, Some}
use Rattle.std.specs.Option.{option_and_then, option_map}
use Rattle.schema.specs.declared.types.TypeDesc.{TypeDesc}
use Rattle.schema.specs.PlainKind.{PlainKind, kind_of}
use Rattle.idl_include.specs.Program.{Program}
use Rattle.check_model.specs.Resolved.{alias_kind}

-- what the typedef of some number means, if its type is made
abbrev pub known_kind : List (Option TypeDesc) → ℕ → Option PlainKind
known_kind made number = option_and_then (option_map kind_of) (slice_get made number)

-- each type that is made is what the typedef of its number means
pub record AreAliasTypes (program : Program) (made : List (Option TypeDesc)) : Type 0 where
  pub right : (number : ℕ) (kind : PlainKind) → known_kind made number ≡ Some kind → (deep : ℕ) × (alias_kind program deep number ≡ Some kind)
