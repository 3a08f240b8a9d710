-- What the values of a program are worth, until they are taken.
use Rattle.std.specs.Prelude.{◌≡◌, ℕ, List, slice_get, slice_index_or, Option, Some, None}
use Rattle.thrift_value.specs.declared.value.Value.{Value}
use Rattle.thrift_value.specs.Tree.{Tree}
use Rattle.thrift_value.specs.TreeOf.{tree_of}
use Rattle.idl_token.specs.declared.Place.{Place}
use Rattle.idl_include.specs.TypeExpr.{TypeExpr}
use Rattle.idl_include.specs.ConstExpr.{ConstExpr}
use Rattle.idl_include.specs.Program.{Program}
use Rattle.idl_include.specs.Numbering.{Filed}
use Rattle.idl_include.specs.Spots.{GivenValue, values_of}
use Rattle.const_evaluator.specs.Places.{ArePlaces}
use Rattle.check_passes.specs.Given.{HasOwnWorth}
use Rattle.idl_check.specs.declared.worths.Worths.{Worths}

-- a value that stands in a file
abbrev pub value_given : ℕ → Place → TypeExpr → ConstExpr → Filed GivenValue
value_given file owner type tree = record { file = file; item = record { owner = owner; type = type; tree = tree } }

-- what is there of each number is what the given value of this number is worth
abbrev pub AreLeft : Program → List (Option Value) → Type 0
AreLeft program values =
    (which : ℕ) (value : Value) → slice_index_or values which None ≡ Some value
    → (v : Filed GivenValue) → slice_get (values_of program) which ≡ Some v → HasOwnWorth program v (tree_of value)

-- values are right about a program
pub record AreWorths (program : Program) (worths : Worths) : Type 0 where
  pub places : ArePlaces program worths.places.now
  pub left : AreLeft program worths.values.items

-- what is given for what stands at a place in a file is worth this
abbrev pub IsWorthAt : Program → ℕ → Place → Tree → Type 0
IsWorthAt program file owner value =
    (which : ℕ) (type : TypeExpr) (tree : ConstExpr) → slice_get (values_of program) which ≡ Some (value_given file owner type tree)
    → HasOwnWorth program (value_given file owner type tree) value
