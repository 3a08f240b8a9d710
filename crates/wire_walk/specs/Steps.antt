-- The steps of a walk over bytes.
use Rattle.std.specs.Prelude.{◌≡◌, ⊤, ℕ, List, ◌++◌}
use Rattle.wire_model.specs.Wire.{FieldHeader, stop, typed, flagged}
use Rattle.wire_walk.specs.declared.header.Header.{Header}
use Rattle.wire_walk.specs.declared.header.Header.TheVariants.{Stop, Field, Flag}

-- what a header means
abbrev pub field_header_of : Header → FieldHeader
field_header_of Stop = stop
field_header_of (Field id tag) = typed id tag
field_header_of (Flag id flag) = flagged id flag

-- what is so of what stands behind a header, where something does
abbrev pub OnBehind : FieldHeader → Type 0 → Type 0
OnBehind (typed _ _) P = P
OnBehind _ P = ⊤

-- a list with something behind it, or nothing
pub record Grows (old new : List ℕ) : Type 0 where
  pub more : List ℕ
  pub is : new ≡ old ++ more
