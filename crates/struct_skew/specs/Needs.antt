-- The declared fields that need a look even where nothing is sent for them: those that have to be there, and those with a default.
use Rattle.std.specs.Prelude.{ℕ, ◌+◌, Bool, not, ◌&&◌, if◌then◌else◌, List, [], ◌∷◌, is_some}
use Rattle.schema.specs.PlainSchema.{PlainField, PlainStruct}
use Rattle.schema.specs.declared.types.FieldsKind.{FieldsKind}
use Rattle.struct_skew.specs.declared.needs.StructNeeds.{StructNeeds}
use Rattle.struct_skew.specs.Projection.{is_required, counted_default}

-- the places from a number on of the items that pass a test
abbrev pub places_from : {A : Type 0} → (A → Bool) → ℕ → List A → List ℕ
places_from test n [] = []
places_from test n (x ∷ xs) = if test x then n ∷ places_from test (n + 1) xs else places_from test (n + 1) xs

-- a field has to be there
abbrev pub is_required_field : PlainField → Bool
is_required_field f = is_required f.need

-- a field may be unsent, and has a default then
abbrev pub is_defaulted_field : FieldsKind → PlainField → Bool
is_defaulted_field kind f = not (is_required f.need) && is_some (counted_default kind f)

-- the places of a struct's fields that have to be there, and of those with a default
pub record PlainNeeds : Type 0 where
  pub required : List ℕ
  pub defaulted : List ℕ

-- a struct's needs in memory
abbrev pub plain_needs : StructNeeds → PlainNeeds
plain_needs needs = record { required = needs.required.items; defaulted = needs.defaulted.items }

-- what a struct needs
abbrev pub needs_of : PlainStruct → PlainNeeds
needs_of s = record {
  required = places_from is_required_field 0 s.fields;
  defaulted = places_from (is_defaulted_field s.kind) 0 s.fields;
}
