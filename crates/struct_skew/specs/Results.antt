-- Several results as one: all values, or the first fault.
use Rattle.std.specs.Prelude.{ℤ, List, ◌∷◌, Option, Some, None, Result, Ok, Err}
use Rattle.thrift_value.specs.Tree.{Tree}
use Rattle.struct_skew.specs.declared.fault.SkewFault.{SkewFault}

-- a value of another kind, or the same fault
abbrev pub with_value : {A B : Type 0} → (A → B) → Result A SkewFault → Result B SkewFault
with_value f (Ok x) = Ok (f x)
with_value f (Err fault) = Err fault

-- what follows from a value, or its fault
abbrev pub and_if_ok : {A B : Type 0} → Result A SkewFault → (A → Result B SkewFault) → Result B SkewFault
and_if_ok (Ok x) next = next x
and_if_ok (Err fault) next = Err fault

-- two values; the fault of the first comes first
abbrev pub both_values : {A B : Type 0} → Result A SkewFault → Result B SkewFault → Result (A × B) SkewFault
both_values (Ok x) (Ok y) = Ok (x, y)
both_values (Ok x) (Err fault) = Err fault
both_values (Err fault) _ = Err fault

-- a value and those behind it; its fault comes first
abbrev pub with_first : {A : Type 0} → Result A SkewFault → Result (List A) SkewFault → Result (List A) SkewFault
with_first (Ok x) (Ok xs) = Ok (x ∷ xs)
with_first (Ok x) (Err fault) = Err fault
with_first (Err fault) _ = Err fault

-- the same of a value that may be none
abbrev pub with_some : {A : Type 0} → Result (Option A) SkewFault → Result (List A) SkewFault → Result (List A) SkewFault
with_some (Ok (Some x)) more = with_first (Ok x) more
with_some (Ok None) more = more
with_some (Err fault) more = Err fault

-- a value as a field with this id
abbrev pub as_field : ℤ → Result (Option Tree) SkewFault → Result (Option (ℤ × Tree)) SkewFault
as_field id (Ok (Some value)) = Ok (Some (id, value))
as_field id (Ok None) = Ok None
as_field id (Err fault) = Err fault

-- a field and those behind it, where it has a value; its fault comes first
abbrev pub with_field_value : ℤ → Result (Option Tree) SkewFault → Result (List (ℤ × Tree)) SkewFault → Result (List (ℤ × Tree)) SkewFault
with_field_value id value more = with_some (as_field id value) more
