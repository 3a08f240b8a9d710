-- Parts of a value that are read at a place of bytes, and values that are passed over there.
use Rattle.std.specs.Prelude.{◌≡◌, ⊤, ℕ, ◌&&◌, Bool, List, drop, Some, None, is_some, Result, Ok, Err}
use Rattle.thrift_value.specs.declared.wire_fault.WireFault.{WireFault}
use Rattle.wire_model.specs.declared.one_pass.FieldHead.{FieldHead}
use Rattle.wire_model.specs.declared.one_pass.FieldHead.TheVariants.{Stop, Field}
use Rattle.wire_model.specs.Answering.{FaultsExactly}
use Rattle.wire_model.specs.Decoder.{Unread}
use Rattle.wire_model.specs.Wire.{FieldHeader, stop, typed, flagged, is_bool_tag}

-- what is left from a place on, where so many values may still come
abbrev pub left_at : List ℕ → ℕ → ℕ → Unread
left_at bytes at budget = record { bytes = drop at bytes; budget = budget }

-- What a call found at a place, seen by view, and the place behind it, are what the decoder finds there, however many values may
-- still come; or its fault is the decoder's, and never want of memory.
abbrev pub ReadsPartAt : {X A : Type 0} → (X → A) → (X → ℕ) → (Unread → Result (A × Unread) WireFault) → List ℕ → ℕ → Result X WireFault → Type 0
ReadsPartAt view behind decoder bytes at (Ok x) = (budget : ℕ) → decoder (left_at bytes at budget) ≡ Ok (view x, left_at bytes (behind x) budget)
ReadsPartAt view behind decoder bytes at (Err fault) = (budget : ℕ) → FaultsExactly fault (decoder (left_at bytes at budget))

-- what a head means
abbrev pub head_of : FieldHead → FieldHeader
head_of Stop = stop
head_of (Field id tag None) = typed id tag
head_of (Field id tag (Some flag)) = flagged id flag

-- a field's head has a value exactly where it is a bool's, and bool fields have their values in their headers
abbrev pub HasFlag : Bool → FieldHead → Type 0
HasFlag flags Stop = ⊤
HasFlag flags (Field id tag flag) = is_some flag ≡ (flags && is_bool_tag tag)

-- what is left behind what is read, where that is passed over
abbrev pub passed_over : {A : Type 0} → Result (A × Unread) WireFault → Result Unread WireFault
passed_over (Ok x) = Ok x.1
passed_over (Err fault) = Err fault
