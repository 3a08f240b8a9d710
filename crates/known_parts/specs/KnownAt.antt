-- What is known of what a protocol reads.
use Rattle.std.specs.Prelude.{◌≡◌, ◌≤◌, ℕ, ℤ, List, [], ◌++◌, ◌∷◌, Option, Some, None, Result, Ok, Err}
use Rattle.thrift_value.specs.declared.tag.Tag.{Tag}
use Rattle.thrift_value.specs.declared.wire_fault.WireFault.{WireFault}
use Rattle.thrift_value.specs.declared.wire_fault.WireFault.TheVariants.{Short}
use Rattle.thrift_value.specs.Tree.{Tree, of_bool, of_struct}
use Rattle.schema.specs.LookUp.{field_at}
use Rattle.schema.specs.PlainKind.{PlainKind}
use Rattle.schema.specs.PlainSchema.{PlainSchema}
use Rattle.wire_model.specs.Decoder.{Unread, Decoder, go_on, fail, count_value}
use Rattle.wire_model.specs.Place.{struct_at}
use Rattle.wire_model.specs.Reading.{value}
use Rattle.wire_model.specs.Wire.{Wire, FieldHeader, stop, typed, flagged}
use Rattle.known_parts.specs.Known.{known, known_by, known_fields}

-- what was read, seen by a function, and what is left behind it
abbrev pub read_seen : {A B : Type 0} → (A → B) → Result (A × Unread) WireFault → Result (B × Unread) WireFault
read_seen see (Ok x) = Ok (see x.0, x.1)
read_seen see (Err fault) = Err fault

-- the value of a field with this header; the end of a struct has none
abbrev pub head_value : Wire → ℕ → FieldHeader → Unread → Result (Tree × Unread) WireFault
head_value wire levels (typed id tag) rest = value wire levels tag rest
head_value wire levels (flagged id flag) rest = go_on (count_value rest) (λ _ behind. Ok (of_bool flag, behind))
head_value wire levels stop rest = Err Short

-- what is known of a field's value, by its id
abbrev pub known_value_at : PlainSchema → ℕ → ℤ → Tree → Option Tree
known_value_at s which id value = known_by (known s value) (field_at s which id)

-- the known part of a struct
abbrev pub known_struct : PlainSchema → ℕ → Tree → Tree
known_struct s which (of_struct fields) = of_struct (known_fields s which fields)
known_struct s which value = value

-- the known part of the struct that was read, and the place behind the struct
abbrev pub known_found : PlainSchema → ℕ → Result (Tree × ℕ) WireFault → Result (Tree × ℕ) WireFault
known_found s which (Ok x) = Ok (known_struct s which x.0, x.1)
known_found s which (Err fault) = Err fault

-- the known part of the struct at a place, and the place behind the struct; or the fault that comes first
abbrev pub known_at : Wire → PlainSchema → ℕ → List ℕ → ℕ → Result (Tree × ℕ) WireFault
known_at wire s which bytes at = known_found s which (struct_at wire bytes at)

-- a value that is there was appended
abbrev pub with_some_more : {A : Type 0} → List A → Option A → List A
with_some_more xs None = xs
with_some_more xs (Some x) = xs ++ x ∷ []

-- a key and its value, where both are known
abbrev pub both_known : Option Tree → Option Tree → Option (Tree × Tree)
both_known None value = None
both_known (Some key) None = None
both_known (Some key) (Some value) = Some (key, value)
