-- Which structs have a finite value: one that doesn't need a value of its own kind inside it.
use Rattle.std.specs.Prelude.{◌≡◌, ℕ, zero, suc, Bool, true, false, ◌||◌, List, [], ◌∷◌, slice_get}
use Rattle.std.specs.Option.{option_map_or}
use Rattle.std.specs.List.{list_any, list_all}
use Rattle.schema.specs.declared.types.FieldNeed.{FieldNeed}
use Rattle.schema.specs.declared.types.FieldNeed.TheVariants as wanted
use Rattle.schema.specs.declared.types.FieldsKind.{FieldsKind}
use Rattle.schema.specs.declared.types.FieldsKind.TheVariants as fields
use Rattle.schema.specs.PlainKind.{PlainKind, kind_struct}
use Rattle.schema.specs.PlainSchema.{PlainField, PlainStruct, PlainSchema}

-- a type has a value, where this says it of structs; scalars and containers always have one
abbrev pub kind_has : (ℕ → Bool) → PlainKind → Bool
kind_has has (kind_struct number) = has number
kind_has has _ = true

-- a field doesn't stand in the way of a struct's value
abbrev pub field_allows : (ℕ → Bool) → FieldNeed → PlainKind → Bool
field_allows has wanted.Required kind = kind_has has kind
field_allows has _ kind = true

-- there is nothing in the list
abbrev pub has_no_items : {A : Type 0} → List A → Bool
has_no_items [] = true
has_no_items (x ∷ xs) = false

-- a struct has a value where each required field has one; a union where some field has one, or there is none
abbrev pub fields_have : (ℕ → Bool) → FieldsKind → List PlainField → Bool
fields_have has fields.Union items = has_no_items items || list_any (λ (f : PlainField). kind_has has f.kind) items
fields_have has _ items = list_all (λ (f : PlainField). field_allows has f.need f.kind) items

-- a struct has a value in which structs stand in one another at most so many deep
unfoldable pub has_value_within : PlainSchema → ℕ → ℕ → Bool
has_value_within schema zero number = false
has_value_within schema (suc deep) number =
    option_map_or (λ (s : PlainStruct). fields_have (has_value_within schema deep) s.kind s.fields) (slice_get schema.structs number) false

-- A struct has a finite value.
abbrev pub HasFiniteValue : PlainSchema → ℕ → Type 0
HasFiniteValue schema number = (deep : ℕ) × (has_value_within schema deep number ≡ true)
