-- Raw fields that are taken out of where they stand, as choices name them.
use Rattle.std.specs.Prelude.{◌≡◌, ⊤, IfSome, ℕ, ℤ, pos, ◌<◌, false, List, [], ◌∷◌, slice_set, Option, Some, None, option_and_then, Result, Ok}
use Rattle.std.specs.List.{AllByRecursion, slice_get}
use Rattle.thrift_value.specs.declared.value.Value.{Value}
use Rattle.thrift_value.specs.declared.value.Value.TheVariants as values
use Rattle.thrift_value.specs.Tree.{Tree}
use Rattle.schema.specs.declared.types.FieldsKind.{FieldsKind}
use Rattle.schema.specs.PlainSchema.{PlainField, PlainStruct}
use Rattle.struct_skew.specs.declared.fault.SkewFault.{SkewFault}
use Rattle.struct_skew.specs.declared.plan.Choice.{Choice}
use Rattle.struct_skew.specs.Projection.{meaning_of, unsent_value}
use Rattle.struct_skew.specs.Results.{with_value, as_field}

-- the raw field that a choice names, in memory
abbrev pub named_field : List (ℤ × Value) → Option ℕ → Option (ℤ × Value)
named_field sent named = option_and_then (λ i. slice_get sent i) named

-- raw fields of which the one that a choice names was taken out: a bool stands in its place
abbrev pub without_named : List (ℤ × Value) → Option ℕ → List (ℤ × Value)
without_named sent None = sent
without_named sent (Some i) = slice_set sent i (pos 0, values.Bool false)

-- two choices don't name the same raw field
abbrev pub NameApart : Choice → Choice → Type 0
NameApart c d = (i : ℕ) → c.sent ≡ Some i → d.sent ≡ Some i → ⊥

-- no two choices name the same raw field
abbrev pub AreApart : List Choice → Type 0
AreApart [] = ⊤
AreApart (c ∷ cs) = AllByRecursion (NameApart c) cs × AreApart cs

-- the same of choices that name raw fields below a number
abbrev pub AreApartBelow : ℕ → List Choice → Type 0
AreApartBelow n choices = AllByRecursion (λ (c : Choice). IfSome c.sent (λ i. i < n)) choices × AreApart choices

-- the value of a declared field for which this is sent, or nothing
abbrev pub value_if_sent : List PlainStruct → ℕ → FieldsKind → PlainField → Option Tree → Result (Option Tree) SkewFault
value_if_sent structs which kind f (Some value) = with_value Some (meaning_of structs value f.kind)
value_if_sent structs which kind f None = unsent_value which kind f

-- the same with the field's id; none where no field is declared
abbrev pub field_if_sent : List PlainStruct → ℕ → FieldsKind → Option PlainField → Option Tree → Result (Option (ℤ × Tree)) SkewFault
field_if_sent structs which kind (Some f) sent = as_field f.id (value_if_sent structs which kind f sent)
field_if_sent structs which kind None sent = Ok None
