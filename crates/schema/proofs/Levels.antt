-- What stands in front in a type's name is, but for four, what stands in front in its tags.
use Rattle.std.proofs.Common.{◌≡◌, ℕ, refl, sym, subst, ◌∙◌}
use Rattle.schema.specs.declared.types.TypeDesc as type
use Rattle.schema.specs.declared.types.TypeDesc.{TypeDesc}
use Rattle.schema.specs.declared.types.TypeDesc.TheFolds.{map-TypeDesc, fold_out-TypeDesc}
use Rattle.schema.specs.declared.types.TypeDesc.TheOpen.{TypeDesc-F}
use Rattle.schema.specs.declared.types.TypeDesc.TheOpen as layer
use Rattle.schema.specs.declared.types.TypeDesc.TheViews.{out-TypeDesc, roll-TypeDesc, roll-out-TypeDesc, rolls-Text, rolls-Binary, rolls-Enum, rolls-Struct}
use Rattle.schema.specs.PlainKind.{PlainKind, kind_of, kind_step}
use Rattle.schema.specs.PlainSchema.{PlainSchema}
use Rattle.schema.specs.Inner.{name_front, tags_front}

module _ (s : PlainSchema) (x : TypeDesc) (no_text : x ≡ type.Text → ⊥) (no_binary : x ≡ type.Binary → ⊥)
    (no_enum : (n : ℕ) → x ≡ type.Enum n → ⊥) (no_struct : (n : ℕ) → x ≡ type.Struct n → ⊥) where
  -- one level of a type, with the kinds of what stands below it
  abbrev level : TypeDesc-F TypeDesc → PlainKind
  level o = kind_step (map-TypeDesc TypeDesc PlainKind kind_of o)

  by_level : (o : TypeDesc-F TypeDesc) → roll-TypeDesc o ≡ x → tags_front (level o) ≡ name_front s (level o)
  by_level layer.Bool is = refl
  by_level layer.I8 is = refl
  by_level layer.I16 is = refl
  by_level layer.I32 is = refl
  by_level layer.I64 is = refl
  by_level layer.Double is = refl
  by_level layer.Text is = absurd (no_text (sym is ∙ rolls-Text))
  by_level layer.Binary is = absurd (no_binary (sym is ∙ rolls-Binary))
  by_level layer.Uuid is = refl
  by_level (layer.Enum n) is = absurd (no_enum n (sym is ∙ rolls-Enum n))
  by_level (layer.Struct n) is = absurd (no_struct n (sym is ∙ rolls-Struct n))
  by_level (layer.Map key value) is = refl
  by_level (layer.Set member) is = refl
  by_level (layer.List element) is = refl

  pub same_front : tags_front (kind_of x) ≡ name_front s (kind_of x)
  same_front = subst (λ k. tags_front k ≡ name_front s k) (sym (fold_out-TypeDesc PlainKind kind_step x)) (by_level (out-TypeDesc x) (roll-out-TypeDesc x))
