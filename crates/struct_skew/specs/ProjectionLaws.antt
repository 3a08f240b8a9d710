-- What the faults of a projection name.
use Rattle.std.specs.Prelude.{◌≡◌, ⊤, ℕ, ℤ, MatchOption}
use Rattle.schema.specs.declared.types.FieldNeed.TheVariants.{Required}
use Rattle.schema.specs.declared.types.FieldsKind.TheVariants.{Union}
use Rattle.schema.specs.LookUp.{field_at}
use Rattle.schema.specs.PlainSchema.{PlainField, PlainSchema}
use Rattle.schema.specs.Sound.{IsStructOf}
use Rattle.struct_skew.specs.declared.fault.SkewFault.{SkewFault}
use Rattle.struct_skew.specs.declared.fault.SkewFault.TheVariants.{Missing, UnionFields}

-- the struct at a number declares a field with this id, which has to be there
abbrev pub IsDeclaredRequired : PlainSchema → ℕ → ℤ → Type 0
IsDeclaredRequired s which id = MatchOption (field_at s which id) ⊥ (λ (f : PlainField). f.need ≡ Required)

-- the field that is missing is declared, and what has none or several fields is a union
abbrev pub NamesDeclared : PlainSchema → SkewFault → Type 0
NamesDeclared s (Missing which id) = IsDeclaredRequired s which id
NamesDeclared s (UnionFields which) = IsStructOf s Union which
NamesDeclared s _ = ⊤
