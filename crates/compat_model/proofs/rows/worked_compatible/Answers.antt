use Rattle.std.proofs.Common.{[], ◌∷◌, refl}
use Rattle.schema.specs.declared.types.FieldNeed.TheVariants.{Default, Optional}
use Rattle.schema.specs.declared.types.FieldsKind.TheVariants as of_kind
use Rattle.schema.specs.PlainKind.{kind_i32, kind_struct}
use Rattle.compat_model.specs.Worked.{first_struct, lone_struct, worked_change, worked_field}
use Rattle.compat_model.proofs.SteadyRounds.{steady_rounds}
use Rattle.compat_model.proofs.rows.worked_compatible.Goals as goal

pub returns : goal.returns
returns c = record {
  field_more =
      steady_rounds (worked_change first_struct (lone_struct of_kind.Struct (worked_field 1 Default kind_i32 ∷ (worked_field 2 Optional kind_i32 ∷ [])))) refl refl refl refl;
  holds_itself =
      steady_rounds
      (worked_change (lone_struct of_kind.Struct (worked_field 1 Optional (kind_struct 0) ∷ []))
      (lone_struct of_kind.Struct (worked_field 1 Optional (kind_struct 0) ∷ (worked_field 2 Optional kind_i32 ∷ []))))
      refl refl refl refl;
}
