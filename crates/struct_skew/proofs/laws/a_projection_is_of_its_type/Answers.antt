use Rattle.struct_skew.proofs.Projected.{projection_tidy, projection_typed, projection_sized}
use Rattle.struct_skew.proofs.laws.a_projection_is_of_its_type.Goals as goal

pub returns : goal.returns
returns c = record {
  tidy = λ s which raw value sound within is. projection_tidy s sound which within raw is value;
  typed = λ s which raw value sound within is. projection_typed s sound which within raw is value;
  sizes = λ s which raw value sound within is small. projection_sized s sound which within raw is small value;
}
