use Rattle.struct_skew.proofs.Projected.{projection_names}
use Rattle.struct_skew.proofs.laws.a_fault_names_what_is_declared.Goals as goal

pub returns : goal.returns
returns c = λ s which raw fault sound within is. projection_names s sound which within raw is fault
