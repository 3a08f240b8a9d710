use Rattle.idl_include.specs.DeclaredIn.{field_in}
use Rattle.check_passes.proofs.Thrown.{not_told}
use Rattle.check_passes.proofs.thrown_tests.ThrownOthers.is_other.Goals as goal

pub returns : goal.returns
unfolding field_in
returns c program files structs aliases = not_told c.in_ok-exception.exception (c.in_ok-exception.ensures program files structs aliases)
