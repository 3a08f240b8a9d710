use Rattle.idl_check.proofs.Clear.{clean}
use Rattle.idl_check.proofs.sound_laws.a_faultless_program_is_clean.Goals as goal

pub returns : goal.returns
returns c = clean
