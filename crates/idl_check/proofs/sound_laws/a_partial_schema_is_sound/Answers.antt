use Rattle.idl_check.proofs.Soundness.{partial_sound}
use Rattle.idl_check.proofs.sound_laws.a_partial_schema_is_sound.Goals as goal

pub returns : goal.returns
returns c = partial_sound
