use Rattle.idl_check.proofs.Soundness.{sound}
use Rattle.idl_check.proofs.sound_laws.a_schema_is_sound.Goals as goal

pub returns : goal.returns
returns c = λ program schema texts is.
    sound program schema texts is (λ s made partial_sound. c.values_may_be_written.ensures.given s made partial_sound.structs)
