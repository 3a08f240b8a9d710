use Rattle.idl_check.proofs.ShortValues.{gives_short}
use Rattle.idl_check.proofs.sound_laws.a_program_of_texts_gives_short_literals.Goals as goal

pub returns : goal.returns
returns c = gives_short
