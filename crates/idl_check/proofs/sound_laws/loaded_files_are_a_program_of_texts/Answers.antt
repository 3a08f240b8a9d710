use Rattle.idl_check.proofs.TextPrograms.{program_of_texts}
use Rattle.idl_check.proofs.sound_laws.loaded_files_are_a_program_of_texts.Goals as goal

pub returns : goal.returns
returns c = program_of_texts (record { kinds = c.each_token_is_of_its_kind.ensures; order = c.tokens_stand_in_order.ensures })
