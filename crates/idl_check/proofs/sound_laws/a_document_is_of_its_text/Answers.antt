use Rattle.idl_check.proofs.TextPrograms.{document_of_text}
use Rattle.idl_check.proofs.sound_laws.a_document_is_of_its_text.Goals as goal

pub returns : goal.returns
returns c = document_of_text (record { kinds = c.each_token_is_of_its_kind.ensures; order = c.tokens_stand_in_order.ensures })
