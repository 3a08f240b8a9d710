use Rattle.idl_token.proofs.Spellings.{spelled_tokens}
use Rattle.idl_token.proofs.laws.a_text_has_the_tokens_that_it_spells.Goals as goal

pub returns : goal.returns
returns c = spelled_tokens
