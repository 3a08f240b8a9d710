use Rattle.idl_token.proofs.Spellings.{joined}
use Rattle.idl_token.proofs.laws.joined_texts_spell_the_tokens_of_both.Goals as goal

pub returns : goal.returns
returns c = joined
