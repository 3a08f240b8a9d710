use Rattle.idl_token.proofs.Spellings.{word}
use Rattle.idl_token.proofs.laws.a_token_spells_itself.Goals as goal

pub returns : goal.returns
returns c = word
