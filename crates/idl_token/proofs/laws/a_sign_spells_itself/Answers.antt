use Rattle.idl_token.proofs.Spellings.{sign}
use Rattle.idl_token.proofs.laws.a_sign_spells_itself.Goals as goal

pub returns : goal.returns
returns c = sign
