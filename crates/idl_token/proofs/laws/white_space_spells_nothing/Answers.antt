use Rattle.idl_token.proofs.Spellings.{white}
use Rattle.idl_token.proofs.laws.white_space_spells_nothing.Goals as goal

pub returns : goal.returns
returns c = white
