use Rattle.idl_token.proofs.WholeTokens.{kinds}
use Rattle.idl_token.proofs.each_token_is_of_its_kind.Goals as goal

pub returns : goal.returns
returns c = kinds
