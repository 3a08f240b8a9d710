use Rattle.idl_token.proofs.IntTokens.{small_token}
use Rattle.idl_token.proofs.an_integer_has_a_place_in_64_bits.Goals as goal

pub returns : goal.returns
returns c = small_token
