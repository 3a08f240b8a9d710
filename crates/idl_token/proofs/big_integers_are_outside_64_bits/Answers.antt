use Rattle.idl_token.proofs.Values.{small_ints}
use Rattle.idl_token.proofs.big_integers_are_outside_64_bits.Goals as goal

pub returns : goal.returns
returns c = small_ints
