use Rattle.text_out.proofs.HexLemmas.{unhex_of-hex_of}
use Rattle.text_out.proofs.hex_is_read_back.Goals as goal

pub returns : goal.returns
returns c = unhex_of-hex_of
