use Rattle.text_out.proofs.DecimalLemmas.{plain_natural}
use Rattle.text_out.proofs.decimal_is_plain.Goals as goal

pub returns : goal.returns
returns c = plain_natural
