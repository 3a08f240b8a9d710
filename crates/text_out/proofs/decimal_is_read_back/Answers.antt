use Rattle.text_out.proofs.DecimalLemmas.{only_reading}
use Rattle.text_out.proofs.decimal_is_read_back.Goals as goal

pub returns : goal.returns
returns c = only_reading
