use Rattle.client_law.proofs.Asked.{asked_is_decided}
use Rattle.client_law.proofs.laws.what_is_asked_is_decided.Goals as goal

pub returns : goal.returns
returns c =
    asked_is_decided c.heads_are_read_back.ensures c.written_is_read.ensures c.written_is_read-2.ensures c.tidy_value_is_well_tagged.ensures
