use Rattle.stream_model.proofs.Settling.{wanted_within, wanted_is_behind}
use Rattle.stream_model.proofs.laws.wanted_bytes_belong_to_the_message.Goals as goal

pub returns-clause-within : goal.returns-clause-within
returns-clause-within c = wanted_within

pub returns-clause-behind : goal.returns-clause-behind
returns-clause-behind c = wanted_is_behind
