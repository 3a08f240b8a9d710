use Rattle.stream_model.proofs.Whole.{whole_is_message, message_is_whole}
use Rattle.stream_model.proofs.Splitting.{no_message_behind}
use Rattle.stream_model.proofs.laws.whole_messages_stand_in_front.Goals as goal

pub returns-clause-found : goal.returns-clause-found
returns-clause-found c = whole_is_message

pub returns-clause-only : goal.returns-clause-only
returns-clause-only c = message_is_whole

pub returns-clause-none : goal.returns-clause-none
returns-clause-none c = no_message_behind
