use Rattle.stream_model.proofs.Messages.{message_reads}
use Rattle.stream_model.proofs.laws.messages_are_read.Goals as goal

pub returns : goal.returns
returns c = message_reads
