use Rattle.envelope.proofs.ReplyHeads.{reply_read_back}
use Rattle.envelope.proofs.laws.reply_heads_are_read_back.Goals as goal

pub returns : goal.returns
returns c = reply_read_back
