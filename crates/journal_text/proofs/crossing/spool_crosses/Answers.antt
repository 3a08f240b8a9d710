use denote.Param.Send.{sendable}
use Rattle.journal_text.proofs.Sent.{spool_journal_send}
use Rattle.journal_text.proofs.crossing.spool_crosses.Goals as goal

pub may_be_sent-requires-send-T : goal.may_be_sent-requires-send-T
may_be_sent-requires-send-T g c κs within = search (sendable, spool_journal_send)
