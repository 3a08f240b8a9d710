-- A file's journal may be sent to another thread, where its sink may.
use denote.RattleType.{RattleType}
use denote.Param.Send.{IsSend, sendable}
use Rattle.streams.specs.declared.streams.Sink.{Ghosts}
use Rattle.journal_text.proofs.Sent.{spool_journal_send}
use Rattle.port_serving.specs.contracts.file_journal.FileJournal as FileJournal

pub file_journal_send : (K : RattleType) (sink : Ghosts K.Denot) → IsSend K → IsSend (FileJournal.the_row K sink)
file_journal_send K sink send = search (sendable, spool_journal_send) depth 12
