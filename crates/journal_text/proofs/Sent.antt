-- A journal may be sent to another thread, where its sink may, since each of its parts may. A search for all of them at once runs out of steps.
use denote.RattleType.{RattleType}
use denote.Param.Send.{IsSend, sendable}
use Rattle.std.proofs.Crossing.{crosses}
use Rattle.thrift_value.proofs.ByteText.TheSendSync.{the_send as text_send}
use Rattle.thrift_value.proofs.tag.Tag.TheSendSync.{the_field_send as tag_send}
use Rattle.thrift_value.specs.contracts.value.Value as Value
use Rattle.thrift_value.proofs.value.Value.TheLaws.TheKnot as values
use Rattle.host_model.proofs.key.Key.TheSendSync.{the_field_send as key_send}
use Rattle.call_rules.specs.contracts.call.Answer as Answer
use Rattle.call_rules.specs.contracts.call.Call as Call
use Rattle.call_rules.specs.contracts.call.Entry as Entry
use Rattle.streams.specs.declared.streams.Sink.{Ghosts}
use Rattle.journal_text.specs.contracts.segment_journal.SegmentJournal as SegmentJournal
use Rattle.journal_text.specs.contracts.sink_journal.SinkJournal as SinkJournal
use Rattle.journal_text.specs.contracts.spool_journal.SpoolJournal as SpoolJournal
use Rattle.lists.proofs.appended.Appended.TheSendSync.{the_send as appended_send}
use Rattle.lists.proofs.noted_bytes.NotedBytes.TheSendSync.{the_send as noted_send}
use Rattle.journal_text.specs.contracts.buffered.Buffered as Buffered

value_send : IsSend (Value.the_field).row
value_send = search (sendable, crosses, values.crosses, text_send, tag_send) depth 14

call_send : IsSend (Call.the_field).row
call_send = search (sendable, text_send, value_send) depth 12

answer_send : IsSend (Answer.the_field).row
answer_send = search (sendable, value_send) depth 12

entry_send : IsSend Entry.the_row
entry_send = search (sendable, key_send, call_send, answer_send) depth 12

buffered_send : (K : RattleType) (sink : Ghosts K.Denot) → IsSend K → IsSend (Buffered.the_row K sink)
buffered_send K sink send = search (sendable, crosses, noted_send, appended_send) depth 16

pub journal_send : (K : RattleType) (sink : Ghosts K.Denot) → IsSend K → IsSend (SinkJournal.the_row K sink)
journal_send K sink send = search (sendable, crosses, entry_send, appended_send, buffered_send) depth 20

pub spool_journal_send : (K : RattleType) (sink : Ghosts K.Denot) → IsSend K → IsSend (SpoolJournal.the_row K sink)
spool_journal_send K sink send = search (sendable, crosses, entry_send, appended_send, buffered_send) depth 20

pub segment_journal_field_send : IsSend (SegmentJournal.the_field).row
segment_journal_field_send = search (sendable, crosses, entry_send) depth 20
