-- The conversation of one unframed connection that has ended: what its messages ask, what it is sent, and what its cause says.
use Rattle.std.specs.Prelude.{◌≡◌, ◌≢◌, ◌≤◌, ◌⊎◌, ℕ, Option, Some, List, [], length, drop}
use Rattle.host_model.specs.declared.cause.EndCause.{EndCause}
use Rattle.host_model.specs.declared.cause.EndCause.TheVariants.{End, Cut, SizeFault, Envelope as Head, ReadFault, WriteFault, NoMemory, Stopped}
use Rattle.host_model.specs.Journal.{JournalEntry}
use Rattle.host_model.specs.DeskRules.{DeskRules, DeskDecision, Close, Silent, Reply, Invoke}
use Rattle.host_model.specs.Conversation.{but_last, Done, sent, IsReplying, IsFinished, AllKeepConnection}
use Rattle.stream_model.specs.declared.cause.StreamCause.{StreamCause}
use Rattle.stream_model.specs.declared.cause.StreamCause.TheVariants.{By, Body, TooLong}
use Rattle.stream_model.specs.declared.fault.StreamFault.{StreamFault}
use Rattle.stream_model.specs.declared.fault.StreamFault.TheVariants.{Envelope, Body as BodyFault, TooLong as LongFault}
use Rattle.stream_model.specs.Messages.{Messages, HasStreamFault, HasNoStreamFault}

-- the cause of a connection, by which it ended as one with frames, and the fault that was read of it: a size that no frame has stands for a fault behind a head
abbrev pub stream_cause : EndCause → Option StreamFault → StreamCause
stream_cause (SizeFault _) (Some (BodyFault fault)) = Body fault
stream_cause (SizeFault _) (Some LongFault) = TooLong
stream_cause cause _ = By cause

-- a reply without the four bytes of its size
abbrev pub unsized : List ℕ → List ℕ
unsized reply = drop 4 reply

abbrev pub unsized_decision : {C : Type 0} → DeskDecision C → DeskDecision C
unsized_decision (Close fault) = Close fault
unsized_decision Silent = Silent
unsized_decision (Reply reply) = Reply (unsized reply)
unsized_decision (Invoke call) = Invoke call

-- the desk as an unframed connection sees it: the same decisions, and replies without their sizes
abbrev pub unframed : {C A : Type 0} → DeskRules C A → DeskRules C A
unframed d = record {
  max = d.max;
  decide = λ message. unsized_decision (d.decide message);
  silent = d.silent;
  reply = λ message answer. unsized (d.reply message answer);
}

-- broken off: the last message's call is done or isn't, and its reply may be written in part
pub record IsStreamBroken {C A : Type 0} (d : DeskRules C A) (messages : List (List ℕ)) (es : List (JournalEntry C A)) (out : List ℕ) : Type 0 where
  pub done : Done d es messages ⊎ ((1 ≤ length messages) × Done d es (but_last messages))
  pub replying : IsReplying d es messages out

-- what holds of the messages, the rest behind them, the entries and the bytes written where a connection ends by this cause
abbrev pub StreamEndsBy : {C A : Type 0} → DeskRules C A → List (List ℕ) → List ℕ → List (JournalEntry C A) → List ℕ → StreamCause → Type 0
StreamEndsBy d ms rest es out (By End) = (rest ≡ []) × IsFinished d es ms out
StreamEndsBy d ms rest es out (By Cut) = (rest ≢ []) × HasNoStreamFault d.max rest × IsFinished d es ms out
StreamEndsBy d ms rest es out (By (SizeFault _)) = ⊥
StreamEndsBy d ms rest es out (By (Head fault)) = HasStreamFault d.max rest (Envelope fault) × IsFinished d es ms out
StreamEndsBy d ms rest es out (Body fault) = HasStreamFault d.max rest (BodyFault fault) × IsFinished d es ms out
StreamEndsBy d ms rest es out TooLong = HasStreamFault d.max rest LongFault × IsFinished d es ms out
StreamEndsBy d ms rest es out (By ReadFault) = HasNoStreamFault d.max rest × IsFinished d es ms out
StreamEndsBy d ms rest es out (By WriteFault) =
    (1 ≤ length ms) × (rest ≡ []) × Done d es ms × IsReplying d es ms out × (out ≢ sent d es 0 ms)
StreamEndsBy d ms rest es out (By NoMemory) = IsStreamBroken d ms es out
StreamEndsBy d ms rest es out (By Stopped) = IsStreamBroken d ms es out

-- The talk of a connection that has ended: its bytes are messages and a rest, no message ends it, and what its cause says holds.
pub record StreamTalk {C A : Type 0} (d : DeskRules C A) (bytes : List ℕ) (es : List (JournalEntry C A)) (out : List ℕ) (cause : StreamCause) : Type 0 where
  pub messages : List (List ℕ)
  pub rest : List ℕ
  pub split : Messages d.max bytes messages rest
  pub open_still : AllKeepConnection d messages
  pub ended : StreamEndsBy (unframed d) messages rest es out cause
