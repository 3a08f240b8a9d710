-- The turns and the marks of an unframed connection, and the order between connections (as in `host_model`, with messages in place of frames).
use Rattle.std.specs.Prelude.{◌≡◌, ◌≢◌, ⊤, ◌⊎◌, ℕ, ◌<◌, false, Some, List, [], ◌∷◌, ◌++◌, length, take, slice_get}
use Rattle.std.specs.List.{AllByRecursion}
use Rattle.streams.specs.declared.marks.Mark.{Mark}
use Rattle.streams.specs.declared.marks.Mark.TheVariants.{Opened, Ended, Closed}
use Rattle.host_model.specs.declared.cause.EndCause.TheVariants.{NoMemory, Stopped}
use Rattle.host_model.specs.Marks.{marks_of, input, output, ending, IsTransfer}
use Rattle.host_model.specs.Journal.{JournalEntry, entries_of}
use Rattle.host_model.specs.DeskRules.{DeskRules}
use Rattle.host_model.specs.Conversation.{sent, IsReplying}
use Rattle.stream_model.specs.declared.cause.StreamCause.{StreamCause}
use Rattle.stream_model.specs.declared.cause.StreamCause.TheVariants.{By, Body, TooLong}
use Rattle.stream_model.specs.Messages.{Messages, AreMessages, joined_messages}
use Rattle.stream_model.specs.Talk.{unframed}

-- After these marks no reply has gone out before its message was whole, and where bytes of a further message were read all replies are written.
pub record IsStreamInTurn {C A : Type 0} (d : DeskRules C A) (es : List (JournalEntry C A)) (front : List Mark) : Type 0 where
  pub messages : List (List ℕ)
  pub rest : List ℕ
  pub split : Messages d.max (input front) messages rest
  pub replying : IsReplying (unframed d) es messages (output front)
  pub first_sent : rest ≢ [] → output front ≡ sent (unframed d) es 0 messages

-- it is so at each moment of the connection
abbrev pub StreamTurns : {C A : Type 0} → DeskRules C A → List (JournalEntry C A) → List Mark → Type 0
StreamTurns d es marks = (front back : List Mark) → marks ≡ front ++ back → IsStreamInTurn d es front

-- the last marks of a connection that ends by this cause; where it is broken off the end of its input may have been read
abbrev pub IsStreamEnding : ℕ → StreamCause → List Mark → Type 0
IsStreamEnding c (By NoMemory) last = (last ≡ Closed c ∷ []) ⊎ (last ≡ Ended c ∷ Closed c ∷ [])
IsStreamEnding c (By Stopped) last = (last ≡ Closed c ∷ []) ⊎ (last ≡ Ended c ∷ Closed c ∷ [])
IsStreamEnding c (By cause) last = last ≡ ending c cause
IsStreamEnding c (Body _) last = last ≡ Closed c ∷ []
IsStreamEnding c TooLong last = last ≡ Closed c ∷ []

-- a connection's marks: its opening, bytes read and written, and the last marks of its cause
pub record StreamMarks (c : ℕ) (marks : List Mark) (cause : StreamCause) : Type 0 where
  pub transfers : List Mark
  pub last : List Mark
  pub shape : marks ≡ Opened c ∷ (transfers ++ last)
  pub only : AllByRecursion IsTransfer transfers
  pub ending : IsStreamEnding c cause last

-- The first byte of the reply to e has been written at this point of the tape: it is the byte behind the replies to the messages before it.
pub record HasStreamBegun {C A : Type 0} (d : DeskRules C A) (journal : List (JournalEntry C A)) (front : List Mark) (e : JournalEntry C A) : Type 0 where
  pub messages : List (List ℕ)
  pub rest : List ℕ
  pub split : Messages d.max (input (marks_of e.key.c front)) messages rest
  pub among : e.key.i < length messages
  pub loud : d.silent e.call ≡ false
  pub begun : length (sent (unframed d) (entries_of e.key.c journal) 0 (take e.key.i messages)) < length (output (marks_of e.key.c front))

-- the message of f has been read whole at this point of the tape
pub record IsStreamWhole {C A : Type 0} (d : DeskRules C A) (front : List Mark) (f : JournalEntry C A) : Type 0 where
  pub messages : List (List ℕ)
  pub more : List ℕ
  pub bytes : input (marks_of f.key.c front) ≡ joined_messages messages ++ more
  pub each : AreMessages d.max messages
  pub among : f.key.i < length messages

-- Wherever at some point of the tape the reply to e has begun and the message of f isn't whole, e stands before f in the journal, at places x and y.
abbrev pub StreamInOrder : {C A : Type 0} → DeskRules C A → List Mark → List (JournalEntry C A) → Type 0
StreamInOrder {C} {A} d tape journal =
    (front back : List Mark) → tape ≡ front ++ back → (x y : ℕ) (e f : JournalEntry C A) → slice_get journal x ≡ Some e → slice_get journal y ≡ Some f
    → HasStreamBegun d journal front e → (IsStreamWhole d front f → ⊥) → x < y
