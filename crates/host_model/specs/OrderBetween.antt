-- The order between connections, as far as the tape shows real time: a call comes after every call whose reply was already being sent when its own frame
-- was not yet whole.
use Rattle.std.specs.Prelude.{◌≡◌, ℕ, ◌<◌, false, Some, List, ◌++◌, length, take, slice_get}
use Rattle.std.specs.List.{flat_map}
use Rattle.streams.specs.declared.marks.Mark.{Mark}
use Rattle.host_model.specs.Frames.{Frames, ArePayloads, frame}
use Rattle.host_model.specs.Marks.{marks_of, input, output}
use Rattle.host_model.specs.Journal.{JournalEntry, entries_of}
use Rattle.host_model.specs.DeskRules.{DeskRules}
use Rattle.host_model.specs.Conversation.{sent}

-- The first byte of the reply to e has been written at this point of the tape: it is the byte behind the replies to the frames before it.
pub record HasBegun {C A : Type 0} (d : DeskRules C A) (journal : List (JournalEntry C A)) (front : List Mark) (e : JournalEntry C A) : Type 0 where
  pub payloads : List (List ℕ)
  pub rest : List ℕ
  pub frames : Frames d.max (input (marks_of e.key.c front)) payloads rest
  pub among : e.key.i < length payloads
  pub loud : d.silent e.call ≡ false
  pub begun : length (sent d (entries_of e.key.c journal) 0 (take e.key.i payloads)) < length (output (marks_of e.key.c front))

-- the frame of f has been read whole at this point of the tape
pub record IsWhole {C A : Type 0} (d : DeskRules C A) (front : List Mark) (f : JournalEntry C A) : Type 0 where
  pub payloads : List (List ℕ)
  pub more : List ℕ
  pub bytes : input (marks_of f.key.c front) ≡ flat_map frame payloads ++ more
  pub each : ArePayloads d.max payloads
  pub among : f.key.i < length payloads

-- Wherever at some point of the tape the reply to e has begun and the frame of f isn't whole, e stands before f in the journal, at places x and y.
abbrev pub InOrder : {C A : Type 0} → DeskRules C A → List Mark → List (JournalEntry C A) → Type 0
InOrder {C} {A} d tape journal =
    (front back : List Mark) → tape ≡ front ++ back → (x y : ℕ) (e f : JournalEntry C A) → slice_get journal x ≡ Some e → slice_get journal y ≡ Some f
    → HasBegun d journal front e → (IsWhole d front f → ⊥) → x < y
