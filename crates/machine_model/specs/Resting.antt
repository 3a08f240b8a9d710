-- A moment of rest, at which nothing is under way, and what it tells of the run as a whole.
use Rattle.std.specs.Prelude.{◌≡◌, ℕ, ◌<◌, None, Some, List, [], length, slice_get}
use Rattle.streams.specs.declared.marks.Mark.{Mark}
use Rattle.host_model.specs.Frames.{Frames}
use Rattle.host_model.specs.Marks.{marks_of, input, output}
use Rattle.host_model.specs.Journal.{JournalEntry, entries_of}
use Rattle.host_model.specs.DeskRules.{DeskRules}
use Rattle.host_model.specs.Conversation.{sent}
use Rattle.host_model.specs.OrderBetween.{IsWhole}
use Rattle.machine_model.specs.Loop.{Loop}
use Rattle.machine_model.specs.AtFronts.{IsOpenBehind}

-- each payload of each connection was collected, and nothing is left to write to those that are open
abbrev pub IsAtRest : Loop → Type 0
IsAtRest loop =
    (c : ℕ) → c < loop.count → ((loop.conns c).collected ≡ length (loop.conns c).payloads) × ((loop.conns c).cause ≡ None → (loop.conns c).left ≡ [])

-- These marks are a rest of a run with this journal: each open connection was sent all replies to the payloads that were whole by then, and calls whose
-- frames were whole by then stand before those whose frames weren't.
pub record IsPlaceOfRest {C A : Type 0} (d : DeskRules C A) (journal : List (JournalEntry C A)) (front : List Mark) : Type 0 where
  pub answered : (c : ℕ) → IsOpenBehind c front → (payloads : List (List ℕ)) (rest : List ℕ) → Frames d.max (input (marks_of c front)) payloads rest
      → output (marks_of c front) ≡ sent d (entries_of c journal) 0 payloads
  pub apart : (x y : ℕ) (e f : JournalEntry C A) → slice_get journal x ≡ Some e → slice_get journal y ≡ Some f → IsWhole d front e → (IsWhole d front f → ⊥) → x < y
