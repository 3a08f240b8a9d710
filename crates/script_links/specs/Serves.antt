-- What a loop does that serves its links: how much it lends and offers, and how it stands where links rest.
use Rattle.std.specs.Prelude.{◌≡◌, ℕ, true, min, Some, List, [], ◌∷◌, ◌++◌, length, take, slice_get}
use Rattle.streams.specs.declared.marks.Mark.{Mark}
use Rattle.streams.specs.declared.marks.Mark.TheVariants.{Read, Wrote}
use Rattle.streams.specs.declared.rest_place.RestPlace.{RestPlace}
use Rattle.host_model.specs.Frames.{Frames}
use Rattle.host_model.specs.Marks.{marks_of, input, output}
use Rattle.host_model.specs.Journal.{JournalEntry, entries_of}
use Rattle.host_model.specs.DeskRules.{DeskRules}
use Rattle.host_model.specs.Conversation.{sent}
use Rattle.machine_model.specs.Resting.{IsPlaceOfRest}
use Rattle.script_model.specs.Feeding.{Completes}
use Rattle.script_model.specs.RestLines.{IsOverBudget}
use Rattle.script_links.specs.Shows.{lent_behind}

-- after what was read, a read is lent as much as is missing of the size or the payload under way, 65,536 bytes at most
pub record LendsWhatIsMissing (max : ℕ) (read : List ℕ) (lent : ℕ) : Type 0 where
  pub payloads : List (List ℕ)
  pub rest : List ℕ
  pub frames : Frames max read payloads rest
  pub missing : ℕ
  pub completes : Completes max rest missing
  pub smaller : lent ≡ min missing 65536

-- After these marks of a connection with these entries, a write is offered all that is left of what is to be sent by then; these bytes of it are written.
pub record OffersTheRest {C A : Type 0} (d : DeskRules C A) (es : List (JournalEntry C A)) (marks : List Mark) (bytes : List ℕ) (offered : ℕ) : Type 0 where
  pub payloads : List (List ℕ)
  pub rest : List ℕ
  pub frames : Frames d.max (input marks) payloads rest
  pub left : List ℕ
  pub unsent : output marks ++ left ≡ sent d es 0 payloads
  pub all : offered ≡ length left
  pub front : bytes ≡ take (length bytes) left

-- A loop serves links, with this tape, these places of rest and these lengths: each read is lent what is missing, each write offered the rest; where links
-- rest nothing is under way; and where it said that some connection is held, those that are open hold more than the budget.
pub record ServesLinks {C A : Type 0} (d : DeskRules C A) (budget : ℕ) (tape : List Mark) (places : List RestPlace) (lengths : List ℕ) (journal : List (JournalEntry C A)) : Type 0 where
  pub reads : (front back : List Mark) (c : ℕ) (bytes : List ℕ) (lent : ℕ) → tape ≡ front ++ Read c bytes ∷ back → lent_behind lengths front ≡ Some lent
      → LendsWhatIsMissing d.max (input (marks_of c front)) lent
  pub writes : (front back : List Mark) (c : ℕ) (bytes : List ℕ) (offered : ℕ) → tape ≡ front ++ Wrote c bytes ∷ back → lent_behind lengths front ≡ Some offered
      → OffersTheRest d (entries_of c journal) (marks_of c front) bytes offered
  pub rests : (k : ℕ) (at : RestPlace) (front back : List Mark) → slice_get places k ≡ Some at → tape ≡ front ++ back → at.place ≡ length front
      → IsPlaceOfRest d journal front × (at.held ≡ true → IsOverBudget d.max budget front)
