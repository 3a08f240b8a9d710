-- How much a loop lends to a read, and offers to a write: what is missing, and all that is left.
use Rattle.std.specs.Prelude.{◌≡◌, ℕ, ◌+◌, min, Some, List, ◌∷◌, ◌++◌, length, slice_get}
use Rattle.streams.specs.declared.marks.Mark.{Mark}
use Rattle.streams.specs.declared.marks.Mark.TheVariants.{Read, Wrote}
use Rattle.host_model.specs.Frames.{Frames}
use Rattle.host_model.specs.Marks.{marks_of, input, output}
use Rattle.host_model.specs.Journal.{JournalEntry, entries_of}
use Rattle.host_model.specs.DeskRules.{DeskRules}
use Rattle.host_model.specs.Conversation.{sent}
use Rattle.conn_state.specs.Phase.{most_read}
use Rattle.machine_model.specs.OpenAtFronts.{marks_counted}
use Rattle.loop_conns.specs.Woven.{missing_of}

-- one, where a mark tells of bytes that were read or written
abbrev pub transfer_of : Mark → ℕ
transfer_of (Read c bytes) = 1
transfer_of (Wrote c bytes) = 1
transfer_of _ = 0

module _ {C A : Type 0} (d : DeskRules C A) (journal : List (JournalEntry C A)) where
  -- A read of connection c after these marks was lent as much as was missing of the size or the frame under way, or 65,536 bytes where more was.
  abbrev pub IsLentWhatIsMissing : List Mark → ℕ → ℕ → Type 0
  IsLentWhatIsMissing front c lent =
      (payloads : List (List ℕ)) (rest : List ℕ) → Frames d.max (input (marks_of c front)) payloads rest → lent ≡ min (missing_of rest) most_read

  -- A write on connection c after these marks was offered all that was left of its reply.
  abbrev pub OffersWhatIsLeft : List Mark → ℕ → ℕ → Type 0
  OffersWhatIsLeft front c offered =
      (payloads : List (List ℕ)) (rest : List ℕ) → Frames d.max (input (marks_of c front)) payloads rest
      → length (output (marks_of c front)) + offered ≡ length (sent d (entries_of c journal) 0 payloads)

  -- The length that was lent or offered in the call which made this mark, after these marks, is right.
  abbrev pub LengthIsRight : List Mark → Mark → ℕ → Type 0
  LengthIsRight front (Read c bytes) lent = IsLentWhatIsMissing front c lent
  LengthIsRight front (Wrote c bytes) offered = OffersWhatIsLeft front c offered
  LengthIsRight _ _ _ = Unit {0}

  -- There is a length for each mark of bytes, in order, and each is right.
  pub record AreLengths (tape : List Mark) (lengths : List ℕ) : Type 0 where
    pub count : length lengths ≡ marks_counted transfer_of tape
    pub each : (front back : List Mark) (mark : Mark) (lent : ℕ) → tape ≡ front ++ mark ∷ back → slice_get lengths (marks_counted transfer_of front) ≡ Some lent
        → LengthIsRight front mark lent
