-- Entries in segments, and what is left of them where a sink takes their lines.
use Rattle.std.specs.Prelude.{◌≡◌, ℕ, ◌+◌, ◌*◌, ◌^◌, ◌<◌, ◌≤◌, List, [], ◌∷◌, ◌++◌, length, take, drop, Option}
use Rattle.std.specs.List.{AllByRecursion}
use Rattle.streams.specs.Content.{told_more}
use Rattle.host_model.specs.Report.{journal_lines}
use Rattle.call_rules.specs.Entries.{CallEntry}
use Rattle.journal_text.specs.EntryText.{entry_text}
use Rattle.journal_text.specs.JournalStates.{IsTakenShort}

-- lists, one behind the other
abbrev pub chained : {X : Type 0} → List (List X) → List X
chained [] = []
chained (xs ∷ more) = xs ++ chained more

-- how many entries a segment has room for
abbrev pub segment_room : ℕ
segment_room = 1024

-- a segment that is full
abbrev pub IsFull : List CallEntry → Type 0
IsFull entries = length entries ≡ segment_room

-- Behind full segments stands the last one, with room for so many more, or none is held. All entries are counted, and the count has room for those to come.
pub record AreSegments (full : List (List CallEntry)) (last : List CallEntry) (free capacity count : ℕ) : Type 0 where
  pub whole : AllByRecursion IsFull full
  pub held : 0 < length last + free → length last + free ≡ segment_room
  pub room : length last + free ≤ capacity
  pub counted : count ≡ length (chained full ++ last)
  pub bound : count + free < 2 ^ 64

-- A sink that had taken `before` has taken the lines of the first segments, and a beginning of the next one's that lacks some of it: those entries
-- are left whose segments it didn't take whole.
pub record IsSpooledInPart (before now : Option (List ℕ)) (entries left : List CallEntry) : Type 0 where
  pub segments : ℕ
  pub left_are : left ≡ drop (segment_room * segments) entries
  pub part : IsTakenShort (told_more before (journal_lines entry_text (take (segment_room * segments) entries))) now (journal_lines entry_text (take segment_room left))
