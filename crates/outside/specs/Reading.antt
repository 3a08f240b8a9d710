-- What a read of a connection answers and leaves.
use Rattle.std.specs.Prelude.{◌≡◌, ℕ, List, [], ◌∷◌, ◌++◌, length, take, Option, Some, None, IfSome}
use Rattle.streams.specs.declared.marks.Mark.{Mark}
use Rattle.streams.specs.declared.marks.Mark.TheVariants.{Read, Ended, ReadFailed}
use Rattle.streams.specs.Content.{told_before, IsSpent}
use Rattle.outside.specs.declared.answers.Taken.{Taken}
use Rattle.outside.specs.declared.answers.Taken.TheVariants.{Bytes, End, NotYet, Failed, NoMemory}
use Rattle.streams.specs.Told.{told_with}
use Rattle.outside.specs.LinksState.{Arrived, nothing_arrived, LinksState, ChangesOnly}
use Rattle.outside.specs.Faults.{CountsItsFault, MovesWithin, length_lent}

-- the bytes that a read put at the front of what it was lent
abbrev pub bytes_read : List ℕ → Taken → List ℕ
bytes_read into (Bytes count) = take count into
bytes_read into _ = []

-- its mark
abbrev pub marks_of_read : ℕ → List ℕ → Taken → List Mark
marks_of_read c into (Bytes count) = Read c (take count into) ∷ []
marks_of_read c into End = Ended c ∷ []
marks_of_read c into NotYet = []
marks_of_read c into Failed = ReadFailed c ∷ []
marks_of_read c into NoMemory = []

-- what had arrived before these bytes were read
abbrev pub arrived_before : List ℕ → Option Arrived → Option Arrived
arrived_before bytes None = None
arrived_before bytes (Some rest) = Some (record rest { bytes = bytes ++ rest.bytes })

-- it tells nothing of bytes or of their end: it may come where nothing has arrived
abbrev pub IsNoNews : Taken → Type 0
IsNoNews NotYet = Unit {0}
IsNoNews Failed = Unit {0}
IsNoNews NoMemory = Unit {0}
IsNoNews (Bytes count) = ⊥
IsNoNews End = ⊥

-- A read of connection c, to which these bytes were lent, which are so now. Bytes come from the front of what is left, and have arrived; the end comes only
-- where nothing is left; 'not yet' comes only where nothing has arrived, and there no bytes come and no end.
pub record Reads (c : ℕ) (into : List ℕ) (old new : LinksState) (taken : Taken) : Type 0 where
  pub others : ChangesOnly c old new
  pub still_open : new.is_open c ≡ old.is_open c
  pub tape : new.tape ≡ told_with old.tape (marks_of_read c into taken)
  pub lengths : new.lengths ≡ told_with old.lengths (length_lent (length into) taken)
  pub within : MovesWithin (length into) taken
  pub left : old.left c ≡ told_before (bytes_read into taken) (new.left c)
  pub arrived : old.arrived c ≡ arrived_before (bytes_read into taken) (new.arrived c)
  pub ended : taken ≡ End → IsSpent (old.left c)
  pub not_yet : taken ≡ NotYet → IfSome (old.arrived c) (λ told. told ≡ nothing_arrived)
  pub nothing : old.arrived c ≡ Some nothing_arrived → IsNoNews taken
  pub faults : CountsItsFault taken (old.faults c) (new.faults c)
