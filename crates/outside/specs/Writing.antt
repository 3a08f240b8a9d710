-- What a write on a connection answers and leaves.
use Rattle.std.specs.Prelude.{◌≡◌, ◌≢◌, ℕ, List, [], ◌∷◌, length, take}
use Rattle.streams.specs.declared.marks.Mark.{Mark}
use Rattle.streams.specs.declared.marks.Mark.TheVariants.{Wrote, WriteFailed}
use Rattle.outside.specs.declared.answers.Taken.{Taken}
use Rattle.outside.specs.declared.answers.Taken.TheVariants.{Bytes, End, NotYet, Failed, NoMemory}
use Rattle.streams.specs.Told.{told_with}
use Rattle.outside.specs.LinksState.{LinksState, ChangesOnly}
use Rattle.outside.specs.Faults.{CountsItsFault, MovesWithin, length_lent}

-- the mark of a write to which these bytes were offered
abbrev pub marks_of_write : ℕ → List ℕ → Taken → List Mark
marks_of_write c bytes (Bytes count) = Wrote c (take count bytes) ∷ []
marks_of_write c bytes Failed = WriteFailed c ∷ []
marks_of_write c bytes End = []
marks_of_write c bytes NotYet = []
marks_of_write c bytes NoMemory = []

-- A write on connection c, to which these bytes were offered: it takes some off their front, and never ends.
pub record WritesToConnection (c : ℕ) (bytes : List ℕ) (old new : LinksState) (taken : Taken) : Type 0 where
  pub others : ChangesOnly c old new
  pub still_open : new.is_open c ≡ old.is_open c
  pub tape : new.tape ≡ told_with old.tape (marks_of_write c bytes taken)
  pub lengths : new.lengths ≡ told_with old.lengths (length_lent (length bytes) taken)
  pub within : MovesWithin (length bytes) taken
  pub left : new.left c ≡ old.left c
  pub arrived : new.arrived c ≡ old.arrived c
  pub no_end : taken ≢ End
  pub faults : CountsItsFault taken (old.faults c) (new.faults c)
