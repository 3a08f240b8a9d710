-- The tape: what each connection was seen to do, in order.
use Rattle.std.specs.Prelude.{◌≡◌, ℕ, ◌==◌, List, [], ◌∷◌, ◌++◌, filter}
use Rattle.std.specs.List.{flat_map, AllByRecursion}
use Rattle.streams.specs.declared.marks.Mark.{Mark}
use Rattle.streams.specs.declared.marks.Mark.TheVariants.{Opened, Read, Ended, Wrote, ReadFailed, WriteFailed, Closed}
use Rattle.host_model.specs.declared.cause.EndCause.{EndCause}
use Rattle.host_model.specs.declared.cause.EndCause.TheVariants.{End, Cut, SizeFault, Envelope, ReadFault, WriteFault, NoMemory, Stopped}

-- the connection that a mark is of
abbrev pub connection_of : Mark → ℕ
connection_of (Opened c) = c
connection_of (Read c bytes) = c
connection_of (Ended c) = c
connection_of (Wrote c bytes) = c
connection_of (ReadFailed c) = c
connection_of (WriteFailed c) = c
connection_of (Closed c) = c

-- the marks of one connection
abbrev pub marks_of : ℕ → List Mark → List Mark
marks_of c tape = filter (λ mark. connection_of mark == c) tape

-- the bytes that a mark says were read
abbrev pub read_by : Mark → List ℕ
read_by (Read c bytes) = bytes
read_by _ = []

-- the bytes that a mark says were written
abbrev pub written_by : Mark → List ℕ
written_by (Wrote c bytes) = bytes
written_by _ = []

-- all bytes that a connection's marks say were read
abbrev pub input : List Mark → List ℕ
input marks = flat_map read_by marks

-- all bytes that they say were written
abbrev pub output : List Mark → List ℕ
output marks = flat_map written_by marks

-- a mark of bytes that were read or written
abbrev pub IsTransfer : Mark → Type 0
IsTransfer (Read c bytes) = Unit {0}
IsTransfer (Wrote c bytes) = Unit {0}
IsTransfer _ = ⊥

-- the last marks of a connection that ends by this cause
abbrev pub ending : ℕ → EndCause → List Mark
ending c End = Ended c ∷ Closed c ∷ []
ending c Cut = Ended c ∷ Closed c ∷ []
ending c ReadFault = ReadFailed c ∷ Closed c ∷ []
ending c WriteFault = WriteFailed c ∷ Closed c ∷ []
ending c (SizeFault size) = Closed c ∷ []
ending c (Envelope fault) = Closed c ∷ []
ending c NoMemory = Closed c ∷ []
ending c Stopped = Closed c ∷ []

-- a connection's marks: its opening, bytes read and written, and the last marks of its cause
pub record Marks (c : ℕ) (marks : List Mark) (cause : EndCause) : Type 0 where
  pub transfers : List Mark
  pub shape : marks ≡ Opened c ∷ (transfers ++ ending c cause)
  pub only : AllByRecursion IsTransfer transfers
