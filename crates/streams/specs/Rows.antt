-- Marks as rows, with the bytes of all of them one behind another.
use Rattle.std.specs.Prelude.{ℕ, ◌+◌, List, [], ◌∷◌, take, drop}
use Rattle.streams.specs.declared.marks.Mark.{Mark}
use Rattle.streams.specs.declared.marks.Mark.TheVariants.{Opened, Read, Ended, Wrote, ReadFailed, WriteFailed, Closed}
use Rattle.streams.specs.declared.mark_row.MarkKind.{MarkKind}
use Rattle.streams.specs.declared.mark_row.MarkKind.TheVariants as kinds
use Rattle.streams.specs.declared.mark_row.MarkRow.{MarkRow}

-- what happened on connection c, with these bytes
abbrev pub marked : MarkKind → ℕ → List ℕ → Mark
marked kinds.Opened c bytes = Opened c
marked kinds.Read c bytes = Read c bytes
marked kinds.Ended c bytes = Ended c
marked kinds.Wrote c bytes = Wrote c bytes
marked kinds.ReadFailed c bytes = ReadFailed c
marked kinds.WriteFailed c bytes = WriteFailed c
marked kinds.Closed c bytes = Closed c

-- the mark of a row with these bytes
abbrev pub mark_of : MarkRow → List ℕ → Mark
mark_of row bytes = marked row.kind row.c bytes

-- the marks of these rows: each has its bytes behind those of the rows before it
abbrev pub marks_in : List MarkRow → List ℕ → List Mark
marks_in [] bytes = []
marks_in (row ∷ rows) bytes = mark_of row (take row.len bytes) ∷ marks_in rows (drop row.len bytes)

-- so many bytes they have together
abbrev pub bytes_owed : List MarkRow → ℕ
bytes_owed [] = 0
bytes_owed (row ∷ rows) = row.len + bytes_owed rows

-- a tape that grows: what happened, how many marks it has room for in all, and how many bytes more
pub record TapeView : Type 0 where
  pub items : List Mark
  pub capacity : ℕ
  pub spare : ℕ
