-- A mark whose bytes are lent.
use Rattle.std.specs.Prelude.{ℕ, List, []}
use Rattle.streams.specs.declared.marks.Mark.{Mark}
use Rattle.streams.specs.declared.marks.Mark.TheVariants.{Opened, Read, Ended, Wrote, ReadFailed, WriteFailed, Closed}
use Rattle.streams.specs.declared.mark_at.MarkAt.{MarkAt}
use Rattle.streams.specs.declared.mark_at.MarkAt.TheVariants as lent

-- the mark that it is
abbrev pub lent_mark : MarkAt → Mark
lent_mark (lent.Opened c) = Opened c
lent_mark (lent.Read c bytes) = Read c bytes.now
lent_mark (lent.Ended c) = Ended c
lent_mark (lent.Wrote c bytes) = Wrote c bytes.now
lent_mark (lent.ReadFailed c) = ReadFailed c
lent_mark (lent.WriteFailed c) = WriteFailed c
lent_mark (lent.Closed c) = Closed c

-- its bytes
abbrev pub lent_bytes : MarkAt → List ℕ
lent_bytes (lent.Read c bytes) = bytes.now
lent_bytes (lent.Wrote c bytes) = bytes.now
lent_bytes _ = []
