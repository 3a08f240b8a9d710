-- What notes stand for.
use Rattle.std.specs.Prelude.{ℕ, Bool, true, false, List, [], ◌∷◌, map}
use Rattle.std.specs.List.{concat}
use Rattle.streams.specs.declared.marks.Mark.{Mark}
use Rattle.streams.specs.declared.marks.Mark.TheVariants as marks
use Rattle.told_links.specs.declared.note.Note.{Note}
use Rattle.told_links.specs.declared.note.Note.TheVariants as notes

-- the mark of a note
abbrev pub mark_noted : Note → Mark
mark_noted (notes.Opened c) = marks.Opened c
mark_noted (notes.Read c bytes) = marks.Read c bytes
mark_noted (notes.Ended c) = marks.Ended c
mark_noted (notes.Wrote c bytes) = marks.Wrote c bytes
mark_noted (notes.ReadFailed c) = marks.ReadFailed c
mark_noted (notes.WriteFailed c) = marks.WriteFailed c
mark_noted (notes.Closed c) = marks.Closed c

-- the marks of these notes
abbrev pub marks_noted : List Note → List Mark
marks_noted notes = map mark_noted notes

-- the bytes that were noted piece by piece, one behind another
abbrev pub bytes_noted : List (List ℕ) → List ℕ
bytes_noted pieces = concat pieces

-- whether the end was noted
abbrev pub end_noted : List (Unit {0}) → Bool
end_noted [] = false
end_noted (end ∷ ends) = true
