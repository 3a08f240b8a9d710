-- The report of a run: its tape, its journal, and what each connection was sent and ended by.
use Rattle.std.specs.Prelude.{ℕ, suc, List, [], ◌∷◌, ◌++◌, length, codes}
use Rattle.std.specs.List.{flat_map}
use Rattle.std.specs.Int.{w32, to_be_bytes}
use Rattle.streams.specs.declared.outcomes.EnvelopeFault.{EnvelopeFault}
use Rattle.streams.specs.declared.outcomes.EnvelopeFault.TheVariants.{Short, Version, NameSize, LongVarint, MessageType}
use Rattle.streams.specs.declared.marks.Mark.{Mark}
use Rattle.streams.specs.declared.marks.Mark.TheVariants.{Opened, Read, Ended, Wrote, ReadFailed, WriteFailed, Closed}
use Rattle.text_out.specs.Decimal.{natural_of, decimal_of}
use Rattle.text_out.specs.Hex.{hex_of}
use Rattle.text_out.specs.Line.{line_of}
use Rattle.host_model.specs.declared.cause.EndCause.{EndCause}
use Rattle.host_model.specs.declared.cause.EndCause.TheVariants.{End, Cut, SizeFault, Envelope, ReadFault, WriteFault, NoMemory, Stopped}
use Rattle.host_model.specs.Marks.{marks_of, output}
use Rattle.host_model.specs.Journal.{JournalEntry}

-- the byte between two words
abbrev pub blank : ℕ
blank = 32

-- the byte that stands where there are no bytes
abbrev pub dash : ℕ
dash = 45

-- a word, a blank and a number
abbrev pub numbered : List ℕ → ℕ → List ℕ
numbered word n = word ++ blank ∷ natural_of n

-- a mark, where reads and writes have the number of their bytes
abbrev pub mark_text : Mark → List ℕ
mark_text (Opened c) = numbered (codes "tape open") c
mark_text (Read c bytes) = numbered (numbered (codes "tape read") c) (length bytes)
mark_text (Ended c) = numbered (codes "tape end") c
mark_text (Wrote c bytes) = numbered (numbered (codes "tape wrote") c) (length bytes)
mark_text (ReadFailed c) = numbered (codes "tape readfail") c
mark_text (WriteFailed c) = numbered (codes "tape writefail") c
mark_text (Closed c) = numbered (codes "tape close") c

-- why a head is refused; a version is the eight digits of its four bytes
abbrev pub fault_text : EnvelopeFault → List ℕ
fault_text Short = codes "Short"
fault_text (Version v) = codes "Version " ++ hex_of (to_be_bytes w32 v)
fault_text NameSize = codes "NameSize"
fault_text LongVarint = codes "LongVarint"
fault_text (MessageType n) = numbered (codes "MessageType") n

-- why a connection ended
abbrev pub cause_text : EndCause → List ℕ
cause_text End = codes "End"
cause_text Cut = codes "Cut"
cause_text (SizeFault z) = codes "SizeFault " ++ decimal_of z
cause_text (Envelope fault) = codes "Envelope " ++ fault_text fault
cause_text ReadFault = codes "ReadFault"
cause_text WriteFault = codes "WriteFault"
cause_text NoMemory = codes "NoMemory"
cause_text Stopped = codes "Stopped"

-- bytes in hexadecimal, or a dash where there are none
abbrev pub hex_or_dash : List ℕ → List ℕ
hex_or_dash [] = dash ∷ []
hex_or_dash (b ∷ bytes) = hex_of (b ∷ bytes)

-- a connection, its cause, and all bytes that were written to it
abbrev pub end_text : ℕ → EndCause → List ℕ → List ℕ
end_text c cause out = numbered (codes "conn") c ++ blank ∷ cause_text cause ++ blank ∷ hex_or_dash out

-- the lines of the connections from number c on
abbrev pub end_lines : List Mark → ℕ → List EndCause → List ℕ
end_lines tape c [] = []
end_lines tape c (cause ∷ causes) = line_of (end_text c cause (output (marks_of c tape))) ++ end_lines tape (suc c) causes

-- the lines of the tape
abbrev pub tape_lines : List Mark → List ℕ
tape_lines tape = flat_map (λ mark. line_of (mark_text mark)) tape

-- the lines of the journal, by the text of an entry
abbrev pub journal_lines : {C A : Type 0} → (JournalEntry C A → List ℕ) → List (JournalEntry C A) → List ℕ
journal_lines entry_text journal = flat_map (λ e. line_of (entry_text e)) journal

-- the report: the tape, the journal, a line for each connection, and the number of calls
abbrev pub report : {C A : Type 0} → (JournalEntry C A → List ℕ) → List Mark → List (JournalEntry C A) → List EndCause → List ℕ
report entry_text tape journal causes =
    tape_lines tape ++ journal_lines entry_text journal ++ end_lines tape 0 causes ++ line_of (numbered (codes "calls") (length journal))
