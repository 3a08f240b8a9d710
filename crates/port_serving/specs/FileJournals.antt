-- Journals whose lines go into a file that was made for them.
use Rattle.std.specs.Prelude.{◌≡◌, ℕ, Bool, true, false, List, [], ◌++◌, Option, Some, IfSome}
use Rattle.streams.specs.Files.{File}
use Rattle.streams.specs.Making.{told_with_file}
use Rattle.host_model.specs.Report.{journal_lines}
use Rattle.call_rules.specs.Entries.{CallEntry}
use Rattle.journal_text.specs.EntryText.{entry_text}
use Rattle.journal_text.specs.Spooled.{with_unwritten}

-- a sink has taken nothing yet, where it tells
abbrev pub IsUnused : Option (List ℕ) → Type 0
IsUnused taken = (bytes : List ℕ) → taken ≡ Some bytes → bytes ≡ []

-- bytes are a beginning of the lines of these entries, and of the one whose append failed, where one did
pub record AreSomeLines (bytes : List ℕ) (entries : List CallEntry) (unwritten : Option CallEntry) : Type 0 where
  pub rest : List ℕ
  pub whole : bytes ++ rest ≡ journal_lines entry_text (with_unwritten entries unwritten)

-- what bytes are to these entries, where lines of them may be lost
abbrev pub AreLinesOf : (lost : Bool) → List ℕ → List CallEntry → (unwritten : Option CallEntry) → Type 0
AreLinesOf false bytes entries unwritten = bytes ≡ journal_lines entry_text entries
AreLinesOf true bytes entries unwritten = AreSomeLines bytes entries unwritten

-- a sink has taken the lines of these entries and nothing else, where it tells; or, where lines are lost, a beginning of them and of the line whose
-- append failed
abbrev pub KeepsLines : Option (List ℕ) → List CallEntry → (unwritten : Option CallEntry) → Bool → Type 0
KeepsLines taken entries unwritten lost = (bytes : List ℕ) → taken ≡ Some bytes → AreLinesOf lost bytes entries unwritten

-- where the files are told, they are those from before, but that the file of this name holds these bytes
abbrev pub HoldsInFile : (before now : Option (List File)) (name : List ℕ) (bytes : List ℕ) → Type 0
HoldsInFile before now name bytes = IfSome now (λ files. told_with_file before name (Some bytes) ≡ Some files)

-- What became of the file of a journal with these entries: it holds their lines and nothing else, or, where lines are lost, a beginning of them and
-- of the line whose append failed; and the other files are as before.
pub record KeepsJournal (before now : Option (List File)) (name : List ℕ) (entries : List CallEntry) (unwritten : Option CallEntry) (lost : Bool) : Type 0 where
  pub bytes : List ℕ
  pub held : HoldsInFile before now name bytes
  pub lines : AreLinesOf lost bytes entries unwritten
