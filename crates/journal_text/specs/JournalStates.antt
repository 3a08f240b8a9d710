-- What the two kinds of journal stand for.
use Rattle.std.specs.Prelude.{◌≡◌, ◌≢◌, ℕ, ◌-◌, ◌^◌, Bool, false, List, [], length, min, Option, refl}
use Rattle.std.specs.Coded.{Coded, code_by, coded×, coded_ℕ, coded_bool, coded_list}
use Rattle.streams.specs.Content.{told_more}
use Rattle.streams.specs.Taken.{IsTakenBut}
use Rattle.host_model.specs.Report.{journal_lines}
use Rattle.call_rules.specs.Entries.{CallEntry, call_entry_code}
use Rattle.journal_text.specs.EntryText.{entry_text}

-- a list's entries, and for how many more it has room
pub record ListedEntries : Type 0 where
  pub entries : List CallEntry
  pub room : ℕ

-- it is told by both
abbrev pub listed_entries_code : Coded ListedEntries
listed_entries_code =
    code_by (List CallEntry × ℕ) (coded× (coded_list call_entry_code) coded_ℕ)
    (λ s. (s.entries, s.room)) (λ p. record { entries = p.0; room = p.1 }) (λ _. refl)

-- a sink's journal: the sink, the sink as it was handed in, the entries, and whether an append failed
pub record WrittenEntries (K : Type 0) : Type 0 where
  pub sink : K
  pub opening : K
  pub entries : List CallEntry
  pub torn : Bool

-- it is told by these four
abbrev pub written_entries_code : {K : Type 0} → Coded K → Coded (WrittenEntries K)
written_entries_code {K} sink_code =
    code_by (K × (K × (List CallEntry × Bool))) (coded× sink_code (coded× sink_code (coded× (coded_list call_entry_code) coded_bool)))
    (λ s. (s.sink, (s.opening, (s.entries, s.torn))))
    (λ p. record { sink = p.0; opening = p.1.0; entries = p.1.1.0; torn = p.1.1.1 })
    (λ _. refl)

-- how many entries there are, as a count of 64 bits that stands still at its end
abbrev pub appended_count : List CallEntry → ℕ
appended_count entries = min (length entries) (2 ^ 64 - 1)

-- a sink that had taken `before` has taken the lines of the entries behind it
abbrev pub HasLines : Option (List ℕ) → Option (List ℕ) → List CallEntry → Type 0
HasLines before now entries = now ≡ told_more before (journal_lines entry_text entries)

-- the entries are counted, and until an append fails nothing is held back of their lines
pub record IsWritten (before now : Option (List ℕ)) (held : List ℕ) (entries : List CallEntry) (count : ℕ) (torn : Bool) : Type 0 where
  pub counted : count ≡ appended_count entries
  pub passed_on : torn ≡ false → held ≡ []
  pub lines : torn ≡ false → HasLines before now entries

-- a sink took a beginning of this text, and some of it is lost
pub record IsTakenShort (before now : Option (List ℕ)) (text : List ℕ) : Type 0 where
  pub lost : List ℕ
  pub some : lost ≢ []
  pub taken : IsTakenBut before now text lost

-- what a sink has taken is a beginning of what it had taken before, and this text behind it
pub record IsCutShort (before now : Option (List ℕ)) (text : List ℕ) : Type 0 where
  pub lost : List ℕ
  pub rest : told_more now lost ≡ told_more before text
