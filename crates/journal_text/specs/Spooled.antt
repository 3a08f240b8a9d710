-- What a journal whose lines stand in a buffer before a sink takes them stands for.
use Rattle.std.specs.Prelude.{◌≡◌, ℕ, Bool, true, false, List, [], ◌∷◌, ◌++◌, Option, None, Some, refl}
use Rattle.std.specs.Coded.{Coded, code_by, coded×, coded_ℕ, coded_bool, coded_list, coded_option}
use Rattle.streams.specs.Content.{told_more}
use Rattle.host_model.specs.Report.{journal_lines}
use Rattle.call_rules.specs.Entries.{CallEntry, call_entry_code}
use Rattle.journal_text.specs.EntryText.{entry_text}
use Rattle.journal_text.specs.JournalStates.{appended_count, IsCutShort}

-- The sink, the sink as it was handed in, the bytes that it hasn't taken yet, the entries, the entry whose append failed, where one did, and whether
-- an append or a finish failed.
pub record SpooledEntries (K : Type 0) : Type 0 where
  pub sink : K
  pub opening : K
  pub held : List ℕ
  pub entries : List CallEntry
  pub unwritten : Option CallEntry
  pub failed : Bool

-- it is told by these six
abbrev pub spooled_entries_code : {K : Type 0} → Coded K → Coded (SpooledEntries K)
spooled_entries_code {K} sink_code =
    code_by (K × (K × (List ℕ × (List CallEntry × (Option CallEntry × Bool)))))
    (coded× sink_code (coded× sink_code (coded× (coded_list coded_ℕ) (coded× (coded_list call_entry_code) (coded× (coded_option call_entry_code) coded_bool)))))
    (λ s. (s.sink, (s.opening, (s.held, (s.entries, (s.unwritten, s.failed))))))
    (λ p. record { sink = p.0; opening = p.1.0; held = p.1.1.0; entries = p.1.1.1.0; unwritten = p.1.1.1.1.0; failed = p.1.1.1.1.1 })
    (λ _. refl)

-- what a sink that had taken `before` has taken, and what is held behind it, are the lines of the entries
abbrev pub HasLinesWith : (before now : Option (List ℕ)) (held : List ℕ) (entries : List CallEntry) → Type 0
HasLinesWith before now held entries = told_more now held ≡ told_more before (journal_lines entry_text entries)

-- entries, and behind them one that wasn't written, where there is one
abbrev pub with_unwritten : List CallEntry → Option CallEntry → List CallEntry
with_unwritten entries None = entries
with_unwritten entries (Some entry) = entries ++ entry ∷ []

-- what a sink that had taken `before` has taken is a beginning of the lines of the entries, and of the one that wasn't written
abbrev pub HasSomeLines : (before now : Option (List ℕ)) (entries : List CallEntry) (unwritten : Option CallEntry) → Type 0
HasSomeLines before now entries unwritten = IsCutShort before now (journal_lines entry_text (with_unwritten entries unwritten))

-- The entries are counted. Until an append or a finish fails the sink and what is held have their lines, and no entry is unwritten; and then the sink
-- has a beginning of these and of the unwritten one's.
pub record IsSpooled (before now : Option (List ℕ)) (held : List ℕ) (entries : List CallEntry) (count : ℕ) (unwritten : Option CallEntry) (failed : Bool) : Type 0 where
  pub counted : count ≡ appended_count entries
  pub lines : failed ≡ false → HasLinesWith before now held entries
  pub none : failed ≡ false → unwritten ≡ None
  pub begun : failed ≡ true → HasSomeLines before now entries unwritten
