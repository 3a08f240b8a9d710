-- What the answer to a recording says of its input and its output, in whatever way texts are read as scripts, and whatever makes a run one of a script.
use Rattle.std.specs.Prelude.{◌≡◌, ℕ, ◌⊎◌, ⊤, List, Option, Some, Result, Ok, Err, MatchResult, take}
use Rattle.streams.specs.Content.{told_before, told_more, IsSpent}
use Rattle.streams.specs.declared.marks.Mark.{Mark}
use Rattle.host_model.specs.declared.cause.EndCause.{EndCause}
use Rattle.host_model.specs.Report.{report}
use Rattle.call_rules.specs.Entries.{CallEntry}
use Rattle.script_model.specs.ScriptLines.{ScriptPlan}
use Rattle.script_text.specs.declared.fault.ScriptFault.{ScriptFault}
use Rattle.recorded_runs.specs.declared.fault.ServingFault.{ServingFault}
use Rattle.recorded_runs.specs.declared.fault.ServingFault.TheVariants as faults

-- What a call did to its input and its output: what was left to read before and after it, and what had been taken.
pub record Streams : Type 0 where
  pub left_before : Option (List ℕ)
  pub left : Option (List ℕ)
  pub taken_before : Option (List ℕ)
  pub taken : Option (List ℕ)

-- nothing was written
abbrev pub IsUnwritten : Streams → Type 0
IsUnwritten s = s.taken ≡ s.taken_before

-- how texts are read as scripts
abbrev pub ScriptReading : Type 0
ScriptReading = List ℕ → Result ScriptPlan ScriptFault

module _ (script_in : ScriptReading) where
  -- the input was read to its end, and is this script
  pub record IsInputRead (left_before left : Option (List ℕ)) (script : ScriptPlan) : Type 0 where
    pub text : List ℕ
    pub read : left_before ≡ told_before text left
    pub to_its_end : IsSpent left
    pub is_script : script_in text ≡ Ok script

  -- the input is no script: this is its first fault
  abbrev pub IsRefusedInput : ScriptFault → Option (List ℕ) → Type 0
  IsRefusedInput fault left_before = (all : List ℕ) → left_before ≡ Some all → script_in all ≡ Err fault

  -- what is known of the input where no script is read
  abbrev pub EndsReading : ServingFault → Option (List ℕ) → Type 0
  EndsReading (faults.NoScript fault) left_before = IsRefusedInput fault left_before
  EndsReading faults.ReadFault left_before = ⊤
  EndsReading faults.NoMemory left_before = ⊤
  EndsReading _ left_before = ⊥

-- these are the tape, the journal and the causes of a run of a script
abbrev pub ScriptRuns : Type 1
ScriptRuns = ScriptPlan → List Mark → List CallEntry → List EndCause → Type 0

module _ (told : Option (List CallEntry)) (IsRunOf : ScriptRuns) where
  -- a run of a script, whose entries are those that a journal tells
  pub record IsToldRun (script : ScriptPlan) (tape : List Mark) (journal : List CallEntry) (causes : List EndCause) : Type 0 where
    pub run : IsRunOf script tape journal causes
    pub told_so : told ≡ Some journal

  -- a journal tells the entries of a run of this script
  pub record TellsRunOf (script : ScriptPlan) : Type 0 where
    pub tape : List Mark
    pub journal : List CallEntry
    pub causes : List EndCause
    pub run : IsToldRun script tape journal causes

-- the fault says that no script was read
abbrev pub IsOfInput : ServingFault → Type 0
IsOfInput (faults.NoScript fault) = ⊤
IsOfInput faults.ReadFault = ⊤
IsOfInput _ = ⊥

module _ (IsRunOf : ScriptRuns) (line : CallEntry → List ℕ) where
  -- the text is the report of a run of the script
  pub record ReportsRunOf (script : ScriptPlan) (text : List ℕ) : Type 0 where
    pub tape : List Mark
    pub journal : List CallEntry
    pub causes : List EndCause
    pub run : IsRunOf script tape journal causes
    pub printed : text ≡ report line tape journal causes

module _ (script_in : ScriptReading) (IsRunOf : ScriptRuns) (line : CallEntry → List ℕ) where
  -- The input was a script, read to its end, and this is the report of a run of it.
  pub record IsReportOfInput (s : Streams) (report : List ℕ) : Type 0 where
    pub text : List ℕ
    pub script : ScriptPlan
    pub read : s.left_before ≡ told_before text s.left
    pub to_its_end : IsSpent s.left
    pub is_script : script_in text ≡ Ok script
    pub reports : ReportsRunOf IsRunOf line script report

  -- a report was written whole
  abbrev pub IsReportWritten : Streams → Type 0
  IsReportWritten s = (report : List ℕ) × IsReportOfInput s report × (s.taken ≡ told_more s.taken_before report)

  -- a beginning of a report was written
  abbrev pub IsReportBegun : Streams → Type 0
  IsReportBegun s = (report : List ℕ) × (front : ℕ) × IsReportOfInput s report × (s.taken ≡ told_more s.taken_before (take front report))

  -- What a fault says of the input and the output: something is written with WriteFault and NoMemory alone.
  abbrev pub MeansRecordedFault : ServingFault → Streams → Type 0
  MeansRecordedFault (faults.NoScript fault) s = IsRefusedInput script_in fault s.left_before × IsUnwritten s
  MeansRecordedFault faults.ReadFault s = IsUnwritten s
  MeansRecordedFault faults.WriteFault s = IsReportBegun s
  MeansRecordedFault faults.JournalFault s = IsUnwritten s
  MeansRecordedFault faults.NoMemory s = IsUnwritten s ⊎ IsReportBegun s

  -- What a result says of them: the report is written whole, or what the fault says.
  abbrev pub MeansRecorded : {A : Type 0} → Result A ServingFault → Streams → Type 0
  MeansRecorded result s = MatchResult result (λ _. IsReportWritten s) (λ fault. MeansRecordedFault fault s)
