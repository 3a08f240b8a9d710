-- What an answered recording comes to, from its parts.
use Rattle.std.proofs.Common.{◌≡◌, ℕ, List, Option, refl, ap, inl, inr}
use Rattle.std.specs.Prelude.{◌≢◌, Result, Ok, Err, IfErr}
use Rattle.call_rules.specs.Entries.{CallEntry}
use Rattle.script_model.specs.ScriptLines.{ScriptPlan}
use Rattle.recorded_runs.specs.declared.fault.ServingFault.{ServingFault}
use Rattle.recorded_runs.specs.declared.fault.ServingFault.TheVariants as faults
use Rattle.recorded_runs.specs.Recorded.{Streams, ScriptReading, ScriptRuns, IsToldRun, IsOfInput, IsInputRead, EndsReading, ReportsRunOf, IsReportOfInput, MeansRecorded, MeansRecordedFault}
use Rattle.recorded_runs.specs.Steps.{EndsReport, ReportsServed}

module _ (script_in : ScriptReading) (IsRunOf : ScriptRuns) (line : CallEntry → List ℕ) where
  -- the report of a script that the input is
  of_input : (script : ScriptPlan) (s : Streams) (text : List ℕ) → IsInputRead script_in s.left_before s.left script → ReportsRunOf IsRunOf line script text
      → IsReportOfInput script_in IsRunOf line s text
  of_input script s text input reports =
      record { text = input.text; script = script; read = input.read; to_its_end = input.to_its_end; is_script = input.is_script; reports = reports }

  -- a fault after a script that was read
  ended : (script : ScriptPlan) (s : Streams) (fault : ServingFault) → IsInputRead script_in s.left_before s.left script
      → EndsReport IsRunOf line fault script s.taken_before s.taken → MeansRecordedFault script_in IsRunOf line fault s
  ended script s (faults.NoScript fault) input h = absurd h
  ended script s faults.ReadFault input h = absurd h
  ended script s faults.WriteFault input (text, front, reports, is) = (text, front, of_input script s text input reports, is)
  ended script s faults.JournalFault input h = h
  ended script s faults.NoMemory input (inl h) = inl h
  ended script s faults.NoMemory input (inr (text, front, reports, is)) = inr (text, front, of_input script s text input reports, is)

  -- a script that was read, whatever serving it came to
  pub answered : {A : Type 0} (script : ScriptPlan) (left_before left taken_before taken : Option (List ℕ)) (result : Result A ServingFault)
      → IsInputRead script_in left_before left script → ReportsServed IsRunOf line script taken_before taken result
      → MeansRecorded script_in IsRunOf line result (record { left_before = left_before; left = left; taken_before = taken_before; taken = taken })
  answered script left_before left taken_before taken (Ok x) input (text, reports, is) =
      (text, of_input script (record { left_before = left_before; left = left; taken_before = taken_before; taken = taken }) text input reports, is)
  answered script left_before left taken_before taken (Err fault) input h =
      ended script (record { left_before = left_before; left = left; taken_before = taken_before; taken = taken }) fault input h

  -- no script was read
  pub unread : (fault : ServingFault) (left_before left taken : Option (List ℕ)) → EndsReading script_in fault left_before
      → MeansRecordedFault script_in IsRunOf line fault (record { left_before = left_before; left = left; taken_before = taken; taken = taken })
  unread (faults.NoScript fault) left_before left taken h = (h, refl)
  unread faults.ReadFault left_before left taken h = refl
  unread faults.WriteFault left_before left taken h = absurd h
  unread faults.JournalFault left_before left taken h = absurd h
  unread faults.NoMemory left_before left taken h = inl refl

-- the fault of an input is none of the output, and none of the journal
pub no_write_fault : {A : Type 0} {P : Type 0} (script_in : ScriptReading) (fault : ServingFault) (left_before : Option (List ℕ)) → EndsReading script_in fault left_before
    → ◌≡◌ {A = Result A ServingFault} (Err fault) (Err faults.WriteFault) → P
no_write_fault script_in (faults.NoScript fault) left_before h is = absurd (let f : ⊥ = cc in f)
no_write_fault script_in faults.ReadFault left_before h is = absurd (let f : ⊥ = cc in f)
no_write_fault script_in faults.WriteFault left_before h is = absurd h
no_write_fault script_in faults.JournalFault left_before h is = absurd h
no_write_fault script_in faults.NoMemory left_before h is = absurd (let f : ⊥ = cc in f)

pub no_journal_fault : {A : Type 0} {P : Type 0} (script_in : ScriptReading) (fault : ServingFault) (left_before : Option (List ℕ)) → EndsReading script_in fault left_before
    → ◌≡◌ {A = Result A ServingFault} (Err fault) (Err faults.JournalFault) → P
no_journal_fault script_in (faults.NoScript fault) left_before h is = absurd (let f : ⊥ = cc in f)
no_journal_fault script_in faults.ReadFault left_before h is = absurd (let f : ⊥ = cc in f)
no_journal_fault script_in faults.WriteFault left_before h is = absurd h
no_journal_fault script_in faults.JournalFault left_before h is = absurd h
no_journal_fault script_in faults.NoMemory left_before h is = absurd (let f : ⊥ = cc in f)

-- a fault that another call has too is no other one for it
abbrev fault_in : {A : Type 0} → Result A ServingFault → ServingFault
fault_in (Ok x) = faults.NoMemory
fault_in (Err fault) = fault

pub other_too : {A B : Type 0} (fault named : ServingFault) → ◌≢◌ {A = Result A ServingFault} (Err fault) (Err named) → ◌≢◌ {A = Result B ServingFault} (Err fault) (Err named)
other_too fault named other e = other (ap Err (ap fault_in e))

-- a script that was served was read
pub served_so : {A : Type 0} (P : Type 0) (IsRunOf : ScriptRuns) (line : CallEntry → List ℕ) (script : ScriptPlan) (taken_before taken : Option (List ℕ)) (result : Result A ServingFault)
    → ReportsServed IsRunOf line script taken_before taken result → IfErr result (λ fault. IsOfInput fault → P)
served_so P IsRunOf line script taken_before taken (Ok x) h = tt
served_so P IsRunOf line script taken_before taken (Err (faults.NoScript fault)) h = λ of. absurd h
served_so P IsRunOf line script taken_before taken (Err faults.ReadFault) h = λ of. absurd h
served_so P IsRunOf line script taken_before taken (Err faults.WriteFault) h = λ of. absurd of
served_so P IsRunOf line script taken_before taken (Err faults.JournalFault) h = λ of. absurd of
served_so P IsRunOf line script taken_before taken (Err faults.NoMemory) h = λ of. absurd of

-- What is said of a run that a journal tells is said of the run.
module _ (script_in : ScriptReading) (IsRunOf : ScriptRuns) (line : CallEntry → List ℕ) (told : Option (List CallEntry)) where
  run_alone : (script : ScriptPlan) (text : List ℕ) → ReportsRunOf (IsToldRun told IsRunOf) line script text → ReportsRunOf IsRunOf line script text
  run_alone script text x = record { tape = x.tape; journal = x.journal; causes = x.causes; run = x.run.run; printed = x.printed }

  report_alone : (s : Streams) (text : List ℕ) → IsReportOfInput script_in (IsToldRun told IsRunOf) line s text → IsReportOfInput script_in IsRunOf line s text
  report_alone s text x =
      record { text = x.text; script = x.script; read = x.read; to_its_end = x.to_its_end; is_script = x.is_script; reports = run_alone x.script text x.reports }

  fault_alone : (fault : ServingFault) (s : Streams) → MeansRecordedFault script_in (IsToldRun told IsRunOf) line fault s → MeansRecordedFault script_in IsRunOf line fault s
  fault_alone (faults.NoScript fault) s h = h
  fault_alone faults.ReadFault s h = h
  fault_alone faults.WriteFault s (text, front, x, is) = (text, front, report_alone s text x, is)
  fault_alone faults.JournalFault s h = h
  fault_alone faults.NoMemory s (inl h) = inl h
  fault_alone faults.NoMemory s (inr (text, front, x, is)) = inr (text, front, report_alone s text x, is)

  pub means_alone : {A : Type 0} (result : Result A ServingFault) (s : Streams) → MeansRecorded script_in (IsToldRun told IsRunOf) line result s
      → MeansRecorded script_in IsRunOf line result s
  means_alone (Ok x) s (text, reports, is) = (text, report_alone s text reports, is)
  means_alone (Err fault) s h = fault_alone fault s h
