-- Steps of the program on the way to what it promises. No part of the promise: no clause of `host` cites them.
use Rattle.std.specs.Prelude.{◌≡◌, ⊤, ℕ, ◌⊎◌, Bool, true, false, List, Option, Result, Ok, Err, MatchResult}
use Rattle.streams.specs.Content.{told_more}
use Rattle.streams.specs.Taken.{IsTakenInPart}
use Rattle.idl_check.specs.declared.refusal.NoSchema.{NoSchema}
use Rattle.idl_check.specs.declared.refusal.NoSchema.TheVariants as reasons
use Rattle.idl_check.specs.Lines.{idl_refusal_text}
use Rattle.idl_check.specs.Verdicts.{IsIdlVerdict, IsUnreadIdl}
use Rattle.idl_check.specs.Telling.{TellsWhy, is_file_fault}
use Rattle.command_line.specs.declared.command.WordsFault.{WordsFault}
use Rattle.command_line.specs.declared.command.WordsFault.TheVariants as words_faults
use Rattle.command_line.specs.Served.{PlainServed}
use Rattle.service_binding.specs.declared.fault.BindFault.{BindFault}
use Rattle.service_binding.specs.declared.fault.BindFault.TheVariants as bind_faults
use Rattle.service_binding.specs.FirstRefusal.{IsRefusedFirst, OnRefusal}
use Rattle.service_binding.specs.Refusals.{refused_pair_text}
use Rattle.call_rules.specs.Handling.{ServiceState}
use Rattle.call_model.specs.Offices.{PlainOffice}
use Rattle.recorded_runs.specs.Recorded.{Streams, MeansRecordedFault}
use Rattle.recorded_runs.specs.Refusals.{refused_script_text}
use Rattle.recorded_runs.specs.declared.fault.ServingFault.{ServingFault}
use Rattle.recorded_runs.specs.declared.fault.ServingFault.TheVariants as serving_faults
use Rattle.workload.specs.ExpectedRun.{work_text}
use Rattle.recorded_runs.specs.Summaries.{EndsSummary}
use Rattle.port_serving.specs.Answered.{goes_on}
use Rattle.port_serving.specs.declared.fault.PortFault.{PortFault}
use Rattle.port_serving.specs.declared.fault.PortFault.TheVariants as port_faults
use Rattle.thrift_host.specs.declared.status.Status.{Status}
use Rattle.thrift_host.specs.declared.status.Status.TheVariants as status
use Rattle.thrift_host.specs.declared.arranging.RunFault.{RunFault}
use Rattle.thrift_host.specs.declared.arranging.RunFault.TheVariants as faults
use Rattle.thrift_host.specs.Errors.{Errors, IsSaid, IsLineSaid}
use Rattle.thrift_host.specs.Checks.{AreUntouched}
use Rattle.thrift_host.specs.Runs.{ScriptRunning, AskedRun, IsArranged, IsAccepted, IsAnsweredBy, IsRunReported, arranged_office}
use Rattle.thrift_host.specs.Serving.{AskedServing, HostChange, IsAllUntouched, IsAllServed, IsUnservedFor}

-- the command ended with this status, whose fixed line was said
abbrev pub EndsAs : (meant ended : Status) → Errors → Type 0
EndsAs meant ended e = (ended ≡ meant) × IsLineSaid meant e

-- it ended with this status and this line, or with want of memory
abbrev pub EndsSaying : (meant : Status) → List ℕ → (ended : Status) → Errors → Type 0
EndsSaying meant text ended e = ((ended ≡ meant) × IsSaid e text) ⊎ EndsAs status.NoMemory ended e

-- how it ends where the words weren't read as a command
abbrev pub EndsWithoutCommand : WordsFault → Status → Errors → Type 0
EndsWithoutCommand words_faults.Usage ended e = EndsAs status.Usage ended e
EndsWithoutCommand words_faults.NoMemory ended e = EndsAs status.NoMemory ended e

-- how it ends where an IDL has no schema
abbrev pub EndsWithout : NoSchema → Status → Errors → Type 0
EndsWithout (reasons.Refused refusal) ended e = EndsSaying status.IdlRefused (idl_refusal_text refusal.file refusal.at refusal.kind) ended e
EndsWithout reasons.FileFault ended e = EndsAs status.FileFault ended e
EndsWithout reasons.NoMemory ended e = EndsAs status.NoMemory ended e

-- how it ends where a text was to be written
abbrev pub EndsWriting : Status → Option (List ℕ) → Option (List ℕ) → List ℕ → Errors → Type 0
EndsWriting ended before now text e =
    (EndsAs status.Done ended e × (now ≡ told_more before text)) ⊎ (EndsAs status.WriteFault ended e × IsTakenInPart before now text)

-- how it ends where pairs or a default aren't bound
abbrev pub EndsUnbound : PlainServed → BindFault → Status → Errors → Type 0
EndsUnbound says (bind_faults.Refused place kind) ended e =
    EndsSaying status.BindRefused (refused_pair_text says.pairs says.default_service place kind) ended e
EndsUnbound says bind_faults.NoMemory ended e = EndsAs status.NoMemory ended e

-- how it ends where a recording isn't answered; the journal, which is a list, never fails
abbrev pub EndsUnanswered : ServingFault → Status → Errors → Type 0
EndsUnanswered (serving_faults.NoScript fault) ended e = EndsSaying status.ScriptRefused (refused_script_text fault) ended e
EndsUnanswered serving_faults.ReadFault ended e = EndsAs status.ReadFault ended e
EndsUnanswered serving_faults.WriteFault ended e = EndsAs status.WriteFault ended e
EndsUnanswered serving_faults.JournalFault ended e = EndsAs status.NoMemory ended e
EndsUnanswered serving_faults.NoMemory ended e = EndsAs status.NoMemory ended e

-- the status of a port that isn't served
abbrev pub status_of_port : PortFault → Status
status_of_port port_faults.FileFault = status.FileFault
status_of_port port_faults.NetFault = status.NetFault
status_of_port port_faults.WriteFault = status.WriteFault
status_of_port port_faults.JournalFault = status.JournalFault
status_of_port port_faults.NoMemory = status.NoMemory

-- how it ends after a run, or serving at a port, of what the words say is served
abbrev pub EndsAfterRun : {A : Type 0} → PlainServed → Result A RunFault → Status → Errors → Type 0
EndsAfterRun says (Ok _) ended e = EndsAs status.Done ended e
EndsAfterRun says (Err (faults.NoSchema reason)) ended e = EndsWithout reason ended e
EndsAfterRun says (Err (faults.Unbound fault)) ended e = EndsUnbound says fault ended e
EndsAfterRun says (Err (faults.Unanswered fault)) ended e = EndsUnanswered fault ended e
EndsAfterRun says (Err (faults.Unserved fault)) ended e = EndsAs (status_of_port fault) ended e

-- an office, and the services in its slots, are those of an arrangement
pub record IsArrangedAs (r : AskedRun) (office : PlainOffice) (services : List ServiceState) : Type 0 where
  pub arranged : IsArranged r
  pub office_is : office ≡ arranged_office r arranged
  pub services_are : services ≡ arranged.bound

-- why nothing is arranged
abbrev pub TellsUnarranged : AskedRun → RunFault → Type 0
TellsUnarranged r (faults.NoSchema reason) = TellsWhy (IsIdlVerdict r.files r.says.idl) (IsUnreadIdl r.files r.says.idl) reason
TellsUnarranged r (faults.Unbound fault) = IsAccepted r (λ schema. OnRefusal fault (IsRefusedFirst schema r.handlers r.says.pairs r.says.default_service))
TellsUnarranged r _ = ⊥

-- what a fault of a run says of its files, its input and its output
abbrev pub TellsFault : ScriptRunning → AskedRun → RunFault → Streams → Type 0
TellsFault way r (faults.Unanswered fault) s = IsAnsweredBy r (λ a. MeansRecordedFault (way.script_in a) (way.IsRunOf a) a.line fault s)
TellsFault way r fault s = TellsUnarranged r fault × AreUntouched s

-- what a run says of them
abbrev pub TellsRun : {A : Type 0} → ScriptRunning → AskedRun → Result A RunFault → Streams → Type 0
TellsRun way r result s = MatchResult result (λ _. IsRunReported way r s) (λ fault. TellsFault way r fault s)

-- what a run comes to, by what its recording came to
abbrev pub of_recording : {A : Type 0} → Result A ServingFault → Result A RunFault
of_recording (Ok x) = Ok x
of_recording (Err fault) = Err (faults.Unanswered fault)

-- a file of the IDL's couldn't be read, or that of the journal couldn't be made
abbrev pub misses_file : RunFault → Bool
misses_file (faults.NoSchema reason) = is_file_fault reason
misses_file (faults.Unserved port_faults.FileFault) = true
misses_file _ = false

abbrev pub is_file_missed : {A : Type 0} → Result A RunFault → Bool
is_file_missed (Ok _) = false
is_file_missed (Err fault) = misses_file fault

-- what serving at a port comes to, by what the port came to
abbrev pub of_port : {A : Type 0} → Result A PortFault → Result A RunFault
of_port (Ok x) = Ok x
of_port (Err fault) = Err (faults.Unserved fault)

-- what serving at a port says of what it was given
abbrev pub TellsServing : {A : Type 0} → AskedServing → Result A RunFault → HostChange → Type 0
TellsServing a (Ok _) c = IsAllServed a c
TellsServing a (Err (faults.Unserved fault)) c = IsUnservedFor a c fault
TellsServing a (Err fault) c = TellsUnarranged a.run fault × IsAllUntouched c

-- serving went on to its end after this fault
abbrev pub serves_on : {A : Type 0} → Result A RunFault → Bool
serves_on (Err (faults.Unserved fault)) = goes_on fault
serves_on _ = false

-- why a workload isn't begun: nothing is arranged, or the tutorial has no calculator, which is answered as want of memory
abbrev pub TellsUnworked : AskedRun → RunFault → Type 0
TellsUnworked r (faults.Unanswered serving_faults.NoMemory) = ⊤
TellsUnworked r (faults.Unanswered _) = ⊥
TellsUnworked r fault = TellsUnarranged r fault

-- what a workload says of its input and its output
abbrev pub TellsWorkload : {A : Type 0} → AskedRun → (seed size : ℕ) → Result A RunFault → Streams → Type 0
TellsWorkload r seed size (Ok _) s = (s.left ≡ s.left_before) × (s.taken ≡ told_more s.taken_before (work_text seed size))
TellsWorkload r seed size (Err (faults.Unanswered fault)) s = (s.left ≡ s.left_before) × EndsSummary fault (work_text seed size) s.taken_before s.taken
TellsWorkload r seed size (Err fault) s = TellsUnarranged r fault × AreUntouched s
