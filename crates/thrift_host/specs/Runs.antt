-- What is promised of a command that runs a script: recorded connections, on which services of an IDL are served, in whatever way the runs are made.
use Rattle.std.specs.Prelude.{◌≡◌, ℕ, ◌⊎◌, List, Option, Ok}
use Rattle.streams.specs.Files.{File}
use Rattle.call_rules.specs.Handling.{ServiceState}
use Rattle.call_model.specs.Offices.{Binding, PlainOffice}
use Rattle.call_model.specs.Desk.{desk_of}
use Rattle.journal_text.specs.EntryText.{entry_text}
use Rattle.schema.specs.PlainSchema.{PlainSchema}
use Rattle.schema.specs.Sound.{IsSound}
use Rattle.service_binding.specs.declared.fault.BindKind.{BindKind}
use Rattle.service_binding.specs.Binding.{AreBound}
use Rattle.service_binding.specs.Defaults.{slot_for_default}
use Rattle.service_binding.specs.FirstRefusal.{IsRefusedFirst}
use Rattle.service_binding.specs.Refusals.{refused_pair_text}
use Rattle.command_line.specs.Served.{PlainServed}
use Rattle.script_text.specs.declared.fault.ScriptFault.{ScriptFault}
use Rattle.recorded_runs.specs.Recorded.{Streams, ScriptReading, ScriptRuns, IsUnwritten, IsRefusedInput, IsReportWritten, IsReportBegun}
use Rattle.recorded_runs.specs.Answered.{Answering, IsRunOfScript, script_for}
use Rattle.recorded_runs.specs.ServedScripts.{IsServedScript, script_to_serve}
use Rattle.recorded_runs.specs.Refusals.{refused_script_text}
use Rattle.idl_check.specs.Lines.{idl_refusal_text}
use Rattle.idl_check.specs.Verdicts.{accepted, IsIdlVerdict, IsUnreadIdl}
use Rattle.thrift_host.specs.declared.status.Status.{Status}
use Rattle.thrift_host.specs.declared.status.Status.TheVariants.{Done, IdlRefused, ScriptRefused, BindRefused, FileFault, ReadFault, WriteFault, NoMemory}
use Rattle.thrift_host.specs.Errors.{Errors, IsSaid, IsLineSaid}
use Rattle.thrift_host.specs.Checks.{AreUntouched, IsRefusedWith}

-- A way in which scripts are run: how texts are read as scripts, and what makes a run one of a script, each by what answers the calls.
pub record ScriptRunning : Type 1 where
  pub script_in : Answering → ScriptReading
  pub IsRunOf : Answering → ScriptRuns

-- without threads, in the order of the script's lines, among which are those of a schedule
abbrev pub rehearsing : ScriptRunning
rehearsing = record { script_in = script_for; IsRunOf = IsRunOfScript }

-- by a loop and workers on threads, where scripts have no lines of a schedule
abbrev pub recording : ScriptRunning
recording = record { script_in = script_to_serve; IsRunOf = IsServedScript }

-- A run that is asked for: what its words say, the files that there are, and the handlers that were handed in, seen as their services.
pub record AskedRun : Type 0 where
  pub says : PlainServed
  pub files : Option (List File)
  pub handlers : List ServiceState

-- the IDL of this name is accepted with this schema, which is sound
pub record HasSchema (files : Option (List File)) (idl : List ℕ) (schema : PlainSchema) : Type 0 where
  pub verdict : IsIdlVerdict files idl (accepted schema)
  pub sound : IsSound schema

-- its IDL has a schema, its pairs are bound to services of that and to handlers, and its default, if it has one, is the name of a pair
pub record IsArranged (r : AskedRun) : Type 0 where
  pub schema : PlainSchema
  pub bindings : List Binding
  pub bound : List ServiceState
  pub default_slot : Option ℕ
  pub has : HasSchema r.files r.says.idl schema
  pub are_bound : AreBound schema r.handlers r.says.pairs bindings bound
  pub is_default : slot_for_default bindings r.says.default_service ≡ Ok default_slot

-- the office that decides on its payloads: this schema, these bindings and this default, in the protocol of the words and with their longest payload
abbrev pub arranged_office : (r : AskedRun) → IsArranged r → PlainOffice
arranged_office r a =
    record { schema = a.schema; bindings = a.bindings; default_slot = a.default_slot; protocol = r.says.protocol; max_frame = r.says.limits.max_frame }

-- what answers calls at an office and by services: with the workers and the read budget of the words, and the lines of a journal
abbrev pub answering_at : AskedRun → PlainOffice → List ServiceState → Answering
answering_at r office services =
    record { desk = desk_of office; services = services; workers = r.says.workers; budget = r.says.limits.read_budget; line = entry_text }

-- what answers its calls: its office, and the services of its handlers, from the memories that these had
abbrev pub answering_of : (r : AskedRun) → IsArranged r → Answering
answering_of r a = answering_at r (arranged_office r a) a.bound

-- it is arranged, and this holds of what answers
abbrev pub IsAnsweredBy : AskedRun → (Answering → Type 0) → Type 0
IsAnsweredBy r Holds = (a : IsArranged r) × Holds (answering_of r a)

-- its IDL has a schema of which this holds
abbrev pub IsAccepted : AskedRun → (PlainSchema → Type 0) → Type 0
IsAccepted r Holds = (schema : PlainSchema) × HasSchema r.files r.says.idl schema × Holds schema

-- a pair or the default can't be bound: the first such one stands at a place, and is refused for a reason, of which this holds
abbrev pub IsUnboundWith : AskedRun → (ℕ → BindKind → Type 0) → Type 0
IsUnboundWith r Holds =
    IsAccepted r (λ schema. (place : ℕ) × (kind : BindKind) × IsRefusedFirst schema r.handlers r.says.pairs r.says.default_service place kind × Holds place kind)

-- What a status says where nothing is arranged: the IDL has no schema, or the pairs aren't bound. First is the IDL, then the pairs. Nothing was read, and
-- nothing written.
abbrev pub MeansUnarranged : AskedRun → Status → Streams → Type 0
MeansUnarranged r IdlRefused s = IsRefusedWith r.files r.says.idl (λ _ _ _. AreUntouched s)
MeansUnarranged r FileFault s = IsUnreadIdl r.files r.says.idl × AreUntouched s
MeansUnarranged r BindRefused s = IsUnboundWith r (λ _ _. AreUntouched s)
MeansUnarranged r NoMemory s = AreUntouched s
MeansUnarranged r _ s = ⊥

-- Its line was added to the errors: a refused IDL's has the file, the place and the kind, a refused pair's the pair and why.
abbrev pub SaysUnarranged : AskedRun → Status → Errors → Type 0
SaysUnarranged r IdlRefused e = IsRefusedWith r.files r.says.idl (λ file at kind. IsSaid e (idl_refusal_text file at kind))
SaysUnarranged r BindRefused e = IsUnboundWith r (λ place kind. IsSaid e (refused_pair_text r.says.pairs r.says.default_service place kind))
SaysUnarranged r status e = IsLineSaid status e

module _ (way : ScriptRunning) (r : AskedRun) where
  -- the input is no script: its first fault, of which this holds
  abbrev pub IsUnscriptedWith : Streams → (ScriptFault → Type 0) → Type 0
  IsUnscriptedWith s Holds = IsAnsweredBy r (λ a. (fault : ScriptFault) × IsRefusedInput (way.script_in a) fault s.left_before × Holds fault)

  -- the input was a script, read to its end, and the report of a run of it was written
  abbrev pub IsRunReported : Streams → Type 0
  IsRunReported s = IsAnsweredBy r (λ a. IsReportWritten (way.script_in a) (way.IsRunOf a) a.line s)

  -- the same of a beginning of the report
  abbrev pub IsRunReportBegun : Streams → Type 0
  IsRunReportBegun s = IsAnsweredBy r (λ a. IsReportBegun (way.script_in a) (way.IsRunOf a) a.line s)

  -- What a status says of a run that was asked for. Done says that the input was a script, read to its end, and that the report of a run of it was
  -- written, which meets the headline at its office and from the memories of its handlers. ScriptRefused and ReadFault say that it is arranged.
  -- Something is written with Done, WriteFault and NoMemory alone.
  abbrev pub MeansRun : Status → Streams → Type 0
  MeansRun ScriptRefused s = IsUnscriptedWith s (λ _. IsUnwritten s)
  MeansRun ReadFault s = IsArranged r × IsUnwritten s
  MeansRun Done s = IsRunReported s
  MeansRun WriteFault s = IsRunReportBegun s
  MeansRun NoMemory s = IsUnwritten s ⊎ IsRunReportBegun s
  MeansRun status s = MeansUnarranged r status s

  -- The line of its status was added to the errors: a refused script's has the number of its line and what is wrong with it.
  abbrev pub SaysRun : Status → Streams → Errors → Type 0
  SaysRun ScriptRefused s e = IsUnscriptedWith s (λ fault. IsSaid e (refused_script_text fault))
  SaysRun status s e = SaysUnarranged r status e
