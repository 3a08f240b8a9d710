-- Commands that can't but be done, where nothing fails and memory suffices; a call's reply may be refused all the same.
use Rattle.std.specs.Prelude.{◌≡◌, ◌⊎◌, ℕ, true, false, List, Option, None, Some, IsSome, Ok}
use Rattle.streams.specs.Files.{File}
use Rattle.call_rules.specs.Handling.{ServiceState}
use Rattle.schema.specs.PlainSchema.{PlainSchema}
use Rattle.idl_check.specs.Verdicts.{accepted, is_the_tutorial, IsIdlVerdict}
use Rattle.compat_model.specs.Breaks.{IsCompatible}
use Rattle.command_line.specs.Calls.{PlainAsking}
use Rattle.command_line.specs.Words.{PlainCommand, checks, compares, rehearses, records, serves, runs, calls}
use Rattle.script_model.specs.ScriptLines.{ScriptPlan}
use Rattle.script_text.specs.Reading.{script_of_text}
use Rattle.port_calls.specs.Calls.{IsSent}
use Rattle.recorded_runs.specs.Recorded.{ScriptReading}
use Rattle.thrift_host.specs.Calls.{port_call_by}
use Rattle.thrift_host.specs.Runs.{AskedRun, IsArranged}
use Rattle.thrift_host.specs.Surroundings.{Surroundings}
use Rattle.thrift_host.specs.Workloads.{asked_workload}
use Rattle.thrift_host.specs.Top.{asked_run}

-- the files tell, or the IDL is the one that the program holds
abbrev pub IsIdlTold : Option (List File) → List ℕ → Type 0
IsIdlTold files idl = IsSome files ⊎ (is_the_tutorial idl ≡ true)

-- an IDL that is told is accepted
pub record IsGoodIdl (files : Option (List File)) (idl : List ℕ) : Type 0 where
  pub told : IsIdlTold files idl
  pub schema : PlainSchema
  pub verdict : IsIdlVerdict files idl (accepted schema)

-- two IDLs that are told are accepted, and the second is compatible with the first
pub record IsGoodChange (files : Option (List File)) (old new : List ℕ) : Type 0 where
  pub before : IsGoodIdl files old
  pub after : IsGoodIdl files new
  pub compatible : IsCompatible (record { old = before.schema; new = after.schema })

-- A run that is asked for can be made: its IDL is told, with a schema, to which and to handlers its pairs are bound; its default, if it has one, is the name of a pair.
pub record IsRunReady (r : AskedRun) : Type 0 where
  pub told : IsIdlTold r.files r.says.idl
  pub arranged : IsArranged r

-- the input tells, and is a script
pub record IsGoodInput (script_in : ScriptReading) (left_before : Option (List ℕ)) : Type 0 where
  pub text : List ℕ
  pub script : ScriptPlan
  pub told : left_before ≡ Some text
  pub is_script : script_in text ≡ Ok script

-- a call has a frame: its IDL is told and accepted, it asks for a service and a method of that, and its arguments are a value that the method takes and that fits a frame
pub record IsGoodCall (files : Option (List File)) (asking : PlainAsking) : Type 0 where
  pub idl : IsGoodIdl files asking.idl
  pub sent : IsSent (port_call_by asking idl.schema)

-- The words are a command, and what it needs is there: what can be wrong with IDL, pairs, default, handlers, input and arguments isn't.
abbrev pub IsWellAsked : Option PlainCommand → List ServiceState → Surroundings → Type 0
IsWellAsked (Some (checks idl)) handlers before = IsGoodIdl before.files.held idl
IsWellAsked (Some (compares old new)) handlers before = IsGoodChange before.files.held old new
IsWellAsked (Some (rehearses says)) handlers before =
    IsRunReady (asked_run says before.files.held handlers) × IsGoodInput (script_of_text says.workers true true) before.input.left
IsWellAsked (Some (records says)) handlers before =
    IsRunReady (asked_run says before.files.held handlers) × IsGoodInput (script_of_text says.workers false true) before.input.left
IsWellAsked (Some (serves says port accept journal)) handlers before = IsRunReady (asked_run says before.files.held handlers)
IsWellAsked (Some (runs seed size workers)) handlers before = IsRunReady (asked_workload workers before.files.held handlers)
IsWellAsked (Some (calls asking)) handlers before = IsGoodCall before.files.held asking
IsWellAsked None handlers before = ⊥
