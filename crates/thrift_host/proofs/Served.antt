-- What a status says of serving at a port.
use Rattle.std.proofs.Common.{◌≡◌, ℕ, List, Option, Some, Result, Ok, Err, refl, sym, subst, inl, inr}
use Rattle.std.specs.Prelude.{⊤}
use Rattle.port_serving.specs.declared.fault.PortFault.{PortFault}
use Rattle.port_serving.specs.declared.fault.PortFault.TheVariants as port_faults
use Rattle.thrift_host.specs.declared.status.Status.{Status}
use Rattle.thrift_host.specs.declared.status.Status.TheVariants.{Done, Usage, IdlRefused, ScriptRefused, BindRefused, FileFault, ReadFault, WriteFault, NetFault, JournalFault, NoMemory, CallRefused, ReplyRefused, Incompatible}
use Rattle.thrift_host.specs.declared.arranging.RunFault.{RunFault}
use Rattle.thrift_host.specs.declared.arranging.RunFault.TheVariants as faults
use Rattle.thrift_host.specs.Errors.{Errors}
use Rattle.thrift_host.specs.Runs.{MeansUnarranged, SaysUnarranged}
use Rattle.thrift_host.specs.Serving.{AskedServing, HostChange, IsAllUntouched, IsPlaceUntouched, IsUnservedFor, MeansServing}
use Rattle.thrift_host.specs.Steps.{EndsWithout, EndsUnbound, EndsAfterRun, TellsServing, TellsUnarranged, status_of_port}
use Rattle.call_rules.specs.Handling.{ServiceState}
use Rattle.command_line.specs.Served.{PlainServed}
use Rattle.command_line.specs.Words.{serves}
use Rattle.idl_check.specs.declared.refusal.NoSchema.{NoSchema}
use Rattle.idl_check.specs.declared.refusal.NoSchema.TheVariants as reasons
use Rattle.service_binding.specs.declared.fault.BindFault.{BindFault}
use Rattle.service_binding.specs.declared.fault.BindFault.TheVariants as bind_faults
use Rattle.thrift_host.specs.Top.{Means, asked_run, asked_place}
use Rattle.thrift_host.proofs.Ran.{without_schema_means, unbound_means, without_schema_said, unbound_said}

module _ (a : AskedServing) (c : HostChange) where
  -- serving that isn't arranged, which touches nothing
  unarranged_serving : (status : Status) → MeansUnarranged a.run status c.streams → IsPlaceUntouched c.place → MeansServing a c status
  unarranged_serving IdlRefused h kept = (h, kept)
  unarranged_serving FileFault h kept = inl (h, kept)
  unarranged_serving BindRefused h kept = (h, kept)
  unarranged_serving NoMemory h kept = inl (h, kept)
  unarranged_serving Done h kept = absurd h
  unarranged_serving Usage h kept = absurd h
  unarranged_serving ScriptRefused h kept = absurd h
  unarranged_serving ReadFault h kept = absurd h
  unarranged_serving WriteFault h kept = absurd h
  unarranged_serving NetFault h kept = absurd h
  unarranged_serving JournalFault h kept = absurd h
  unarranged_serving CallRefused h kept = absurd h
  unarranged_serving ReplyRefused h kept = absurd h
  unarranged_serving Incompatible h kept = absurd h

  -- a port that isn't served to the end
  unserved_means : (fault : PortFault) → IsUnservedFor a c fault → MeansServing a c (status_of_port fault)
  unserved_means port_faults.FileFault h = inr h
  unserved_means port_faults.NetFault h = h
  unserved_means port_faults.WriteFault h = h
  unserved_means port_faults.JournalFault h = h
  unserved_means port_faults.NoMemory h = inr h

  module _ (ended : Status) (e : Errors) where
    -- whatever it came to
    pub serving_means : {A : Type 0} (result : Result A RunFault) → TellsServing a result c → EndsAfterRun a.run.says result ended e → MeansServing a c ended
    serving_means (Ok x) tells h = subst (λ status. MeansServing a c status) (sym h.0) tells
    serving_means (Err (faults.NoSchema reason)) (why, (untouched, kept)) h =
        unarranged_serving ended (without_schema_means a.run ended c.streams e reason why untouched h) kept
    serving_means (Err (faults.Unbound fault)) (at, (untouched, kept)) h =
        unarranged_serving ended (unbound_means a.run ended c.streams e fault at untouched h) kept
    serving_means (Err (faults.Unanswered fault)) (why, kept) h = absurd why
    serving_means (Err (faults.Unserved fault)) tells h = subst (λ status. MeansServing a c status) (sym h.0) (unserved_means fault tells)

    -- the line of a status that has a fixed one
    fixed_line : (status : Status) → SaysUnarranged a.run status e → ended ≡ status → SaysUnarranged a.run ended e
    fixed_line status h is = subst (λ status. SaysUnarranged a.run status e) (sym is) h

    pub serving_said : {A : Type 0} (result : Result A RunFault) → TellsServing a result c → EndsAfterRun a.run.says result ended e → SaysUnarranged a.run ended e
    serving_said (Ok x) tells h = fixed_line Done h.1 h.0
    serving_said (Err (faults.NoSchema reason)) tells h = without_schema_said a.run ended e reason tells.0 h
    serving_said (Err (faults.Unbound fault)) tells h = unbound_said a.run ended e fault tells.0 h
    serving_said (Err (faults.Unanswered fault)) tells h = absurd tells.0
    serving_said (Err (faults.Unserved port_faults.FileFault)) tells h = fixed_line FileFault h.1 h.0
    serving_said (Err (faults.Unserved port_faults.NetFault)) tells h = fixed_line NetFault h.1 h.0
    serving_said (Err (faults.Unserved port_faults.WriteFault)) tells h = fixed_line WriteFault h.1 h.0
    serving_said (Err (faults.Unserved port_faults.JournalFault)) tells h = fixed_line JournalFault h.1 h.0
    serving_said (Err (faults.Unserved port_faults.NoMemory)) tells h = fixed_line NoMemory h.1 h.0

  -- it never ends with a read fault
  pub never_reads : (ended : Status) → MeansServing a c ended → ended ≡ ReadFault → ⊥
  never_reads ended h is = subst (λ status. MeansServing a c status) is h

-- serving that isn't arranged, and touched nothing
pub untouched_serving : (A : Type 0) (a : AskedServing) (fault : RunFault) (c : HostChange) → TellsUnarranged a.run fault → IsAllUntouched c → TellsServing {A = A} a (Err fault) c
untouched_serving A a (faults.NoSchema reason) c why untouched = (why, untouched)
untouched_serving A a (faults.Unbound fault) c why untouched = (why, untouched)
untouched_serving A a (faults.Unanswered fault) c why untouched = absurd why
untouched_serving A a (faults.Unserved fault) c why untouched = absurd why

-- a write of the output failed
abbrev pub IsWriteFault : Status → Type 0
IsWriteFault WriteFault = ⊤
IsWriteFault _ = ⊥

-- which nothing ends with that isn't arranged
module _ (ended : Status) (e : Errors) (writes : IsWriteFault ended) where
  pub not_without_schema : (reason : NoSchema) → EndsWithout reason ended e → ⊥
  not_without_schema (reasons.Refused f) (inl h) = subst IsWriteFault h.0 writes
  not_without_schema (reasons.Refused f) (inr h) = subst IsWriteFault h.0 writes
  not_without_schema reasons.FileFault h = subst IsWriteFault h.0 writes
  not_without_schema reasons.NoMemory h = subst IsWriteFault h.0 writes

  pub not_unbound : (says : PlainServed) (fault : BindFault) → EndsUnbound says fault ended e → ⊥
  not_unbound says (bind_faults.Refused place kind) (inl h) = subst IsWriteFault h.0 writes
  not_unbound says (bind_faults.Refused place kind) (inr h) = subst IsWriteFault h.0 writes
  not_unbound says bind_faults.NoMemory h = subst IsWriteFault h.0 writes

  not_written : (a : AskedServing) (c : HostChange) {A : Type 0} (result : Result A RunFault) → TellsServing a result c
      → EndsAfterRun a.run.says result ended e → result ≡ Err (faults.Unserved port_faults.WriteFault)
  not_written a c (Ok x) tells h = absurd (subst IsWriteFault h.0 writes)
  not_written a c (Err (faults.NoSchema reason)) tells h = absurd (not_without_schema reason h)
  not_written a c (Err (faults.Unbound fault)) tells h = absurd (not_unbound a.run.says fault h)
  not_written a c (Err (faults.Unanswered fault)) tells h = absurd tells.0
  not_written a c (Err (faults.Unserved port_faults.FileFault)) tells h = absurd (subst IsWriteFault h.0 writes)
  not_written a c (Err (faults.Unserved port_faults.NetFault)) tells h = absurd (subst IsWriteFault h.0 writes)
  not_written a c (Err (faults.Unserved port_faults.WriteFault)) tells h = refl
  not_written a c (Err (faults.Unserved port_faults.JournalFault)) tells h = absurd (subst IsWriteFault h.0 writes)
  not_written a c (Err (faults.Unserved port_faults.NoMemory)) tells h = absurd (subst IsWriteFault h.0 writes)

-- so a write fault comes of one of the summary
pub written_by : (a : AskedServing) (c : HostChange) (ended : Status) (e : Errors) {A : Type 0} (result : Result A RunFault) → TellsServing a result c
    → EndsAfterRun a.run.says result ended e → ended ≡ WriteFault → result ≡ Err (faults.Unserved port_faults.WriteFault)
written_by a c ended e result tells h is = not_written ended e (subst IsWriteFault (sym is) tt) a c result tells h

-- serving, whose journal's name was lent
pub serves_asked : (says : PlainServed) (port accept : ℕ) (journal lent : List ℕ) (handlers : List ServiceState) (status : Status) (c : HostChange)
    → c.streams.left ≡ c.streams.left_before → lent ≡ journal
    → MeansServing (record { run = asked_run says c.place.files_before handlers; place = asked_place port accept lent }) c status
    → Means (Some (serves says port accept journal)) handlers status c
serves_asked says port accept journal lent handlers status c left lent_is h =
    (left, subst (λ j. MeansServing (record { run = asked_run says c.place.files_before handlers; place = asked_place port accept j }) c status) lent_is h)
