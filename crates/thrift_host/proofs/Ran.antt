-- What a status says of a run.
use Rattle.std.proofs.Common.{◌≡◌, Result, Ok, Err, MatchResult, sym, subst, inl, inr}
use Rattle.std.specs.Prelude.{⊤}
use Rattle.idl_check.specs.declared.refusal.NoSchema.{NoSchema}
use Rattle.idl_check.specs.declared.refusal.NoSchema.TheVariants as reasons
use Rattle.idl_check.specs.Verdicts.{IsIdlVerdict, IsUnreadIdl}
use Rattle.idl_check.specs.Telling.{TellsWhy}
use Rattle.service_binding.specs.declared.fault.BindFault.{BindFault}
use Rattle.service_binding.specs.declared.fault.BindFault.TheVariants as bind_faults
use Rattle.service_binding.specs.FirstRefusal.{IsRefusedFirst, OnRefusal}
use Rattle.port_serving.specs.declared.fault.PortFault.{PortFault}
use Rattle.recorded_runs.specs.declared.fault.ServingFault.{ServingFault}
use Rattle.recorded_runs.specs.declared.fault.ServingFault.TheVariants as serving_faults
use Rattle.recorded_runs.specs.Recorded.{Streams, MeansRecordedFault}
use Rattle.thrift_host.specs.declared.status.Status.{Status}
use Rattle.thrift_host.specs.declared.status.Status.TheVariants.{Done, Usage, IdlRefused, ScriptRefused, BindRefused, FileFault, ReadFault, WriteFault, NetFault, JournalFault, NoMemory, CallRefused, ReplyRefused, Incompatible}
use Rattle.thrift_host.specs.declared.arranging.RunFault.{RunFault}
use Rattle.thrift_host.specs.declared.arranging.RunFault.TheVariants as faults
use Rattle.thrift_host.specs.Errors.{Errors}
use Rattle.thrift_host.specs.Checks.{AreUntouched}
use Rattle.thrift_host.specs.Runs.{AskedRun, IsAccepted, IsAnsweredBy, ScriptRunning, MeansUnarranged, SaysUnarranged, MeansRun, SaysRun}
use Rattle.thrift_host.specs.Steps.{EndsWithout, EndsUnbound, EndsUnanswered, EndsAfterRun, TellsUnarranged, TellsFault, TellsRun}

-- what a status means where nothing is arranged
module _ (r : AskedRun) (ended : Status) (s : Streams) (e : Errors) where
  -- it goes along with the status
  stays : (status : Status) → ended ≡ status → MeansUnarranged r status s → MeansUnarranged r ended s
  stays status is h = subst (λ status. MeansUnarranged r status s) (sym is) h

  -- an IDL that has no schema
  pub without_schema_means : (reason : NoSchema) → TellsWhy (IsIdlVerdict r.files r.says.idl) (IsUnreadIdl r.files r.says.idl) reason → AreUntouched s
      → EndsWithout reason ended e → MeansUnarranged r ended s
  without_schema_means (reasons.Refused f) why untouched (inl h) = stays _ h.0 (f.file, f.at, f.kind, why, untouched)
  without_schema_means (reasons.Refused f) why untouched (inr h) = stays _ h.0 untouched
  without_schema_means reasons.FileFault why untouched h = stays _ h.0 (why, untouched)
  without_schema_means reasons.NoMemory why untouched h = stays _ h.0 untouched

  -- pairs that aren't bound
  pub unbound_means : (fault : BindFault) → IsAccepted r (λ schema. OnRefusal fault (IsRefusedFirst schema r.handlers r.says.pairs r.says.default_service)) → AreUntouched s
      → EndsUnbound r.says fault ended e → MeansUnarranged r ended s
  unbound_means (bind_faults.Refused place kind) (schema, has, first) untouched (inl h) = stays _ h.0 (schema, has, (place, kind, first, untouched))
  unbound_means (bind_faults.Refused place kind) at untouched (inr h) = stays _ h.0 untouched
  unbound_means bind_faults.NoMemory at untouched h = stays _ h.0 untouched

-- and which line it says
module _ (r : AskedRun) (ended : Status) (e : Errors) where
  line_stays : (status : Status) → ended ≡ status → SaysUnarranged r status e → SaysUnarranged r ended e
  line_stays status is h = subst (λ status. SaysUnarranged r status e) (sym is) h

  pub without_schema_said : (reason : NoSchema) → TellsWhy (IsIdlVerdict r.files r.says.idl) (IsUnreadIdl r.files r.says.idl) reason
      → EndsWithout reason ended e → SaysUnarranged r ended e
  without_schema_said (reasons.Refused f) why (inl h) = line_stays _ h.0 (f.file, f.at, f.kind, why, h.1)
  without_schema_said (reasons.Refused f) why (inr h) = line_stays _ h.0 h.1
  without_schema_said reasons.FileFault why h = line_stays _ h.0 h.1
  without_schema_said reasons.NoMemory why h = line_stays _ h.0 h.1

  pub unbound_said : (fault : BindFault) → IsAccepted r (λ schema. OnRefusal fault (IsRefusedFirst schema r.handlers r.says.pairs r.says.default_service))
      → EndsUnbound r.says fault ended e → SaysUnarranged r ended e
  unbound_said (bind_faults.Refused place kind) (schema, has, first) (inl h) = line_stays _ h.0 (schema, has, (place, kind, first, h.1))
  unbound_said (bind_faults.Refused place kind) at (inr h) = line_stays _ h.0 h.1
  unbound_said bind_faults.NoMemory at h = line_stays _ h.0 h.1

-- both hold of a run that isn't arranged
unarranged_means : (way : ScriptRunning) (r : AskedRun) (s : Streams) (status : Status) → MeansUnarranged r status s → MeansRun way r status s
unarranged_means way r s Usage h = h
unarranged_means way r s IdlRefused h = h
unarranged_means way r s FileFault h = h
unarranged_means way r s BindRefused h = h
unarranged_means way r s NoMemory h = inl h.1
unarranged_means way r s Done h = absurd h
unarranged_means way r s ScriptRefused h = absurd h
unarranged_means way r s ReadFault h = absurd h
unarranged_means way r s WriteFault h = absurd h
unarranged_means way r s NetFault h = absurd h
unarranged_means way r s JournalFault h = absurd h
unarranged_means way r s CallRefused h = absurd h
unarranged_means way r s ReplyRefused h = absurd h
unarranged_means way r s Incompatible h = absurd h

unarranged_said : (way : ScriptRunning) (r : AskedRun) (s : Streams) (e : Errors) (status : Status) → SaysUnarranged r status e → SaysRun way r status s e
unarranged_said way r s e ScriptRefused h = absurd h
unarranged_said way r s e Usage h = h
unarranged_said way r s e IdlRefused h = h
unarranged_said way r s e FileFault h = h
unarranged_said way r s e BindRefused h = h
unarranged_said way r s e NoMemory h = h
unarranged_said way r s e Done h = h
unarranged_said way r s e ReadFault h = h
unarranged_said way r s e WriteFault h = h
unarranged_said way r s e NetFault h = h
unarranged_said way r s e JournalFault h = h
unarranged_said way r s e CallRefused h = h
unarranged_said way r s e ReplyRefused h = h
unarranged_said way r s e Incompatible h = h

module _ (way : ScriptRunning) (r : AskedRun) (ended : Status) (s : Streams) (e : Errors) where
  -- what a status means goes along with the status
  means : (status : Status) → ended ≡ status → MeansRun way r status s → MeansRun way r ended s
  means status is h = subst (λ status. MeansRun way r status s) (sym is) h

  says : (status : Status) → ended ≡ status → SaysRun way r status s e → SaysRun way r ended s e
  says status is h = subst (λ status. SaysRun way r status s e) (sym is) h

  -- a recording that isn't answered
  unanswered_means : (fault : ServingFault) → IsAnsweredBy r (λ a. MeansRecordedFault (way.script_in a) (way.IsRunOf a) a.line fault s)
      → EndsUnanswered fault ended e → MeansRun way r ended s
  unanswered_means (serving_faults.NoScript fault) (a, h) (inl is) = means _ is.0 (a, (fault, h.0, h.1))
  unanswered_means (serving_faults.NoScript fault) (a, h) (inr is) = means _ is.0 (inl h.1)
  unanswered_means serving_faults.ReadFault (a, h) is = means _ is.0 (a, h)
  unanswered_means serving_faults.WriteFault h is = means _ is.0 h
  unanswered_means serving_faults.JournalFault (a, h) is = means _ is.0 (inl h)
  unanswered_means serving_faults.NoMemory (a, inl h) is = means _ is.0 (inl h)
  unanswered_means serving_faults.NoMemory (a, inr h) is = means _ is.0 (inr (a, h))

  unanswered_said : (fault : ServingFault) → IsAnsweredBy r (λ a. MeansRecordedFault (way.script_in a) (way.IsRunOf a) a.line fault s)
      → EndsUnanswered fault ended e → SaysRun way r ended s e
  unanswered_said (serving_faults.NoScript fault) (a, h) (inl is) = says _ is.0 (a, (fault, h.0, is.1))
  unanswered_said (serving_faults.NoScript fault) at (inr is) = says _ is.0 is.1
  unanswered_said serving_faults.ReadFault at is = says _ is.0 is.1
  unanswered_said serving_faults.WriteFault at is = says _ is.0 is.1
  unanswered_said serving_faults.JournalFault at is = says _ is.0 is.1
  unanswered_said serving_faults.NoMemory at is = says _ is.0 is.1

  -- whatever it came to
  pub run_means : {A : Type 0} (result : Result A RunFault) → TellsRun way r result s → EndsAfterRun r.says result ended e
      → MeansRun way r ended s
  run_means (Ok x) tells h = means _ h.0 tells
  run_means (Err (faults.NoSchema reason)) (why, untouched) h = unarranged_means way r s ended (without_schema_means r ended s e reason why untouched h)
  run_means (Err (faults.Unbound fault)) (at, untouched) h = unarranged_means way r s ended (unbound_means r ended s e fault at untouched h)
  run_means (Err (faults.Unanswered fault)) tells h = unanswered_means fault tells h
  run_means (Err (faults.Unserved fault)) (why, untouched) h = absurd why

  pub run_said : {A : Type 0} (result : Result A RunFault) → TellsRun way r result s → EndsAfterRun r.says result ended e
      → SaysRun way r ended s e
  run_said (Ok x) tells h = says _ h.0 h.1
  run_said (Err (faults.NoSchema reason)) tells h = unarranged_said way r s e ended (without_schema_said r ended e reason tells.0 h)
  run_said (Err (faults.Unbound fault)) tells h = unarranged_said way r s e ended (unbound_said r ended e fault tells.0 h)
  run_said (Err (faults.Unanswered fault)) tells h = unanswered_said fault tells h
  run_said (Err (faults.Unserved fault)) tells h = absurd tells.0

-- a run that isn't arranged, and read and wrote nothing
pub untouched_fault : (way : ScriptRunning) (r : AskedRun) (fault : RunFault) (s : Streams) → TellsUnarranged r fault → AreUntouched s → TellsFault way r fault s
untouched_fault way r (faults.NoSchema reason) s why untouched = (why, untouched)
untouched_fault way r (faults.Unbound fault) s why untouched = (why, untouched)
untouched_fault way r (faults.Unanswered fault) s why untouched = absurd why
untouched_fault way r (faults.Unserved fault) s why untouched = absurd why

-- whose fault is none of a recording
pub not_unanswered : {A : Type 0} (r : AskedRun) (result : Result A RunFault) (other : ServingFault)
    → MatchResult result (λ _. ⊤) (λ fault. TellsUnarranged r fault) → result ≡ Err (faults.Unanswered other) → ⊥
not_unanswered r result other why is = subst (λ x. MatchResult x (λ _. ⊤) (λ fault. TellsUnarranged r fault)) is why

-- nor is it one of a port
pub not_unserved : {A : Type 0} (r : AskedRun) (result : Result A RunFault) (other : PortFault)
    → MatchResult result (λ _. ⊤) (λ fault. TellsUnarranged r fault) → result ≡ Err (faults.Unserved other) → ⊥
not_unserved r result other why is = subst (λ x. MatchResult x (λ _. ⊤) (λ fault. TellsUnarranged r fault)) is why

-- it ends with no fault of the net or of a journal
module _ (way : ScriptRunning) (r : AskedRun) (s : Streams) (ended : Status) (means : MeansRun way r ended s) where
  pub run_no_net : ended ≡ NetFault → ⊥
  run_no_net is = subst (λ st. MeansRun way r st s) is means

  pub run_no_journal : ended ≡ JournalFault → ⊥
  run_no_journal is = subst (λ st. MeansRun way r st s) is means
