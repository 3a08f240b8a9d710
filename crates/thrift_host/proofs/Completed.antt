-- A command that is well asked, and on whose way nothing fails, is done, or memory runs out; a call's reply may be refused.
use Rattle.std.proofs.Common.{◌≡◌, ℕ, Bool, true, false, List, [], Option, None, Some, Result, Ok, Err, IsErr, ◌⊎◌, inl, inr, refl, sym, ap, subst, ◌∙◌, true≢false}
use Rattle.std.proofs.lemmas.Bool.{false≢true}
use Rattle.streams.specs.Files.{File}
use Rattle.call_rules.specs.Handling.{ServiceState}
use Rattle.schema.specs.PlainSchema.{PlainSchema}
use Rattle.schema.specs.Sound.{IsSound}
use Rattle.idl_token.specs.declared.Place.{Place}
use Rattle.idl_check.specs.declared.kinds.IdlFaultKind.{IdlFaultKind}
use Rattle.idl_check.specs.Lines.{idl_refusal_text}
use Rattle.idl_check.specs.Verdicts.{IdlVerdict, accepted, refused, is_the_tutorial, IsVerdictBy, IsIdlVerdict}
use Rattle.compat_model.specs.Breaks.{PlainBreak, IsCompatible, IsFirstBreak}
use Rattle.compat_model.specs.StructPairs.{SchemaChange}
use Rattle.service_binding.specs.declared.fault.BindKind.{BindKind}
use Rattle.service_binding.specs.Binding.{NumberedName, AreBound}
use Rattle.service_binding.specs.Defaults.{slot_for_default}
use Rattle.service_binding.specs.FirstRefusal.{IsRefusedFirst}
use Rattle.service_binding.specs.Pairs.{NamedKind}
use Rattle.command_line.specs.Calls.{PlainAsking}
use Rattle.command_line.specs.Words.{PlainCommand, checks, compares, rehearses, records, serves, runs, calls}
use Rattle.client_desk.specs.Asking.{asked_frame}
use Rattle.port_calls.specs.declared.fault.CallRefusal.{CallRefusal}
use Rattle.port_calls.specs.declared.fault.CallRefusal.TheVariants.{NoService, ArgsText, Unasked}
use Rattle.port_calls.specs.Called.{CallChange, IsCallUntouched}
use Rattle.port_calls.specs.Calls.{PlainPortCall, IsSent, IsCallRefused, caller, call_id}
use Rattle.script_text.specs.Reading.{script_of_text}
use Rattle.thrift_value.specs.Tree.{Tree}
use Rattle.recorded_runs.specs.Recorded.{Streams, ScriptReading}
use Rattle.thrift_host.specs.declared.status.Status.{Status}
use Rattle.thrift_host.specs.declared.status.Status.TheVariants.{Done, Usage, IdlRefused, ScriptRefused, BindRefused, FileFault, ReadFault, WriteFault, NetFault, JournalFault, NoMemory, CallRefused, ReplyRefused, Incompatible}
use Rattle.thrift_host.specs.Checks.{AreUntouched, IsRefusedWith, MeansCheck}
use Rattle.thrift_host.specs.Compats.{MeansCompat}
use Rattle.thrift_host.specs.Counts.{CountsTell, NoneRose}
use Rattle.thrift_host.specs.Calls.{MeansPortCall, port_call_by}
use Rattle.thrift_host.specs.Complete.{IsIdlTold, IsGoodIdl, IsGoodChange, IsRunReady, IsGoodInput, IsGoodCall, IsWellAsked}
use Rattle.thrift_host.specs.Errors.{Errors, IsSaid}
use Rattle.thrift_host.specs.Runs.{AskedRun, IsArranged, ScriptRunning, rehearsing, recording, answering_of, IsUnboundWith, MeansUnarranged, MeansRun}
use Rattle.thrift_host.specs.Serving.{AskedServing, HostChange, MeansServing}
use Rattle.thrift_host.specs.Surroundings.{Surroundings, streams_between, change_between, dialled_between, errors_between}
use Rattle.thrift_host.specs.Top.{asked_run, asked_place, Means, MeansCalled}
use Rattle.thrift_host.specs.Workloads.{asked_workload, MeansWorkload}

abbrev pub OneVerdict : Type 0
OneVerdict = (files : List File) (idl : List ℕ) (a b : IdlVerdict) → IsIdlVerdict (Some files) idl a → IsIdlVerdict (Some files) idl b → a ≡ b

abbrev pub BoundIsGood : Type 0
BoundIsGood = (s : PlainSchema) (services : List ServiceState) (pairs : List NamedKind) (default_service : Option (List ℕ)) (bindings : List NumberedName)
    (bound : List ServiceState) (slot : Option ℕ) (place : ℕ) (kind : BindKind) → IsSound s → AreBound s services pairs bindings bound
    → slot_for_default bindings default_service ≡ Ok slot → IsRefusedFirst s services pairs default_service place kind → ⊥

abbrev pub BreakIsNone : Type 0
BreakIsNone = (ch : SchemaChange) (b : PlainBreak) → IsFirstBreak ch b → IsCompatible ch → ⊥

abbrev is_accepted : IdlVerdict → Bool
is_accepted (accepted schema) = true
is_accepted (refused file at kind) = false

abbrev schema_or : PlainSchema → IdlVerdict → PlainSchema
schema_or other (accepted schema) = schema
schema_or other (refused file at kind) = other

abbrev is_read : {A E : Type 0} → Result A E → Bool
is_read (Ok x) = true
is_read (Err e) = false

-- a status that refuses nothing that was handed in
abbrev pub IsNoRefusal : Status → Type 0
IsNoRefusal Usage = ⊥
IsNoRefusal IdlRefused = ⊥
IsNoRefusal ScriptRefused = ⊥
IsNoRefusal BindRefused = ⊥
IsNoRefusal CallRefused = ⊥
IsNoRefusal Incompatible = ⊥
IsNoRefusal _ = Unit {0}

-- where no count rose, no fault was met
no_fault : (before after : Surroundings) (words : Option PlainCommand) (status : Status) → CountsTell before after words status → NoneRose before after → IsNoRefusal status
    → (status ≡ Done) ⊎ ((status ≡ ReplyRefused) ⊎ (status ≡ NoMemory))
no_fault before after words Done f none r = inl refl
no_fault before after words ReplyRefused f none r = inr (inl refl)
no_fault before after words NoMemory f none r = inr (inr refl)
no_fault before after words FileFault f none r = absurd (none.files (f.files.rose refl))
no_fault before after words ReadFault f none r = absurd (none.input (f.input.rose refl))
no_fault before after words WriteFault f none r = absurd (none.output (f.output.rose refl))
no_fault before after words NetFault f none r = absurd (none.binder (f.binder.rose refl))
no_fault before after words JournalFault f none r = absurd (none.sinks (f.sinks.rose refl))
no_fault before after words Usage f none r = absurd r
no_fault before after words IdlRefused f none r = absurd r
no_fault before after words ScriptRefused f none r = absurd r
no_fault before after words BindRefused f none r = absurd r
no_fault before after words CallRefused f none r = absurd r
no_fault before after words Incompatible f none r = absurd r

abbrev some_number : ℕ → Option ℕ
some_number n = Some n

same_some : (m n : ℕ) → some_number m ≡ some_number n → m ≡ n
same_some m n e = cc

abbrev a_value : Tree → Result Tree ℕ
a_value value = Ok value

same_read : (x y : Tree) → a_value x ≡ a_value y → x ≡ y
same_read x y e = cc

not_both : {A E : Type 0} (r : Result A E) (x : A) (fault : E) → r ≡ Ok x → r ≡ Err fault → ⊥
not_both r x fault is err = true≢false (ap is_read (sym is ∙ err))

-- a call with a frame isn't refused
sent_or_refused : (call : PlainPortCall) (refusal : CallRefusal) → IsSent call → IsCallRefused call refusal → ⊥
sent_or_refused call NoService sent none = let e : Some sent.service ≡ None = sym sent.is_service ∙ none in let f : ⊥ = cc in f
sent_or_refused call ArgsText sent (service, is, err) = false≢true (subst IsErr sent.is_args err)
sent_or_refused call (Unasked fault) sent (service, args, is_service, is_args, none) =
    let services : sent.service ≡ service = same_some sent.service service (sym sent.is_service ∙ is_service) in
    let values : sent.args ≡ args = same_read sent.args args (sym sent.is_args ∙ is_args) in
    not_both (asked_frame (caller call service) call.method args call_id) sent.frame fault
    (subst (λ n. asked_frame (caller call n) call.method args call_id ≡ Ok sent.frame) services
    (subst (λ v. asked_frame (caller call sent.service) call.method v call_id ≡ Ok sent.frame) values sent.is_frame)) none

-- of the IDL that the program holds files say nothing
among : (idl : List ℕ) (v : IdlVerdict) → is_the_tutorial idl ≡ true → IsIdlVerdict None idl v → IsIdlVerdict (Some []) idl v
among idl v is h = subst (λ b. IsVerdictBy b (Some []) idl v) (sym is) (subst (λ b. IsVerdictBy b None idl v) is h)

module _ (one : OneVerdict) (good : BoundIsGood) (never : BreakIsNone) where
  one_told : (files : Option (List File)) (idl : List ℕ) (a b : IdlVerdict) → IsIdlTold files idl → IsIdlVerdict files idl a → IsIdlVerdict files idl b → a ≡ b
  one_told (Some files) idl a b told x y = one files idl a b x y
  one_told None idl a b (inl some) x y = absurd (false≢true some)
  one_told None idl a b (inr is) x y = one [] idl a b (among idl a is x) (among idl b is y)

  not_refused : (files : Option (List File)) (idl : List ℕ) (schema : PlainSchema) (Holds : List ℕ → Place → IdlFaultKind → Type 0)
      → IsIdlTold files idl → IsIdlVerdict files idl (accepted schema) → IsRefusedWith files idl Holds → ⊥
  not_refused files idl schema Holds told v h = true≢false (ap is_accepted (one_told files idl (accepted schema) (refused h.0 h.1 h.2) told v h.3))

  not_unbound : (r : AskedRun) (Holds : ℕ → BindKind → Type 0) → IsRunReady r → IsUnboundWith r Holds → ⊥
  not_unbound r Holds ready h =
      let a : IsArranged r = ready.arranged in
      let same : a.schema ≡ h.0 = ap (schema_or a.schema) (one_told r.files r.says.idl (accepted a.schema) (accepted h.0) ready.told a.has.verdict h.1.verdict) in
      good a.schema r.handlers r.says.pairs r.says.default_service a.bindings a.bound a.default_slot h.2.0 h.2.1 a.has.sound a.are_bound a.is_default
      (subst (λ s. IsRefusedFirst s r.handlers r.says.pairs r.says.default_service h.2.0 h.2.1) (sym same) h.2.2)

  -- nothing is refused where a run is ready
  unarranged_goes : (r : AskedRun) (s : Streams) (status : Status) → IsRunReady r → MeansUnarranged r status s → IsNoRefusal status
  unarranged_goes r s Usage ready h = absurd h
  unarranged_goes r s IdlRefused ready h = absurd (not_refused r.files r.says.idl ready.arranged.schema (λ _ _ _. AreUntouched s) ready.told ready.arranged.has.verdict h)
  unarranged_goes r s ScriptRefused ready h = absurd h
  unarranged_goes r s BindRefused ready h = absurd (not_unbound r (λ _ _. AreUntouched s) ready h)
  unarranged_goes r s CallRefused ready h = absurd h
  unarranged_goes r s ReplyRefused ready h = absurd h
  unarranged_goes r s Incompatible ready h = absurd h
  unarranged_goes r s _ ready h = tt

  check_goes : (files : Option (List File)) (idl : List ℕ) (s : Streams) (status : Status) → IsGoodIdl files idl → MeansCheck files idl status s → IsNoRefusal status
  check_goes files idl s Usage asked h = absurd h
  check_goes files idl s IdlRefused asked h = absurd (not_refused files idl asked.schema (λ _ _ _. AreUntouched s) asked.told asked.verdict h)
  check_goes files idl s ScriptRefused asked h = absurd h
  check_goes files idl s BindRefused asked h = absurd h
  check_goes files idl s CallRefused asked h = absurd h
  check_goes files idl s ReplyRefused asked h = absurd h
  check_goes files idl s Incompatible asked h = absurd h
  check_goes files idl s _ asked h = tt

  -- where there is a break, the change isn't compatible
  not_broken : (files : Option (List File)) (old new : List ℕ) (ch : SchemaChange) (b : PlainBreak) → IsGoodChange files old new
      → IsIdlVerdict files old (accepted ch.old) → IsIdlVerdict files new (accepted ch.new) → IsFirstBreak ch b → ⊥
  not_broken files old new ch b asked first second broken =
      let same_old : asked.before.schema ≡ ch.old =
      ap (schema_or ch.old) (one_told files old (accepted asked.before.schema) (accepted ch.old) asked.before.told asked.before.verdict first) in
      let same_new : asked.after.schema ≡ ch.new =
      ap (schema_or ch.new) (one_told files new (accepted asked.after.schema) (accepted ch.new) asked.after.told asked.after.verdict second) in
      never ch b broken (subst IsCompatible (λ i. record { old = same_old i; new = same_new i }) asked.compatible)

  compat_goes : (files : Option (List File)) (old new : List ℕ) (s : Streams) (status : Status) → IsGoodChange files old new → MeansCompat files old new status s
      → IsNoRefusal status
  compat_goes files old new s Usage asked h = absurd h
  compat_goes files old new s IdlRefused asked (inl h) =
      absurd (not_refused files old asked.before.schema (λ _ _ _. AreUntouched s) asked.before.told asked.before.verdict h)
  compat_goes files old new s IdlRefused asked (inr h) =
      absurd (not_refused files new asked.after.schema (λ _ _ _. AreUntouched s) asked.after.told asked.after.verdict h.2)
  compat_goes files old new s ScriptRefused asked h = absurd h
  compat_goes files old new s BindRefused asked h = absurd h
  compat_goes files old new s CallRefused asked h = absurd h
  compat_goes files old new s ReplyRefused asked h = absurd h
  compat_goes files old new s Incompatible asked h = absurd (not_broken files old new h.0 h.2.0 asked h.1.0 h.1.1 h.2.1)
  compat_goes files old new s _ asked h = tt

  run_goes : (way : ScriptRunning) (r : AskedRun) (reading : ScriptReading) → ((a : IsArranged r) → way.script_in (answering_of r a) ≡ reading)
      → (s : Streams) (status : Status) → IsRunReady r → IsGoodInput reading s.left_before → MeansRun way r status s → IsNoRefusal status
  run_goes way r reading same s ScriptRefused ready input h =
      true≢false (ap is_read (sym input.is_script ∙ sym (ap (λ f. f input.text) (same h.0)) ∙ h.1.1 input.text input.told))
  run_goes way r reading same s Usage ready input h = unarranged_goes r s Usage ready h
  run_goes way r reading same s IdlRefused ready input h = unarranged_goes r s IdlRefused ready h
  run_goes way r reading same s BindRefused ready input h = unarranged_goes r s BindRefused ready h
  run_goes way r reading same s CallRefused ready input h = unarranged_goes r s CallRefused ready h
  run_goes way r reading same s ReplyRefused ready input h = unarranged_goes r s ReplyRefused ready h
  run_goes way r reading same s Incompatible ready input h = unarranged_goes r s Incompatible ready h
  run_goes way r reading same s _ ready input h = tt

  serve_goes : (a : AskedServing) (c : HostChange) (status : Status) → IsRunReady a.run → MeansServing a c status → IsNoRefusal status
  serve_goes a c Usage ready h = absurd h
  serve_goes a c IdlRefused ready h = unarranged_goes a.run c.streams IdlRefused ready h.0
  serve_goes a c ScriptRefused ready h = absurd h
  serve_goes a c BindRefused ready h = unarranged_goes a.run c.streams BindRefused ready h.0
  serve_goes a c CallRefused ready h = absurd h
  serve_goes a c ReplyRefused ready h = absurd h
  serve_goes a c Incompatible ready h = absurd h
  serve_goes a c _ ready h = tt

  work_goes : (r : AskedRun) (seed size : ℕ) (s : Streams) (status : Status) → IsRunReady r → MeansWorkload r seed size status s → IsNoRefusal status
  work_goes r seed size s Done ready h = tt
  work_goes r seed size s WriteFault ready h = tt
  work_goes r seed size s status ready h = unarranged_goes r s status ready h

  -- a call with a frame is made
  call_goes : (files : Option (List File)) (asking : PlainAsking) (c : CallChange) (e : Errors) (status : Status) → IsGoodCall files asking
      → MeansPortCall files asking status c e → IsNoRefusal status
  call_goes files asking c e Usage asked h = absurd h
  call_goes files asking c e IdlRefused asked h =
      absurd (not_refused files asking.idl asked.idl.schema (λ file at kind. IsCallUntouched c × IsSaid e (idl_refusal_text file at kind)) asked.idl.told asked.idl.verdict h)
  call_goes files asking c e ScriptRefused asked h = absurd h
  call_goes files asking c e BindRefused asked h = absurd h
  call_goes files asking c e Incompatible asked h = absurd h
  call_goes files asking c e CallRefused asked (refusal, (schema, has, fault), said) =
      let same : asked.idl.schema ≡ schema =
      ap (schema_or schema) (one_told files asking.idl (accepted asked.idl.schema) (accepted schema) asked.idl.told asked.idl.verdict has.verdict) in
      absurd (sent_or_refused (port_call_by asking schema) refusal (subst (λ s. IsSent (port_call_by asking s)) same asked.sent) fault.0)
  call_goes files asking c e _ asked h = tt

  pub ends_well : (words : Option PlainCommand) (handlers : List ServiceState) (status : Status) (before after : Surroundings)
      → Means words handlers status (change_between before after) → MeansCalled words before.files.held status (dialled_between before after) (errors_between before after)
      → CountsTell before after words status → IsWellAsked words handlers before → NoneRose before after → (status ≡ Done) ⊎ ((status ≡ ReplyRefused) ⊎ (status ≡ NoMemory))
  ends_well (Some (checks idl)) handlers status before after h called shows asked none =
      no_fault before after (Some (checks idl)) status shows none (check_goes before.files.held idl (streams_between before after) status asked h)
  ends_well (Some (compares old new)) handlers status before after h called shows asked none =
      no_fault before after (Some (compares old new)) status shows none (compat_goes before.files.held old new (streams_between before after) status asked h)
  ends_well (Some (rehearses says)) handlers status before after h called shows asked none =
      no_fault before after (Some (rehearses says)) status shows none
      (run_goes rehearsing (asked_run says before.files.held handlers) (script_of_text says.workers true true) (λ a. refl) (streams_between before after) status asked.0 asked.1 h)
  ends_well (Some (records says)) handlers status before after h called shows asked none =
      no_fault before after (Some (records says)) status shows none
      (run_goes recording (asked_run says before.files.held handlers) (script_of_text says.workers false true) (λ a. refl) (streams_between before after) status asked.0 asked.1 h)
  ends_well (Some (serves says port accept journal)) handlers status before after h called shows asked none =
      no_fault before after (Some (serves says port accept journal)) status shows none
      (serve_goes (record { run = asked_run says before.files.held handlers; place = asked_place port accept journal }) (change_between before after) status asked h.1)
  ends_well (Some (runs seed size workers)) handlers status before after h called shows asked none =
      no_fault before after (Some (runs seed size workers)) status shows none
      (work_goes (asked_workload workers before.files.held handlers) seed size (streams_between before after) status asked h)
  ends_well (Some (calls asking)) handlers status before after h called shows asked none =
      no_fault before after (Some (calls asking)) status shows none
      (call_goes before.files.held asking (dialled_between before after) (errors_between before after) status asked called)
  ends_well None handlers status before after h called shows asked none = absurd asked
