-- What a status says of a workload, and that the tutorial's calculator is served.
use Rattle.std.proofs.Common.{◌≡◌, ℕ, ◌≤◌, Bool, true, false, List, [], ◌∷◌, cond, Option, Some, None, codes, Result, Ok, Err, MatchResult, IfOk, refl, sym, ap, ◌∙◌, subst, arith}
use Rattle.std.specs.Prelude.{⊤}
use Rattle.std.specs.List.{filter, AllByRecursion}
use Rattle.streams.specs.Files.{File}
use Rattle.idl_check.specs.declared.refusal.NoSchema.{NoSchema}
use Rattle.call_rules.specs.declared.kind.Kind.{Kind}
use Rattle.call_rules.specs.declared.kind.Kind.TheVariants.{Calculator, Store, Mirror}
use Rattle.call_rules.specs.Handling.{ServiceState}
use Rattle.call_model.specs.Offices.{PlainOffice}
use Rattle.command_line.specs.Bounds.{KeepsServedBounds}
use Rattle.command_line.specs.Served.{PlainServed}
use Rattle.schema.specs.LookUp.{service_named}
use Rattle.schema.specs.PlainSchema.{PlainSchema}
use Rattle.struct_skew.specs.WrittenTests.{some_passes}
use Rattle.service_binding.specs.declared.fault.BindKind.{BindKind}
use Rattle.service_binding.specs.Binding.{NumberedName, AreBound}
use Rattle.service_binding.specs.Handlers.{same_kind, is_of_kind, is_handed_in, first_left}
use Rattle.service_binding.specs.Services.{new_number}
use Rattle.recorded_runs.specs.declared.fault.ServingFault.{ServingFault}
use Rattle.recorded_runs.specs.declared.fault.ServingFault.TheVariants as serving_faults
use Rattle.recorded_runs.specs.Recorded.{Streams}
use Rattle.workload.specs.ExpectedRun.{work_text}
use Rattle.workload.specs.Calculators.{BindsCalculator, IsCalculatorsOffice}
use Rattle.workload.specs.CalculatorTests.{is_calculator}
use Rattle.workload.specs.Summed.{HasCalculator}
use Rattle.workload.proofs.Tested.{is_one}
use Rattle.recorded_runs.specs.Summaries.{EndsSummary}
use Rattle.thrift_host.specs.declared.status.Status.{Status}
use Rattle.thrift_host.specs.declared.status.Status.TheVariants.{Done, Usage, IdlRefused, ScriptRefused, BindRefused, FileFault, ReadFault, WriteFault, NetFault, JournalFault, NoMemory, CallRefused, ReplyRefused, Incompatible}
use Rattle.thrift_host.specs.declared.arranging.RunFault.{RunFault}
use Rattle.thrift_host.specs.declared.arranging.RunFault.TheVariants as faults
use Rattle.thrift_host.specs.Errors.{Errors}
use Rattle.thrift_host.specs.Runs.{AskedRun, arranged_office, MeansUnarranged, SaysUnarranged}
use Rattle.thrift_host.specs.Workloads.{calculator_pairs, workload_says, asked_workload, has_calculator, MeansWorkload}
use Rattle.thrift_host.specs.Steps.{EndsUnanswered, EndsAfterRun, IsArrangedAs, TellsUnarranged, TellsUnworked, TellsWorkload}
use Rattle.thrift_host.proofs.Served.{IsWriteFault, not_without_schema, not_unbound}
use Rattle.thrift_host.proofs.Ran.{without_schema_means, unbound_means, without_schema_said, unbound_said}

module _ (r : AskedRun) (seed size : ℕ) (ended : Status) (s : Streams) (e : Errors) where
  stays : (status : Status) → ended ≡ status → MeansWorkload r seed size status s → MeansWorkload r seed size ended s
  stays status is h = subst (λ status. MeansWorkload r seed size status s) (sym is) h

  unarranged_workload : (status : Status) → MeansUnarranged r status s → MeansWorkload r seed size status s
  unarranged_workload Done h = absurd h
  unarranged_workload WriteFault h = absurd h
  unarranged_workload Usage h = h
  unarranged_workload IdlRefused h = h
  unarranged_workload ScriptRefused h = h
  unarranged_workload BindRefused h = h
  unarranged_workload FileFault h = h
  unarranged_workload ReadFault h = h
  unarranged_workload NetFault h = h
  unarranged_workload JournalFault h = h
  unarranged_workload CallRefused h = h
  unarranged_workload ReplyRefused h = h
  unarranged_workload Incompatible h = h
  unarranged_workload NoMemory h = h

  unanswered_workload : (fault : ServingFault) → (s.left ≡ s.left_before) × EndsSummary fault (work_text seed size) s.taken_before s.taken → EndsUnanswered fault ended e
      → MeansWorkload r seed size ended s
  unanswered_workload (serving_faults.NoScript fault) (unread, h) is = absurd h
  unanswered_workload serving_faults.ReadFault (unread, h) is = absurd h
  unanswered_workload serving_faults.WriteFault (unread, h) is = stays WriteFault is.0 (unread, h)
  unanswered_workload serving_faults.JournalFault (unread, h) is = stays NoMemory is.0 (unread, h)
  unanswered_workload serving_faults.NoMemory (unread, h) is = stays NoMemory is.0 (unread, h)

  -- whatever it came to
  pub workload_means : {A : Type 0} (result : Result A RunFault) → TellsWorkload r seed size result s → EndsAfterRun r.says result ended e
      → MeansWorkload r seed size ended s
  workload_means (Ok x) tells h = stays Done h.0 tells
  workload_means (Err (faults.NoSchema reason)) (why, untouched) h = unarranged_workload ended (without_schema_means r ended s e reason why untouched h)
  workload_means (Err (faults.Unbound fault)) (at, untouched) h = unarranged_workload ended (unbound_means r ended s e fault at untouched h)
  workload_means (Err (faults.Unanswered fault)) tells h = unanswered_workload fault tells h
  workload_means (Err (faults.Unserved fault)) tells h = absurd tells.0

  said : (status : Status) → ended ≡ status → SaysUnarranged r status e → SaysUnarranged r ended e
  said status is h = subst (λ status. SaysUnarranged r status e) (sym is) h

  unanswered_said : (fault : ServingFault) → (s.left ≡ s.left_before) × EndsSummary fault (work_text seed size) s.taken_before s.taken → EndsUnanswered fault ended e
      → SaysUnarranged r ended e
  unanswered_said (serving_faults.NoScript fault) (unread, h) is = absurd h
  unanswered_said serving_faults.ReadFault (unread, h) is = absurd h
  unanswered_said serving_faults.WriteFault h is = said WriteFault is.0 is.1
  unanswered_said serving_faults.JournalFault h is = said NoMemory is.0 is.1
  unanswered_said serving_faults.NoMemory h is = said NoMemory is.0 is.1

  -- and which line it says
  pub workload_said : {A : Type 0} (result : Result A RunFault) → TellsWorkload r seed size result s → EndsAfterRun r.says result ended e → SaysUnarranged r ended e
  workload_said (Ok x) tells h = said Done h.0 h.1
  workload_said (Err (faults.NoSchema reason)) tells h = without_schema_said r ended e reason tells.0 h
  workload_said (Err (faults.Unbound fault)) tells h = unbound_said r ended e fault tells.0 h
  workload_said (Err (faults.Unanswered fault)) tells h = unanswered_said fault tells h
  workload_said (Err (faults.Unserved fault)) tells h = absurd tells.0

-- a write fault comes of the summary
module _ (r : AskedRun) (seed size : ℕ) (ended : Status) (s : Streams) (e : Errors) (writes : IsWriteFault ended) where
  unsummed : (fault : ServingFault) → (s.left ≡ s.left_before) × EndsSummary fault (work_text seed size) s.taken_before s.taken → EndsUnanswered fault ended e
      → fault ≡ serving_faults.WriteFault
  unsummed (serving_faults.NoScript fault) (unread, h) is = absurd h
  unsummed serving_faults.ReadFault (unread, h) is = absurd h
  unsummed serving_faults.WriteFault h is = refl
  unsummed serving_faults.JournalFault h is = absurd (subst IsWriteFault is.0 writes)
  unsummed serving_faults.NoMemory h is = absurd (subst IsWriteFault is.0 writes)

  pub workload_unwritten : {A : Type 0} (result : Result A RunFault) → TellsWorkload r seed size result s → EndsAfterRun r.says result ended e
      → result ≡ Err (faults.Unanswered serving_faults.WriteFault)
  workload_unwritten (Ok x) tells h = absurd (subst IsWriteFault h.0 writes)
  workload_unwritten (Err (faults.NoSchema reason)) tells h = absurd (not_without_schema ended e writes reason h)
  workload_unwritten (Err (faults.Unbound fault)) tells h = absurd (not_unbound ended e writes r.says fault h)
  workload_unwritten (Err (faults.Unanswered fault)) tells h = ap (λ f. Err (faults.Unanswered f)) (unsummed fault tells h)
  workload_unwritten (Err (faults.Unserved fault)) tells h = absurd tells.0

calculator_kind : (kind : Kind) → same_kind Calculator kind ≡ true → kind ≡ Calculator
calculator_kind Calculator e = refl
calculator_kind Store e = absurd cc
calculator_kind Mirror e = absurd cc

passing : (test : ServiceState → Bool) (xs : List ServiceState) → AllByRecursion (λ x. test x ≡ true) (filter test xs)
passing test [] = tt
passing test (x ∷ xs) = go (test x) refl (passing test xs)
  where
    go : (here : Bool) → test x ≡ here → AllByRecursion (λ x. test x ≡ true) (filter test xs) → AllByRecursion (λ x. test x ≡ true) (cond here (x ∷ filter test xs) (filter test xs))
    go true is more = (is, more)
    go false is more = more

abbrev taken : ServiceState → Result ServiceState BindKind
taken service = Ok service

same_taken : (x y : ServiceState) → taken x ≡ taken y → x ≡ y
same_taken x y e = cc

-- the first of the handlers that are left is of their kind
first_is : (handed : Bool) (xs : List ServiceState) (service : ServiceState) → AllByRecursion (λ x. is_of_kind Calculator x ≡ true) xs → first_left handed xs ≡ taken service
    → service.kind ≡ Calculator
first_is handed (x ∷ xs) service all e = ap (λ (v : ServiceState). v.kind) (sym (same_taken x service e)) ∙ calculator_kind x.kind all.0
first_is true [] service all e = absurd cc
first_is false [] service all e = absurd cc

abbrev numbered : ℕ → Result ℕ BindKind
numbered n = Ok n

same_number : (m n : ℕ) → numbered m ≡ numbered n → m ≡ n
same_number m n e = cc

tested_number : (s : PlainSchema) (o : Option ℕ) (n : ℕ) → new_number false o ≡ numbered n → some_passes o (is_calculator s) ≡ true → is_calculator s n ≡ true
tested_number s None n e test = absurd cc
tested_number s (Some m) n e test = subst (λ k. is_calculator s k ≡ true) (same_number m n e) test

-- the calculator alone is bound, to a calculator
bound_alone : (s : PlainSchema) (handlers : List ServiceState) (bindings : List NumberedName) (bound : List ServiceState) → AreBound s handlers calculator_pairs bindings bound
    → has_calculator s ≡ true → BindsCalculator s bindings × HasCalculator bound
bound_alone s handlers [] bound are test = absurd are
bound_alone s handlers (b ∷ bindings) [] are test = absurd are
bound_alone s handlers (b ∷ []) (service ∷ []) are test = (
  is_one s b.1 (tested_number s (service_named s (codes "Calculator")) b.1 are.0.number test),
  first_is (is_handed_in Calculator handlers) (filter (is_of_kind Calculator) handlers) service (passing (is_of_kind Calculator) handlers) are.0.handler,
)
bound_alone s handlers (b ∷ []) (service ∷ other ∷ bound) are test = absurd are.1
bound_alone s handlers (b ∷ other ∷ bindings) (service ∷ bound) are test = absurd are.1

abbrev slot_found : Option ℕ → Result (Option ℕ) BindKind
slot_found slot = Ok slot

same_slot : (x y : Option ℕ) → slot_found x ≡ slot_found y → x ≡ y
same_slot x y e = cc

-- an office that is arranged for a workload is a calculator's
arranged_calculator : (workers : ℕ) (files : Option (List File)) (handlers : List ServiceState) (office : PlainOffice) (services : List ServiceState) (s : PlainSchema)
    → IsArrangedAs (asked_workload workers files handlers) office services → office.schema ≡ s → has_calculator s ≡ true → IsCalculatorsOffice office × HasCalculator services
arranged_calculator workers files handlers office services s made same test =
    let a = made.arranged in
    let schema_is : a.schema ≡ s = sym (ap (λ (o : PlainOffice). o.schema) made.office_is) ∙ same in
    let both = bound_alone a.schema handlers a.bindings a.bound a.are_bound (subst (λ x. has_calculator x ≡ true) (sym schema_is) test) in
    let arranged : IsCalculatorsOffice (arranged_office (asked_workload workers files handlers) a) =
    record { protocol = refl; bound = both.0; no_default = sym (same_slot None a.default_slot a.is_default); room = omega arith } in
    (subst IsCalculatorsOffice (sym made.office_is) arranged, subst HasCalculator (sym made.services_are) both.1)

unworked : (r : AskedRun) (fault : RunFault) → TellsUnarranged r fault → TellsUnworked r fault
unworked r (faults.NoSchema reason) h = h
unworked r (faults.Unbound fault) h = h
unworked r (faults.Unanswered fault) h = absurd h
unworked r (faults.Unserved fault) h = absurd h

-- what binding the pairs comes to, where the schema has the calculator
pub worked_out : {A : Type 0} (result : Result A RunFault) (office : A → PlainOffice) (services : A → List ServiceState) (says : PlainServed) (workers : ℕ)
    (files : Option (List File)) (handlers : List ServiceState) (s : PlainSchema) → says ≡ workload_says workers
    → MatchResult result (λ x. IsArrangedAs (record { says = says; files = files; handlers = handlers }) (office x) (services x))
    (λ fault. TellsUnarranged (record { says = says; files = files; handlers = handlers }) fault)
    → IfOk result (λ x. (office x).schema ≡ s) → has_calculator s ≡ true
    → MatchResult result (λ x. IsCalculatorsOffice (office x) × HasCalculator (services x))
    (λ fault. TellsUnworked (record { says = says; files = files; handlers = handlers }) fault)
worked_out (Ok x) office services says workers files handlers s said made same test =
    arranged_calculator workers files handlers (office x) (services x) s
    (subst (λ says. IsArrangedAs (record { says = says; files = files; handlers = handlers }) (office x) (services x)) said made) same test
worked_out (Err fault) office services says workers files handlers s said made same test = unworked (record { says = says; files = files; handlers = handlers }) fault made

-- a workload that isn't begun leaves its input and its output
pub untouched_workload : (r : AskedRun) (seed size : ℕ) (fault : RunFault) (left taken : Option (List ℕ)) → TellsUnworked r fault
    → TellsWorkload {A = Unit {0}} r seed size (Err fault) (record { left_before = left; left = left; taken_before = taken; taken = taken })
untouched_workload r seed size (faults.NoSchema reason) left taken h = (h, (refl, refl))
untouched_workload r seed size (faults.Unbound fault) left taken h = (h, (refl, refl))
untouched_workload r seed size (faults.Unanswered serving_faults.NoMemory) left taken h = (refl, refl)
untouched_workload r seed size (faults.Unanswered fault) left taken h = absurd h
untouched_workload r seed size (faults.Unserved fault) left taken h = absurd h

-- what a workload serves is within the bounds of words
pub workload_bounds : (says : PlainServed) (workers : ℕ) → says ≡ workload_says workers → workers ≤ 8 → KeepsServedBounds says
workload_bounds says workers said few =
    subst KeepsServedBounds (sym said)
    (record { workers = few; some = omega arith; few = omega arith; least = omega arith; fits = omega arith; most = omega arith })

-- the fault of one that isn't begun is none of its recording but want of memory
pub not_unworked : {A : Type 0} (r : AskedRun) (result : Result A RunFault) → MatchResult result (λ _. ⊤) (λ fault. TellsUnworked r fault)
    → result ≡ Err (faults.Unanswered serving_faults.WriteFault) → ⊥
not_unworked r result why is = subst (λ x. MatchResult x (λ _. ⊤) (λ fault. TellsUnworked r fault)) is why
