-- The hall's rule: what each operation answers, and what it changes.
use Rattle.std.specs.Prelude.{◌≡◌, ℕ, ◌≤◌, ◌⊎◌, true, false, List, [], ◌∷◌, ◌++◌}
use Rattle.streams.specs.declared.outcomes.Settled.{Settled}
use Rattle.streams.specs.Cause.{Rose}
use Rattle.host_model.specs.declared.key.Key.{Key}
use Rattle.host_model.specs.Journal.{JournalEntry, ServiceRules, after_call, IsAnswered}
use Rattle.machine_model.specs.HallState.{Job, JobOutcome, HallState, without}

-- what the hall is asked
pub data HallOperation (C : Type 0) : Type 0 where
  submit : (key : Key) (payload : List ℕ) → HallOperation C
  take_job : HallOperation C
  apply : (key : Key) (call : C) → HallOperation C
  put : (key : Key) (settled : Settled) → HallOperation C
  collect : HallOperation C
  close : HallOperation C

-- what it answers
pub data HallAnswer (A : Type 0) : Type 0 where
  done : HallAnswer A
  job : (key : Key) (payload : List ℕ) → HallAnswer A
  empty : HallAnswer A
  is_closed : HallAnswer A
  applied : (answer : A) → HallAnswer A
  no_memory : HallAnswer A
  journal_fault : HallAnswer A
  is_broken : HallAnswer A
  outcome : (key : Key) (settled : Settled) → HallAnswer A

-- the job of a payload
abbrev pub job_of : Key → List ℕ → Job
job_of key payload = record { key = key; payload = payload }

-- the outcome of a job
abbrev pub outcome_of : Key → Settled → JobOutcome
outcome_of key settled = record { key = key; settled = settled }

-- the entry of a call that was answered
abbrev pub entry_under : {C A : Type 0} → Key → C → A → JournalEntry C A
entry_under key call answer = record { key = key; call = call; answer = answer }

-- the journal's count rises only where its failing is told
abbrev pub KeepsCount : {A : Type 0} → HallAnswer A → ℕ → ℕ → Type 0
KeepsCount journal_fault before now = Unit {0}
KeepsCount _ before now = now ≡ before

module _ {C A M : Type 0} where
  -- Submit: the job is the newest; a closed hall takes none.
  abbrev pub SubmitGives : HallState C A M → Key → List ℕ → HallAnswer A → HallState C A M → Type 0
  SubmitGives old key payload done new = (old.closed ≡ false) × (new ≡ record old { jobs = old.jobs ++ job_of key payload ∷ [] })
  SubmitGives old key payload is_closed new = (old.closed ≡ true) × (new ≡ old)
  SubmitGives old key payload _ new = ⊥

  -- Take: the oldest job, whose key is taken then; where there is none, whether the hall is closed.
  abbrev pub TakeGives : HallState C A M → HallAnswer A → HallState C A M → Type 0
  TakeGives old (job key payload) new =
      (later : List Job) × (old.jobs ≡ job_of key payload ∷ later) × (new ≡ record old { jobs = later; taken = old.taken ++ key ∷ [] })
  TakeGives old empty new = (old.jobs ≡ []) × (old.closed ≡ false) × (new ≡ old)
  TakeGives old is_closed new = (old.jobs ≡ []) × (old.closed ≡ true) × (new ≡ old)
  TakeGives old _ new = ⊥

  -- a call has taken effect: it is answered, stands in the journal, and has moved its service's memory
  abbrev pub TakesEffect : ServiceRules C A M → HallState C A M → Key → C → A → ℕ → HallState C A M → Type 0
  TakesEffect r old key call answer faults new =
      IsAnswered r old.memories (entry_under key call answer)
      × (new ≡ record old { journal = old.journal ++ entry_under key call answer ∷ []; memories = after_call r old.memories call; faults = faults })

  -- Apply: after a fault of the journal it does nothing. Before, the call takes effect; or memory runs out before the service answered, or, once the call
  -- has taken effect, for the copy of its answer; or the journal's count rises, and the service has answered what the journal doesn't have.
  abbrev pub ApplyGives : ServiceRules C A M → HallState C A M → Key → C → ℕ → HallAnswer A → HallState C A M → Type 0
  ApplyGives r old key call faults (applied answer) new = (old.broken ≡ false) × TakesEffect r old key call answer faults new
  ApplyGives r old key call faults no_memory new =
      (old.broken ≡ false) × ((new ≡ record old { faults = faults }) ⊎ ((answer : A) × TakesEffect r old key call answer faults new))
  ApplyGives r old key call faults journal_fault new =
      (old.broken ≡ false) × Rose old.faults faults
      × (new ≡ record old { memories = after_call r old.memories call; faults = faults; broken = true })
  ApplyGives r old key call faults is_broken new = (old.broken ≡ true) × (new ≡ record old { faults = faults })
  ApplyGives r old key call faults _ new = ⊥

  -- Put: the key is no longer taken, and its outcome is the newest.
  abbrev pub PutGives : HallState C A M → Key → Settled → HallAnswer A → HallState C A M → Type 0
  PutGives old key settled done new =
      new ≡ record old { taken = without key old.taken; outcomes = old.outcomes ++ outcome_of key settled ∷ [] }
  PutGives old key settled _ new = ⊥

  -- Collect: the oldest outcome; where there is none, whether the hall is closed.
  abbrev pub CollectGives : HallState C A M → HallAnswer A → HallState C A M → Type 0
  CollectGives old (outcome key settled) new =
      (later : List JobOutcome) × (old.outcomes ≡ outcome_of key settled ∷ later) × (new ≡ record old { outcomes = later })
  CollectGives old empty new = (old.outcomes ≡ []) × (old.closed ≡ false) × (new ≡ old)
  CollectGives old is_closed new = (old.outcomes ≡ []) × (old.closed ≡ true) × (new ≡ old)
  CollectGives old _ new = ⊥

  -- Close: the hall is closed.
  abbrev pub CloseGives : HallState C A M → HallAnswer A → HallState C A M → Type 0
  CloseGives old done new = new ≡ record old { closed = true }
  CloseGives old _ new = ⊥

  -- The rule of the hall: from old, an operation has this answer and leaves new. The journal's count never falls, and only an Apply that tells of its failing raises it.
  abbrev pub HallGives : ServiceRules C A M → HallState C A M → HallOperation C → HallAnswer A → HallState C A M → Type 0
  HallGives r old (submit key payload) answer new = SubmitGives old key payload answer new
  HallGives r old take_job answer new = TakeGives old answer new
  HallGives r old (apply key call) answer new =
      (faults : ℕ) × (old.faults ≤ faults) × ApplyGives r old key call faults answer new × KeepsCount answer old.faults faults
  HallGives r old (put key settled) answer new = PutGives old key settled answer new
  HallGives r old collect answer new = CollectGives old answer new
  HallGives r old close answer new = CloseGives old answer new
