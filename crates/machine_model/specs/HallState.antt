-- The hall: the queue of jobs, what workers have made of them, the services that answer calls, and the journal of their calls.
use Rattle.std.specs.Prelude.{◌≡◌, ℕ, Bool, false, ◌&&◌, ◌||◌, ◌==◌, if◌then◌else◌, List, [], ◌∷◌, ◌++◌, map}
use Rattle.streams.specs.declared.outcomes.Settled.{Settled}
use Rattle.host_model.specs.declared.key.Key.{Key}
use Rattle.host_model.specs.Journal.{JournalEntry}

-- frame i of connection c
abbrev pub key_of : ℕ → ℕ → Key
key_of c i = record { c = c; i = i }

-- two keys are the same
abbrev pub is_same : Key → Key → Bool
is_same x y = (x.c == y.c) && (x.i == y.i)

-- a payload that waits for a worker
pub record Job : Type 0 where
  pub key : Key
  pub payload : List ℕ

-- what a payload came to
pub record JobOutcome : Type 0 where
  pub key : Key
  pub settled : Settled

-- The jobs, the oldest first; the keys of jobs that workers have taken; the outcomes that they have put, the oldest first; the services' memories, one a
-- slot; the journal, and its count of faults; whether the hall is closed; and whether the journal has failed, so that the services are a call ahead of it.
pub record HallState (C A M : Type 0) : Type 0 where
  pub jobs : List Job
  pub taken : List Key
  pub outcomes : List JobOutcome
  pub memories : List M
  pub journal : List (JournalEntry C A)
  pub faults : ℕ
  pub closed : Bool
  pub broken : Bool

-- a newly opened hall: nothing is submitted, and it is neither closed nor broken
pub record IsNewlyOpened {C A M : Type 0} (hall : HallState C A M) : Type 0 where
  pub jobs : hall.jobs ≡ []
  pub taken : hall.taken ≡ []
  pub outcomes : hall.outcomes ≡ []
  pub closed : hall.closed ≡ false
  pub broken : hall.broken ≡ false

-- one whose journal has no entries, and whose services have these memories
pub record IsNew {C A M : Type 0} (opening : List M) (hall : HallState C A M) : Type 0 where
  pub opened : IsNewlyOpened hall
  pub memories : hall.memories ≡ opening
  pub journal : hall.journal ≡ []

-- a key stands in a list of keys
abbrev pub has_key : Key → List Key → Bool
has_key key [] = false
has_key key (k ∷ keys) = is_same k key || has_key key keys

-- the list without the first key that is the same
abbrev pub without : Key → List Key → List Key
without key [] = []
without key (k ∷ keys) = if is_same k key then keys else k ∷ without key keys

-- the keys that are submitted and not collected
abbrev pub keys_in : {C A M : Type 0} → HallState C A M → List Key
keys_in hall = map (λ (j : Job). j.key) hall.jobs ++ (hall.taken ++ map (λ (o : JobOutcome). o.key) hall.outcomes)
