-- The hub: a hall that several loops share. It differs from a hall in this alone: outcomes stand in lists, one a loop.
use Rattle.std.specs.Prelude.{◌≡◌, ℕ, zero, suc, ◌*◌, ◌+◌, ◌/◌, ◌%◌, ◌==◌, Bool, false, List, [], ◌++◌, map, filter}
use Rattle.host_model.specs.declared.key.Key.{Key}
use Rattle.host_model.specs.Journal.{JournalEntry}
use Rattle.machine_model.specs.HallState.{key_of, Job, JobOutcome, HallState}

-- Connections of a hub have whole numbers: of n loops, connection c is one of loop c % n, whose links know it by the number c / n.
abbrev pub loop_of_conn : ℕ → ℕ → ℕ
loop_of_conn n c = c % n

abbrev pub number_in_loop : ℕ → ℕ → ℕ
number_in_loop n c = c / n

-- a key as its loop knows it, and the whole key of one of loop l's
abbrev pub own_key : ℕ → Key → Key
own_key n key = key_of (number_in_loop n key.c) key.i

abbrev pub whole_key : ℕ → ℕ → Key → Key
whole_key n l key = key_of (key.c * n + l) key.i

-- The parts of a hall, but that each loop has a list of its outcomes, the oldest first. Keys are whole.
pub record HubState (C A M : Type 0) : Type 0 where
  pub jobs : List Job
  pub taken : List Key
  pub lists : ℕ → List JobOutcome
  pub memories : List M
  pub journal : List (JournalEntry C A)
  pub faults : ℕ
  pub closed : Bool
  pub broken : Bool

-- the hub as a hall that has these outcomes
abbrev pub as_hall : {C A M : Type 0} → HubState C A M → List JobOutcome → HallState C A M
as_hall hub outcomes =
    record {
      jobs = hub.jobs;
      taken = hub.taken;
      outcomes = outcomes;
      memories = hub.memories;
      journal = hub.journal;
      faults = hub.faults;
      closed = hub.closed;
      broken = hub.broken;
    }

-- all of it but its outcomes
abbrev pub but_outcomes : {C A M : Type 0} → HubState C A M → HallState C A M
but_outcomes hub = as_hall hub []

-- a newly opened hub: nothing is submitted, and it is neither closed nor broken
pub record IsOpenedHub {C A M : Type 0} (hub : HubState C A M) : Type 0 where
  pub jobs : hub.jobs ≡ []
  pub taken : hub.taken ≡ []
  pub lists : (l : ℕ) → hub.lists l ≡ []
  pub closed : hub.closed ≡ false
  pub broken : hub.broken ≡ false

-- one whose journal has no entries, and whose services have these memories
pub record IsNewHub {C A M : Type 0} (opening : List M) (hub : HubState C A M) : Type 0 where
  pub opened : IsOpenedHub hub
  pub memories : hub.memories ≡ opening
  pub journal : hub.journal ≡ []

-- the keys in the lists of the first n loops
abbrev pub list_keys : (ℕ → List JobOutcome) → ℕ → List Key
list_keys lists zero = []
list_keys lists (suc n) = list_keys lists n ++ map (λ (o : JobOutcome). o.key) (lists n)

-- the keys that are submitted and not collected
abbrev pub keys_at : {C A M : Type 0} → ℕ → HubState C A M → List Key
keys_at n hub = map (λ (j : Job). j.key) hub.jobs ++ (hub.taken ++ list_keys hub.lists n)

-- those of loop l
abbrev pub keys_of_loop : {C A M : Type 0} → ℕ → ℕ → HubState C A M → List Key
keys_of_loop n l hub = filter (λ (k : Key). loop_of_conn n k.c == l) (keys_at n hub)
