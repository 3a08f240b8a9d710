-- What loop l sees of a hub of n loops: a hall with its own jobs, keys, outcomes and entries, under the numbers that its own links give, whose services give
-- the answers that its entries have.
use Rattle.std.specs.Prelude.{ℕ, suc, ◌==◌, false, if◌then◌else◌, List, [], ◌∷◌, ◌++◌, map, filter, length, drop}
use Rattle.host_model.specs.declared.key.Key.{Key}
use Rattle.host_model.specs.Journal.{JournalEntry, ServiceRules}
use Rattle.call_history.specs.History.{seat_call}
use Rattle.call_history.specs.Calls.{seat_ask}
use Rattle.machine_model.specs.HallState.{Job, JobOutcome, HallState}
use Rattle.machine_model.specs.HallRule.{HallOperation, submit, take_job, apply, put, collect, close, HallAnswer, job, no_memory, journal_fault, is_broken, outcome, job_of, outcome_of, entry_under}
use Rattle.machine_model.specs.OwnCalls.{HallCall, HallAsk}
use Rattle.hub_model.specs.HubState.{HubState, loop_of_conn, own_key, but_outcomes}
use Rattle.hub_model.specs.HubRule.{HubOperation, submit_from, take_one, apply_one, put_one, collect_for, close_all, HubCall, HubAsk}

-- services that give these answers, one after another, whatever is called
abbrev pub next_answer : {A : Type 0} → A → List A → A × List A
next_answer default [] = (default, [])
next_answer default (a ∷ more) = (a, more)

abbrev pub replays : {C A : Type 0} → A → ServiceRules C A (List A)
replays default = record { slot = λ call. 0; rule = λ call answers. next_answer default answers }

-- jobs, outcomes and entries under the keys that their loop knows
abbrev pub own_job : ℕ → Job → Job
own_job n j = job_of (own_key n j.key) j.payload

abbrev pub own_outcome : ℕ → JobOutcome → JobOutcome
own_outcome n o = outcome_of (own_key n o.key) o.settled

abbrev pub own_entry : {C A : Type 0} → ℕ → JournalEntry C A → JournalEntry C A
own_entry n e = entry_under (own_key n e.key) e.call e.answer

-- a failed journal is as want of memory to a loop: its own entries are whole
abbrev pub calm : {A : Type 0} → HallAnswer A → HallAnswer A
calm journal_fault = no_memory
calm is_broken = no_memory
calm answer = answer

abbrev pub own_answer : {A : Type 0} → ℕ → HallAnswer A → HallAnswer A
own_answer n (outcome key settled) = outcome (own_key n key) settled
own_answer n answer = answer

module _ (n l : ℕ) where
  -- those of loop l's connections
  abbrev pub own_jobs : List Job → List Job
  own_jobs jobs = map (own_job n) (filter (λ (j : Job). loop_of_conn n j.key.c == l) jobs)

  abbrev pub own_keys : List Key → List Key
  own_keys keys = map (own_key n) (filter (λ (k : Key). loop_of_conn n k.c == l) keys)

  abbrev pub own_entries : {C A : Type 0} → List (JournalEntry C A) → List (JournalEntry C A)
  own_entries {C} {A} es = map (own_entry n) (filter (λ (e : JournalEntry C A). loop_of_conn n e.key.c == l) es)

  -- the answers of its entries that aren't entered yet, where all of its entries will be these
  abbrev pub answers_left : {C A : Type 0} → List (JournalEntry C A) → List (JournalEntry C A) → List A
  answers_left {C} {A} final es = map (λ (e : JournalEntry C A). e.answer) (drop (length (own_entries es)) final)

  -- the part of a hall that is its own, with these outcomes
  abbrev pub hall_part : {C A M : Type 0} → List (JournalEntry C A) → HallState C A M → List JobOutcome → HallState C A (List A)
  hall_part final hall outcomes =
      record {
        jobs = own_jobs hall.jobs;
        taken = own_keys hall.taken;
        outcomes = map (own_outcome n) outcomes;
        memories = answers_left final hall.journal ∷ [];
        journal = own_entries hall.journal;
        faults = 0;
        closed = hall.closed;
        broken = false;
      }

  -- what it sees of a hub
  abbrev pub seen_part : {C A M : Type 0} → List (JournalEntry C A) → HubState C A M → HallState C A (List A)
  seen_part final hub = hall_part final (but_outcomes hub) (hub.lists l)

  -- What it sees of an ask, if anything: what is asked of its own keys, what is collected for it, and each Close.
  abbrev pub seen_ask : {C A : Type 0} → HubOperation C → HallAnswer A → List (HallOperation C × HallAnswer A)
  seen_ask (submit_from m key payload) answer = if m == l then (submit (own_key n key) payload, answer) ∷ [] else []
  seen_ask take_one (job key payload) = if loop_of_conn n key.c == l then (take_job, job (own_key n key) payload) ∷ [] else []
  seen_ask take_one _ = []
  seen_ask (apply_one key call) answer = if loop_of_conn n key.c == l then (apply (own_key n key) call, calm answer) ∷ [] else []
  seen_ask (put_one key settled) answer = if loop_of_conn n key.c == l then (put (own_key n key) settled, answer) ∷ [] else []
  seen_ask (collect_for m) answer = if m == l then (collect, own_answer n answer) ∷ [] else []
  seen_ask close_all answer = (close, answer) ∷ []

-- to loop l its own seat is number 0, and the others are counted behind it
abbrev pub seen_seat : ℕ → ℕ → ℕ
seen_seat l seat = if seat == l then 0 else suc seat

-- an ask of a hall, if any, as one of this seat, and as a call that leaves this hall
abbrev pub asks_with : {C A : Type 0} → ℕ → List (HallOperation C × HallAnswer A) → List (HallAsk C A)
asks_with seat [] = []
asks_with seat (x ∷ asks) = seat_ask seat x.0 x.1 ∷ []

abbrev pub calls_with : {C A M : Type 0} → ℕ → List (HallOperation C × HallAnswer A) → HallState C A M → List (HallCall C A M)
calls_with seat [] after = []
calls_with seat (x ∷ asks) after = seat_call seat x.0 x.1 after ∷ []

module _ {C A : Type 0} (n l : ℕ) where
  -- what loop l sees of asks
  abbrev pub seen_asks : List (HubAsk C A) → List (HallAsk C A)
  seen_asks [] = []
  seen_asks (e ∷ log) = asks_with (seen_seat l e.seat) (seen_ask n l e.op e.reply) ++ seen_asks log

-- what it sees of calls, where its entries will be these
abbrev pub seen_calls : {C A M : Type 0} → ℕ → ℕ → List (JournalEntry C A) → List (HubCall C A M) → List (HallCall C A (List A))
seen_calls n l final [] = []
seen_calls n l final (e ∷ log) = calls_with (seen_seat l e.seat) (seen_ask n l e.op e.reply) (seen_part n l final e.after) ++ seen_calls n l final log
