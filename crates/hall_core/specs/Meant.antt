-- What a hall means: the machine's hall, over plain calls and answers, with the services that its handlers are.
use Rattle.std.specs.Prelude.{ℕ, Bool, false, Option, List, []}
use Rattle.call_rules.specs.PlainCalls.{PlainCall, PlainAnswer}
use Rattle.call_rules.specs.Entries.{CallEntry}
use Rattle.call_rules.specs.Handling.{ServiceState}
use Rattle.machine_model.specs.SeenHall.{SeenHall}
use Rattle.hall_core.specs.Queues.{QueueView}

-- a hall of services
abbrev pub ServedHall : Type 0
ServedHall = SeenHall PlainCall PlainAnswer ServiceState

-- a newly opened one, with these services and this journal
abbrev pub opened_hall : List ServiceState → Option (List CallEntry) → ℕ → ServedHall
opened_hall services told faults =
    record { jobs = []; taken = []; outcomes = []; memories = services; told = told; faults = faults; closed = false; broken = false }

-- the hall with another queue
abbrev pub with_queue : ServedHall → QueueView → ServedHall
with_queue hall q = record hall { jobs = q.jobs; taken = q.taken; outcomes = q.outcomes }

-- the hall with other services and another journal
abbrev pub with_services : ServedHall → List ServiceState → Option (List CallEntry) → ℕ → Bool → ServedHall
with_services hall services told faults broken = record hall { memories = services; told = told; faults = faults; broken = broken }
