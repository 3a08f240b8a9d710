-- The hall as a contract sees it: its journal may tell nothing, as one in a file of the system does.
use Rattle.std.specs.Prelude.{◌≡◌, ℕ, Bool, Option, None, Some, List, []}
use Rattle.host_model.specs.declared.key.Key.{Key}
use Rattle.host_model.specs.Journal.{JournalEntry, ServiceRules}
use Rattle.call_history.specs.declared.seat_call.SeatCall.{SeatCall}
use Rattle.machine_model.specs.HallState.{Job, JobOutcome, HallState}
use Rattle.machine_model.specs.HallRule.{HallOperation, HallAnswer, HallGives}
use Rattle.machine_model.specs.OwnCalls.{HallAsk, HallCan, HallMay}

-- a hall, with what its journal tells of its entries
pub record SeenHall (C A M : Type 0) : Type 0 where
  pub jobs : List Job
  pub taken : List Key
  pub outcomes : List JobOutcome
  pub memories : List M
  pub told : Option (List (JournalEntry C A))
  pub faults : ℕ
  pub closed : Bool
  pub broken : Bool

-- a call of it
abbrev pub SeenCall : Type 0 → Type 0 → Type 0 → Type 0
SeenCall C A M = SeatCall (HallOperation C) (HallAnswer A) (SeenHall C A M)

-- entries that a journal may have: those that it tells, or any
abbrev pub MayHave : {X : Type 0} → Option (List X) → List X → Type 0
MayHave None entries = Unit {0}
MayHave (Some told) entries = told ≡ entries

module _ {C A M : Type 0} where
  -- the hall whose journal has these entries
  abbrev pub filled : SeenHall C A M → List (JournalEntry C A) → HallState C A M
  filled hall entries =
      record {
        jobs = hall.jobs;
        taken = hall.taken;
        outcomes = hall.outcomes;
        memories = hall.memories;
        journal = entries;
        faults = hall.faults;
        closed = hall.closed;
        broken = hall.broken;
      }

  -- The rule as it is seen: whatever entries the journal may have before, the hall with those answers so by its rule, and leaves entries that the journal
  -- may have then.
  abbrev pub SeenGives : ServiceRules C A M → SeenHall C A M → HallOperation C → HallAnswer A → SeenHall C A M → Type 0
  SeenGives r old op answer new =
      (entries : List (JournalEntry C A)) → MayHave old.told entries
      → (later : List (JournalEntry C A)) × MayHave new.told later × HallGives r (filled old entries) op answer (filled new later)

  -- the condition of an operation, which speaks of no journal
  abbrev pub SeenCan : ServiceRules C A M → SeenHall C A M → HallOperation C → Type 0
  SeenCan r hall op = HallCan r (filled hall []) op

  -- what a seat may ask: the hall was newly opened over a journal that may be empty, and the seat's own earlier asks allow it
  abbrev pub SeenMay : ServiceRules C A M → SeenHall C A M → ℕ → List (HallAsk C A) → HallOperation C → Type 0
  SeenMay r first seat own op = MayHave first.told [] × HallMay r (filled first []) seat own op
