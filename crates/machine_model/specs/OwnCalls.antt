-- What may be asked of a hall: the condition of each operation, and the condition on a seat's own calls that implies it.
use Rattle.std.specs.Prelude.{◌≡◌, ℕ, ◌+◌, ◌<◌, ◌≤◌, Bool, true, false, ◌||◌, if◌then◌else◌, List, [], ◌∷◌, length}
use Rattle.host_model.specs.declared.key.Key.{Key}
use Rattle.host_model.specs.Journal.{ServiceRules}
use Rattle.call_history.specs.declared.seat_call.SeatCall.{SeatCall}
use Rattle.call_history.specs.Calls.{SeatAsk}
use Rattle.machine_model.specs.HallState.{HallState, IsNewlyOpened, is_same, has_key, keys_in}
use Rattle.machine_model.specs.HallRule.{HallOperation, submit, take_job, apply, put, collect, HallAnswer, done, job, outcome}
pub use Rattle.limits.specs.Limits.{most_connections, longest_payload}

-- a call of the hall: who made it, what was asked and answered, and the hall after it
abbrev pub HallCall : Type 0 → Type 0 → Type 0 → Type 0
HallCall C A M = SeatCall (HallOperation C) (HallAnswer A) (HallState C A M)

-- an ask of the hall: the same, but for the hall after it
abbrev pub HallAsk : Type 0 → Type 0 → Type 0
HallAsk C A = SeatAsk (HallOperation C) (HallAnswer A)

-- an operation submits this key
abbrev pub submits_key : {C : Type 0} → Key → HallOperation C → Bool
submits_key key (submit k payload) = is_same k key
submits_key key _ = false

-- an operation applies this key
abbrev pub applies_key : {C : Type 0} → Key → HallOperation C → Bool
applies_key key (apply k call) = is_same k key
applies_key key _ = false

-- one, where a job was submitted
abbrev pub adds_key : {C A : Type 0} → HallOperation C → HallAnswer A → ℕ
adds_key (submit key payload) done = 1
adds_key _ _ = 0

-- one, where an outcome was collected
abbrev pub frees_key : {C A : Type 0} → HallOperation C → HallAnswer A → ℕ
frees_key collect (outcome key settled) = 1
frees_key _ _ = 0

-- whether a seat holds the key after one more of its own calls
abbrev pub held_after : {C A : Type 0} → Key → Bool → HallOperation C → HallAnswer A → Bool
held_after key held take_job (job k payload) = if is_same k key then true else held
held_after key held (put k settled) answer = if is_same k key then false else held
held_after key held _ _ = held

module _ {C A M : Type 0} where
  -- The condition of an operation on the hall. What is asked of a call alone, as that its arguments are plain, stands beside it.
  abbrev pub HallCan : ServiceRules C A M → HallState C A M → HallOperation C → Type 0
  HallCan r hall (submit key payload) = (length (keys_in hall) < most_connections) × (has_key key (keys_in hall) ≡ false) × (length payload ≤ longest_payload)
  HallCan r hall (apply key call) = (has_key key hall.taken ≡ true) × (r.slot call < length hall.memories)
  HallCan r hall (put key settled) = has_key key hall.taken ≡ true
  HallCan r hall _ = Unit {0}

module _ {C A : Type 0} where
  -- some call of these did it
  abbrev pub any_of : (HallOperation C → Bool) → List (HallAsk C A) → Bool
  any_of test [] = false
  any_of test (e ∷ own) = test e.op || any_of test own

  -- how many calls of these did so
  abbrev pub summed_calls : (HallOperation C → HallAnswer A → ℕ) → List (HallAsk C A) → ℕ
  summed_calls count [] = 0
  summed_calls count (e ∷ own) = count e.op e.reply + summed_calls count own

  -- whether a seat holds the key after more of its own calls
  abbrev pub holds_from : Key → Bool → List (HallAsk C A) → Bool
  holds_from key held [] = held
  holds_from key held (e ∷ own) = holds_from key (held_after key held e.op e.reply) own

  -- a seat holds a key: an own Take answered its job, and no own Put of it came since
  abbrev pub holds_key : Key → List (HallAsk C A) → Bool
  holds_key key own = holds_from key false own

module _ {C A M : Type 0} where
  -- What a seat's own earlier asks allow it, of the hall as it was opened and the seat's number. Seat 0 alone submits: keys that it hasn't submitted before,
  -- and at most so many that it hasn't collected. A key is applied once, and applied and put only by the seat that took it.
  abbrev pub OwnAsksAllow : ServiceRules C A M → HallState C A M → ℕ → List (HallAsk C A) → HallOperation C → Type 0
  OwnAsksAllow r first seat own (submit key payload) =
      (seat ≡ 0) × (summed_calls adds_key own < most_connections + summed_calls frees_key own) × (any_of (submits_key key) own ≡ false) × (length payload ≤ longest_payload)
  OwnAsksAllow r first seat own (apply key call) =
      (holds_key key own ≡ true) × (any_of (applies_key key) own ≡ false) × (r.slot call < length first.memories)
  OwnAsksAllow r first seat own (put key settled) = holds_key key own ≡ true
  OwnAsksAllow r first seat own _ = Unit {0}

  -- what a seat may ask: the hall was newly opened, and the seat's own earlier asks allow it
  abbrev pub HallMay : ServiceRules C A M → HallState C A M → ℕ → List (HallAsk C A) → HallOperation C → Type 0
  HallMay r first seat own op = IsNewlyOpened first × OwnAsksAllow r first seat own op
