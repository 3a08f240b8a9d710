-- What may be asked of a hub: the condition of each operation, and the condition on a seat's own asks that implies it.
use Rattle.std.specs.Prelude.{◌≡◌, ℕ, ◌+◌, ◌<◌, ◌≤◌, ◌/◌, ◌==◌, Bool, true, false, ◌||◌, if◌then◌else◌, List, [], ◌∷◌, length}
use Rattle.host_model.specs.declared.key.Key.{Key}
use Rattle.host_model.specs.Journal.{ServiceRules}
use Rattle.call_history.specs.declared.seat_call.SeatCall.{SeatCall}
use Rattle.machine_model.specs.HallState.{is_same, has_key}
use Rattle.machine_model.specs.HallRule.{HallAnswer, done, job, outcome}
use Rattle.machine_model.specs.OwnCalls.{most_connections, longest_payload}
use Rattle.hub_model.specs.HubState.{HubState, loop_of_conn, IsOpenedHub, keys_at, keys_of_loop}
use Rattle.hub_model.specs.HubRule.{HubOperation, submit_from, take_one, apply_one, put_one, collect_for, HubAsk}

-- an operation submits this key
abbrev pub submits_this : {C : Type 0} → Key → HubOperation C → Bool
submits_this key (submit_from m k payload) = is_same k key
submits_this key _ = false

-- an operation applies this key
abbrev pub applies_this : {C : Type 0} → Key → HubOperation C → Bool
applies_this key (apply_one k call) = is_same k key
applies_this key _ = false

-- one, where a job of loop l was submitted
abbrev pub adds_for : {C A : Type 0} → ℕ → HubOperation C → HallAnswer A → ℕ
adds_for l (submit_from m key payload) done = if m == l then 1 else 0
adds_for l _ _ = 0

-- one, where an outcome was collected for loop l
abbrev pub frees_for : {C A : Type 0} → ℕ → HubOperation C → HallAnswer A → ℕ
frees_for l (collect_for m) (outcome key settled) = if m == l then 1 else 0
frees_for l _ _ = 0

-- whether a seat holds the key after one more of its own asks
abbrev pub hub_held_after : {C A : Type 0} → Key → Bool → HubOperation C → HallAnswer A → Bool
hub_held_after key held take_one (job k payload) = if is_same k key then true else held
hub_held_after key held (put_one k settled) answer = if is_same k key then false else held
hub_held_after key held _ _ = held

-- each job of these calls, or asks, is submitted from its connection's loop
abbrev pub SubmitsItsOwn : {C : Type 0} → ℕ → HubOperation C → Type 0
SubmitsItsOwn n (submit_from l key payload) = loop_of_conn n key.c ≡ l
SubmitsItsOwn n _ = Unit {0}

abbrev pub SubmitOwn : {C A X : Type 0} → ℕ → List (SeatCall (HubOperation C) (HallAnswer A) X) → Type 0
SubmitOwn n [] = Unit {0}
SubmitOwn n (e ∷ log) = SubmitsItsOwn n e.op × SubmitOwn n log

module _ {C A : Type 0} where
  -- some ask of these did it
  abbrev pub any_ask : (HubOperation C → Bool) → List (HubAsk C A) → Bool
  any_ask test [] = false
  any_ask test (e ∷ own) = test e.op || any_ask test own

  -- how many asks of these did so
  abbrev pub summed_asks : (HubOperation C → HallAnswer A → ℕ) → List (HubAsk C A) → ℕ
  summed_asks count [] = 0
  summed_asks count (e ∷ own) = count e.op e.reply + summed_asks count own

  -- whether a seat holds the key after more of its own asks
  abbrev pub hub_holds_from : Key → Bool → List (HubAsk C A) → Bool
  hub_holds_from key held [] = held
  hub_holds_from key held (e ∷ own) = hub_holds_from key (hub_held_after key held e.op e.reply) own

-- how many keys each of n loops may have that are submitted and not collected
abbrev pub share : ℕ → ℕ
share n = most_connections / n

module _ {C A M : Type 0} (n : ℕ) where
  -- The condition of an operation on a hub of n loops: a key is new, one of its loop's, and within the loop's share, as all are within the hub's room.
  abbrev pub HubCan : ServiceRules C A M → HubState C A M → HubOperation C → Type 0
  HubCan r hub (submit_from l key payload) =
      (length (keys_at n hub) < most_connections) × (has_key key (keys_at n hub) ≡ false) × (length payload ≤ longest_payload) × (loop_of_conn n key.c ≡ l) × (l < n)
      × (length (keys_of_loop n l hub) < share n)
  HubCan r hub (apply_one key call) = (has_key key hub.taken ≡ true) × (r.slot call < length hub.memories)
  HubCan r hub (put_one key settled) = (has_key key hub.taken ≡ true) × (length (hub.lists (loop_of_conn n key.c)) < most_connections)
  HubCan r hub (collect_for l) = l < n
  HubCan r hub _ = Unit {0}

  -- What a seat's own earlier asks allow it, of the hub as it was opened and the seat's number. Seat l alone submits from loop l, below n: keys of connections
  -- of its own that it hasn't submitted before, and at most its share of those that it hasn't collected. A key is applied once, and applied and put only by the
  -- seat that took it.
  abbrev pub OwnAllows : ServiceRules C A M → HubState C A M → ℕ → List (HubAsk C A) → HubOperation C → Type 0
  OwnAllows r first seat own (submit_from l key payload) =
      (seat ≡ l) × (l < n) × (loop_of_conn n key.c ≡ l) × (summed_asks (adds_for l) own < share n + summed_asks (frees_for l) own)
      × (any_ask (submits_this key) own ≡ false) × (length payload ≤ longest_payload)
  OwnAllows r first seat own (apply_one key call) =
      (hub_holds_from key false own ≡ true) × (any_ask (applies_this key) own ≡ false) × (r.slot call < length first.memories)
  OwnAllows r first seat own (put_one key settled) = hub_holds_from key false own ≡ true
  OwnAllows r first seat own (collect_for l) = l < n
  OwnAllows r first seat own _ = Unit {0}

  -- what a seat may ask: the hub was newly opened, and the seat's own earlier asks allow it
  abbrev pub HubMay : ServiceRules C A M → HubState C A M → ℕ → List (HubAsk C A) → HubOperation C → Type 0
  HubMay r first seat own op = IsOpenedHub first × OwnAllows r first seat own op
