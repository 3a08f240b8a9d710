-- The hub's rule: what each operation answers, and what it changes.
use Rattle.std.specs.Prelude.{◌≡◌, ℕ, ◌≤◌, ◌==◌, true, false, if◌then◌else◌, List, [], ◌∷◌, ◌++◌}
use Rattle.streams.specs.declared.outcomes.Settled.{Settled}
use Rattle.host_model.specs.declared.key.Key.{Key}
use Rattle.host_model.specs.Journal.{ServiceRules}
use Rattle.call_history.specs.declared.seat_call.SeatCall.{SeatCall}
use Rattle.call_history.specs.Calls.{SeatAsk}
use Rattle.machine_model.specs.HallState.{JobOutcome, without}
use Rattle.machine_model.specs.HallRule.{HallAnswer, done, empty, is_closed, outcome, outcome_of, KeepsCount, SubmitGives, TakeGives, ApplyGives, CloseGives}
use Rattle.hub_model.specs.HubState.{HubState, loop_of_conn, but_outcomes}

-- What the hub is asked: jobs are submitted from a loop, and outcomes collected for one. It answers as a hall does.
pub data HubOperation (C : Type 0) : Type 0 where
  submit_from : (l : ℕ) (key : Key) (payload : List ℕ) → HubOperation C
  take_one : HubOperation C
  apply_one : (key : Key) (call : C) → HubOperation C
  put_one : (key : Key) (settled : Settled) → HubOperation C
  collect_for : (l : ℕ) → HubOperation C
  close_all : HubOperation C

-- a call of the hub: who made it, what was asked and answered, and the hub after it
abbrev pub HubCall : Type 0 → Type 0 → Type 0 → Type 0
HubCall C A M = SeatCall (HubOperation C) (HallAnswer A) (HubState C A M)

-- an ask of the hub: the same, but for the hub after it
abbrev pub HubAsk : Type 0 → Type 0 → Type 0
HubAsk C A = SeatAsk (HubOperation C) (HallAnswer A)

-- the lists with this one in place of that of loop l
abbrev pub with_list : (ℕ → List JobOutcome) → ℕ → List JobOutcome → ℕ → List JobOutcome
with_list lists l list x = if x == l then list else lists x

module _ {C A M : Type 0} (n : ℕ) where
  -- Put: the key is no longer taken, and its outcome is the newest of its connection's loop.
  abbrev pub PutFor : HubState C A M → Key → Settled → HallAnswer A → HubState C A M → Type 0
  PutFor old key settled done new =
      new ≡ record old { taken = without key old.taken; lists = with_list old.lists (loop_of_conn n key.c) (old.lists (loop_of_conn n key.c) ++ outcome_of key settled ∷ []) }
  PutFor old key settled _ new = ⊥

  -- Collect: the oldest outcome of the loop; where there is none, whether the hub is closed.
  abbrev pub CollectFor : HubState C A M → ℕ → HallAnswer A → HubState C A M → Type 0
  CollectFor old l (outcome key settled) new =
      (later : List JobOutcome) × (old.lists l ≡ outcome_of key settled ∷ later) × (new ≡ record old { lists = with_list old.lists l later })
  CollectFor old l empty new = (old.lists l ≡ []) × (old.closed ≡ false) × (new ≡ old)
  CollectFor old l is_closed new = (old.lists l ≡ []) × (old.closed ≡ true) × (new ≡ old)
  CollectFor old l _ new = ⊥

  -- The rule of a hub of n loops: from old, an operation has this answer and leaves new. What isn't of outcomes is as in a hall.
  abbrev pub HubGives : ServiceRules C A M → HubState C A M → HubOperation C → HallAnswer A → HubState C A M → Type 0
  HubGives r old (submit_from l key payload) answer new = SubmitGives (but_outcomes old) key payload answer (but_outcomes new) × (new.lists ≡ old.lists)
  HubGives r old take_one answer new = TakeGives (but_outcomes old) answer (but_outcomes new) × (new.lists ≡ old.lists)
  HubGives r old (apply_one key call) answer new =
      (faults : ℕ) × (old.faults ≤ faults) × ApplyGives r (but_outcomes old) key call faults answer (but_outcomes new) × KeepsCount answer old.faults faults × (new.lists ≡ old.lists)
  HubGives r old (put_one key settled) answer new = PutFor old key settled answer new
  HubGives r old (collect_for l) answer new = CollectFor old l answer new
  HubGives r old close_all answer new = CloseGives (but_outcomes old) answer (but_outcomes new) × (new.lists ≡ old.lists)
