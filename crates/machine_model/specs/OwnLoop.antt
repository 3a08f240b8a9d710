-- The loop in mid-run: what it knows of its own calls alone, before anyone else's are known.
use Rattle.std.specs.Prelude.{◌≡◌, ℕ, ◌==◌, if◌then◌else◌, List, ◌∷◌, ◌++◌}
use Rattle.streams.specs.declared.outcomes.Settled.{Settled}
use Rattle.host_model.specs.declared.key.Key.{Key}
use Rattle.call_history.specs.Calls.{seat_ask}
use Rattle.machine_model.specs.HallRule.{HallOperation, submit, collect, HallAnswer, done, outcome}
use Rattle.machine_model.specs.OwnCalls.{HallAsk, summed_calls}
use Rattle.machine_model.specs.SingleKeys.{adds_this_key, frees_this_key}

-- one, where a job of this connection was submitted
abbrev pub adds_of_conn : {C A : Type 0} → ℕ → HallOperation C → HallAnswer A → ℕ
adds_of_conn c (submit key payload) done = if key.c == c then 1 else 0
adds_of_conn c _ _ = 0

-- one, where an outcome of this connection was collected
abbrev pub frees_of_conn : {C A : Type 0} → ℕ → HallOperation C → HallAnswer A → ℕ
frees_of_conn c collect (outcome key settled) = if key.c == c then 1 else 0
frees_of_conn c _ _ = 0

-- one, where a job was to be submitted, and the hall didn't take it
abbrev pub refuses_job : {C A : Type 0} → HallOperation C → HallAnswer A → ℕ
refuses_job (submit key payload) done = 0
refuses_job (submit key payload) _ = 1
refuses_job _ _ = 0

-- each outcome among these asks is of a key that was submitted once in those before it, and not collected
abbrev pub CollectsItsOwn : {C A : Type 0} → List (HallAsk C A) → Type 0
CollectsItsOwn {C} {A} own =
    (front back : List (HallAsk C A)) (seat : ℕ) (key : Key) (settled : Settled) → own ≡ front ++ seat_ask seat collect (outcome key settled) ∷ back
    → (summed_calls (adds_this_key key) front ≡ 1) × (summed_calls (frees_this_key key) front ≡ 0)
