-- How a hall comes to be broken, or closed by another than the loop: its journal failed.
use Rattle.std.specs.Prelude.{◌≡◌, ◌≢◌, Bool, true, false, ◌||◌, List, ◌∷◌, ◌++◌, []}
use Rattle.call_history.specs.Calls.{calls_by}
use Rattle.machine_model.specs.HallRule.{HallOperation, close, HallAnswer, journal_fault, is_broken}
use Rattle.machine_model.specs.OwnCalls.{HallAsk}

-- an answer that tells of a failed journal
abbrev pub tells_of_fault : {A : Type 0} → HallAnswer A → Bool
tells_of_fault journal_fault = true
tells_of_fault is_broken = true
tells_of_fault _ = false

-- an operation closes the hall
abbrev pub is_close : {C : Type 0} → HallOperation C → Bool
is_close close = true
is_close _ = false

-- some answer of these tells of a failed journal
abbrev pub any_fault_told : {C A : Type 0} → List (HallAsk C A) → Bool
any_fault_told [] = false
any_fault_told (e ∷ asks) = tells_of_fault e.reply || any_fault_told asks

-- no other seat than 0 closes the hall, unless it was told before that the journal failed
abbrev pub ClosesWhereTold : {C A : Type 0} → List (HallAsk C A) → Type 0
ClosesWhereTold {C} {A} asks =
    (front back : List (HallAsk C A)) (e : HallAsk C A) → asks ≡ front ++ e ∷ back → is_close e.op ≡ true → e.seat ≢ 0 → any_fault_told (calls_by e.seat front) ≡ true
