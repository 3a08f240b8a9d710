-- The hub as one hall, which keeps all outcomes: but for what is collected, which its loops' lists tell, a hub does what a hall does. All loops are one seat of it.
use Rattle.std.specs.Prelude.{ℕ, Bool, true, false, nat_lt, if◌then◌else◌, List, [], ◌∷◌, ◌++◌, ◌||◌}
use Rattle.machine_model.specs.HallState.{JobOutcome}
use Rattle.machine_model.specs.HallRule.{HallOperation, submit, take_job, apply, put, close, HallAnswer, outcome_of}
use Rattle.machine_model.specs.OwnCalls.{HallCall}
use Rattle.machine_model.specs.Trouble.{tells_of_fault}
use Rattle.hub_model.specs.HubState.{as_hall}
use Rattle.hub_model.specs.HubRule.{HubOperation, submit_from, take_one, apply_one, put_one, collect_for, close_all, HubCall, HubAsk}
use Rattle.hub_model.specs.Seen.{calls_with}

-- the outcomes that were put, after one more operation
abbrev pub put_after : {C : Type 0} → List JobOutcome → HubOperation C → List JobOutcome
put_after outcomes (put_one key settled) = outcomes ++ outcome_of key settled ∷ []
put_after outcomes _ = outcomes

-- what an ask of the hub is of a hall; what is collected isn't
abbrev pub hall_ask : {C A : Type 0} → HubOperation C → HallAnswer A → List (HallOperation C × HallAnswer A)
hall_ask (submit_from l key payload) answer = (submit key payload, answer) ∷ []
hall_ask take_one answer = (take_job, answer) ∷ []
hall_ask (apply_one key call) answer = (apply key call, answer) ∷ []
hall_ask (put_one key settled) answer = (put key settled, answer) ∷ []
hall_ask (collect_for l) answer = []
hall_ask close_all answer = (close, answer) ∷ []

-- the n loops are seat 0, and a worker has its own number
abbrev pub hall_seat : ℕ → ℕ → ℕ
hall_seat n seat = if nat_lt seat n then 0 else seat

-- the calls of a hub of n loops as those of a hall, in which these outcomes were put before
abbrev pub hall_calls : {C A M : Type 0} → ℕ → List JobOutcome → List (HubCall C A M) → List (HallCall C A M)
hall_calls n outcomes [] = []
hall_calls n outcomes (e ∷ log) =
    calls_with (hall_seat n e.seat) (hall_ask e.op e.reply) (as_hall e.after (put_after outcomes e.op)) ++ hall_calls n (put_after outcomes e.op) log

-- the outcomes that were put after all of them
abbrev pub all_put : {C A M : Type 0} → List JobOutcome → List (HubCall C A M) → List JobOutcome
all_put outcomes [] = outcomes
all_put outcomes (e ∷ log) = all_put (put_after outcomes e.op) log

-- an operation closes the hub
abbrev pub closes_hub : {C : Type 0} → HubOperation C → Bool
closes_hub close_all = true
closes_hub _ = false

-- some answer of these tells of a failed journal
abbrev pub any_told : {C A : Type 0} → List (HubAsk C A) → Bool
any_told [] = false
any_told (e ∷ own) = tells_of_fault e.reply || any_told own
