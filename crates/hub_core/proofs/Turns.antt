-- What a worker's turns ask of a hub is told by what they ask of a hall.
use Rattle.std.proofs.Common.{◌≡◌, Bool, true, false, List, [], ◌∷◌, map, refl, sym, ap, ◌∙◌}
use Rattle.std.proofs.lemmas.Bool.{false≢true}
use Rattle.std.specs.List.{flat_map}
use Rattle.host_model.specs.DeskRules.{DeskRules}
use Rattle.host_model.proofs.Lists.{nil-cons, cons_parts}
use Rattle.call_rules.specs.PlainCalls.{PlainCall, PlainAnswer}
use Rattle.machine_model.specs.HallRule.{HallOperation, submit, take_job, apply, put, collect, close, HallAnswer}
use Rattle.machine_model.specs.Merge.{WorkerTurn, worked, worked_by_call, found_none, stopped, asked, AreTurns}
use Rattle.hub_model.specs.HubRule.{HubOperation, submit_from, take_one, apply_one, put_one, collect_for, close_all, HubAsk}
use Rattle.hub_model.specs.Talk.{hub_pair, hub_asked, OfHubTurns}
use Rattle.job_halls.specs.Working.{WorkerAsk}
use Rattle.hub_core.specs.HubCalls.{hall_operation}
use Rattle.hub_core.specs.HubWork.{as_worker_ask, hub_asked_in}
use Rattle.hub_core.specs.Following.{HubStepCall, hub_ask}

-- an operation that no loop is named for
abbrev is_workers : HallOperation PlainCall → Bool
is_workers take_job = true
is_workers (apply key call) = true
is_workers (put key settled) = true
is_workers close = true
is_workers _ = false

-- it is of one operation of a hub
abbrev of_hub : HallOperation PlainCall → HubOperation PlainCall
of_hub (submit key payload) = submit_from 0 key payload
of_hub take_job = take_one
of_hub (apply key call) = apply_one key call
of_hub (put key settled) = put_one key settled
of_hub collect = collect_for 0
of_hub close = close_all

back_again : (op : HubOperation PlainCall) → is_workers (hall_operation op) ≡ true → of_hub (hall_operation op) ≡ op
back_again (submit_from l key payload) w = absurd (false≢true w)
back_again take_one w = refl
back_again (apply_one key call) w = refl
back_again (put_one key settled) w = refl
back_again (collect_for l) w = absurd (false≢true w)
back_again close_all w = refl

-- an ask of the hub is known by that of a hall
known : (e : HubAsk PlainCall PlainAnswer) (op : HubOperation PlainCall) (answer : HallAnswer PlainAnswer) → is_workers (hall_operation op) ≡ true → of_hub (hall_operation op) ≡ op
    → as_worker_ask e ≡ (hall_operation op, answer) → hub_pair e ≡ (op, answer)
known e op answer w back is =
    let same : hall_operation e.op ≡ hall_operation op = ap (λ (x : WorkerAsk). x.0) is in
    let its : e.op ≡ op = sym (back_again e.op (ap is_workers same ∙ w)) ∙ (ap of_hub same ∙ back) in
    λ i. (its i, ap (λ (x : WorkerAsk). x.1) is i)

abbrev HubPair : Type 0
HubPair = HubOperation PlainCall × HallAnswer PlainAnswer

-- one ask of the hub, and those behind it
next : (op : HubOperation PlainCall) (answer : HallAnswer PlainAnswer) → is_workers (hall_operation op) ≡ true → of_hub (hall_operation op) ≡ op → (own : List (HubAsk PlainCall PlainAnswer))
    (rest : List WorkerAsk) (pairs : List HubPair) → ((more : List (HubAsk PlainCall PlainAnswer)) → map as_worker_ask more ≡ rest → map hub_pair more ≡ pairs)
    → map as_worker_ask own ≡ (hall_operation op, answer) ∷ rest → map hub_pair own ≡ (op, answer) ∷ pairs
next op answer w back [] rest pairs f is = absurd (nil-cons (hall_operation op, answer) rest is)
next op answer w back (e ∷ own) rest pairs f is =
    let parts : (as_worker_ask e ≡ (hall_operation op, answer)) × (map as_worker_ask own ≡ rest) = cons_parts (as_worker_ask e) (hall_operation op, answer) (map as_worker_ask own) rest is in
    let first : hub_pair e ≡ (op, answer) = known e op answer w back parts.0 in
    let later : map hub_pair own ≡ pairs = f own parts.1 in
    λ i. first i ∷ later i

none : (own : List (HubAsk PlainCall PlainAnswer)) → map as_worker_ask own ≡ [] → map hub_pair own ≡ []
none [] is = refl
none (e ∷ own) is = absurd (nil-cons (as_worker_ask e) (map as_worker_ask own) (sym is))

same_turns : (turns : List (WorkerTurn PlainCall PlainAnswer)) (own : List (HubAsk PlainCall PlainAnswer)) → map as_worker_ask own ≡ flat_map asked turns
    → map hub_pair own ≡ flat_map hub_asked turns
same_turns [] own is = none own is
same_turns (worked key payload settled ∷ turns) own is =
    next take_one _ refl refl own _ _ (λ more. next (put_one key settled) _ refl refl more _ _ (same_turns turns)) is
same_turns (worked_by_call key payload call answer settled ∷ turns) own is =
    next take_one _ refl refl own _ _ (λ more. next (apply_one key call) _ refl refl more _ _ (λ later. next (put_one key settled) _ refl refl later _ _ (same_turns turns))) is
same_turns (found_none answer ∷ turns) own is = next take_one _ refl refl own _ _ (same_turns turns) is
same_turns (stopped key payload call answer ∷ turns) own is =
    next take_one _ refl refl own _ _ (λ more. next (apply_one key call) _ refl refl more _ _ (λ later. next close_all _ refl refl later _ _ (same_turns turns))) is

pub of_hub_turns : (desk : DeskRules PlainCall PlainAnswer) (own : List HubStepCall) (turns : List (WorkerTurn PlainCall PlainAnswer)) → AreTurns desk turns → hub_asked_in own ≡ flat_map asked turns
    → OfHubTurns desk (map hub_ask own)
of_hub_turns desk own turns right is = (turns, right, same_turns turns (map hub_ask own) is)
