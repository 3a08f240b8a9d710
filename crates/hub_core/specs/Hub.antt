-- A hub in memory: a hall, whose own outcomes are none, and a list of outcomes for each loop.
use Rattle.std.specs.Prelude.{◌≡◌, true, false, ℕ, List, [], ◌∷◌, Option, get_or, set, replicate}
use Rattle.call_rules.specs.PlainCalls.{PlainCall, PlainAnswer, IsPlainCall}
use Rattle.call_rules.specs.Entries.{CallEntry}
use Rattle.call_rules.specs.Handling.{ServiceState, handler_rules}
use Rattle.machine_model.specs.HallState.{JobOutcome}
use Rattle.machine_model.specs.HallRule.{HallAnswer, outcome, empty, is_closed, outcome_of}
use Rattle.machine_model.specs.SeenHall.{MayHave}
use Rattle.hall_core.specs.declared.operation.HallReply.{HallReply}
use Rattle.hall_core.specs.Meant.{ServedHall, opened_hall}
use Rattle.hall_core.specs.Asked.{answer_of}
use Rattle.hub_model.specs.HubState.{HubState}
use Rattle.hub_model.specs.HubRule.{HubOperation, submit_from, take_one, apply_one, put_one, collect_for, close_all, HubGives}
use Rattle.hub_model.specs.HubMay.{HubCan}
use Rattle.hub_core.specs.declared.operation.HubOp.{HubOp}
use Rattle.hub_core.specs.declared.operation.HubOp.TheVariants.{SubmitFrom, Take, Apply, Put, CollectFor, Close}

-- a hall, and the lists of the loops
pub record ServedHub : Type 0 where
  pub hall : ServedHall
  pub lists : List (List JobOutcome)

abbrev pub served_hub : ServedHall → List (List JobOutcome) → ServedHub
served_hub hall lists = record { hall = hall; lists = lists }

-- a newly opened one of so many loops, with these services and this journal
abbrev pub opened_hub : List ServiceState → Option (List CallEntry) → ℕ → ℕ → ServedHub
opened_hub services told faults loops = served_hub (opened_hall services told faults) (replicate loops [])

-- the list of loop l
abbrev pub loop_list : List (List JobOutcome) → ℕ → List JobOutcome
loop_list lists l = get_or lists l []

-- the model's hub, whose journal has these entries
abbrev pub hub_filled : ServedHub → List CallEntry → HubState PlainCall PlainAnswer ServiceState
hub_filled h entries =
    record {
      jobs = h.hall.jobs;
      taken = h.hall.taken;
      lists = loop_list h.lists;
      memories = h.hall.memories;
      journal = entries;
      faults = h.hall.faults;
      closed = h.hall.closed;
      broken = h.hall.broken;
    }

-- what is asked
abbrev pub hub_operation_of : HubOp → HubOperation PlainCall
hub_operation_of (SubmitFrom l key payload) = submit_from l key payload
hub_operation_of Take = take_one
hub_operation_of (Apply key call) = apply_one key call
hub_operation_of (Put key settled) = put_one key settled
hub_operation_of (CollectFor l) = collect_for l
hub_operation_of Close = close_all

-- a call that is applied is plain
abbrev pub AsksPlain : HubOp → Type 0
AsksPlain (Apply key call) = IsPlainCall call
AsksPlain _ = Unit {0}

-- a step of a hub of n loops, by the model's rule, whatever entries the journal may have
abbrev pub HubStepGives : ℕ → ServedHub → HubOp → HallReply → ServedHub → Type 0
HubStepGives n old op reply new =
    (entries : List CallEntry) → MayHave old.hall.told entries
    → (later : List CallEntry) × MayHave new.hall.told later × HubGives n handler_rules (hub_filled old entries) (hub_operation_of op) (answer_of reply) (hub_filled new later)

-- its condition: that of the model's hub, and that the call is plain
abbrev pub HubStepCan : ℕ → ServedHub → HubOp → Type 0
HubStepCan n hub op = HubCan n handler_rules (hub_filled hub []) (hub_operation_of op) × AsksPlain op

-- what collecting for loop l comes to, where the hub is closed or isn't
abbrev pub HubCollects : List (List JobOutcome) → List (List JobOutcome) → ℕ → ServedHall → HallAnswer PlainAnswer → Type 0
HubCollects old new l hall (outcome key settled) = (loop_list old l ≡ outcome_of key settled ∷ loop_list new l) × (new ≡ set old l (loop_list new l))
HubCollects old new l hall empty = (loop_list old l ≡ []) × (hall.closed ≡ false) × (new ≡ old)
HubCollects old new l hall is_closed = (loop_list old l ≡ []) × (hall.closed ≡ true) × (new ≡ old)
HubCollects old new l hall _ = ⊥
