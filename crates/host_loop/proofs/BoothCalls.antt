-- What a call of seat 0 at a booth round a hall is answered, and what its calls are then.
use Rattle.std.proofs.Common.{◌≡◌, ℕ, Bool, List, [], map, sym, ap, ◌∙◌, subst}
use Rattle.host_model.specs.declared.key.Key.{Key}
use Rattle.host_model.specs.Journal.{ServiceRules}
use Rattle.call_history.specs.Calls.{calls_by, asks_of, AllAllowed}
use Rattle.call_rules.specs.PlainCalls.{PlainCall, PlainAnswer}
use Rattle.call_rules.specs.Handling.{handler_rules}
use Rattle.machine_model.specs.HallState.{HallState}
use Rattle.machine_model.specs.HallRule.{submit, collect, HallAnswer, done, empty, is_closed, outcome, HallGives}
use Rattle.machine_model.specs.OwnCalls.{HallAsk, HallMay}
use Rattle.machine_model.specs.OwnLoop.{CollectsItsOwn}
use Rattle.machine_model.specs.SeenHall.{filled}
use Rattle.machine_model.proofs.Filling.{IsFilled, fill, all_allowed}
use Rattle.machine_model.proofs.Minding.{collects_own}
use Rattle.seat_booth.specs.Seats.{BoothView, MakesCall}
use Rattle.hall_core.specs.declared.operation.HallOp.{HallOp}
use Rattle.hall_core.specs.declared.operation.HallOp.TheVariants as operation
use Rattle.hall_core.specs.declared.operation.HallReply.{HallReply}
use Rattle.hall_core.specs.declared.operation.HallReply.TheVariants as reply
use Rattle.hall_core.specs.Meant.{ServedHall}
use Rattle.hall_core.specs.Asked.{answer_of, StepGives, StepMay}
use Rattle.hall_core.specs.Following.{call_seen, seen_history, same_asks, asks_by, seen_allowed}
use Rattle.hall_pool.specs.Turns.{asks_made}
use Rattle.hall_pool.specs.Jobs.{HallSeat, IsOpenedNew}
use Rattle.hall_pool.proofs.Answering.{IsStep, step_made, one_more}
use Rattle.host_loop.specs.declared.asking.Collected.{Collected}
use Rattle.host_loop.specs.Asked.{took_so, SubmitsJob, collected_reply, CollectsOutcome}

-- what Submit answers
abbrev IsSubmitAnswer : {A : Type 0} → HallAnswer A → Type 0
IsSubmitAnswer done = Unit {0}
IsSubmitAnswer is_closed = Unit {0}
IsSubmitAnswer _ = ⊥

-- what Collect answers
abbrev IsCollectAnswer : {A : Type 0} → HallAnswer A → Type 0
IsCollectAnswer (outcome key settled) = Unit {0}
IsCollectAnswer empty = Unit {0}
IsCollectAnswer is_closed = Unit {0}
IsCollectAnswer _ = ⊥

module _ {C A M : Type 0} (r : ServiceRules C A M) (old new : HallState C A M) where
  submit_answer : (key : Key) (payload : List ℕ) (answer : HallAnswer A) → HallGives r old (submit key payload) answer new → IsSubmitAnswer answer
  submit_answer key payload done g = tt
  submit_answer key payload is_closed g = tt
  submit_answer key payload _ g = absurd g

  collect_answer : (answer : HallAnswer A) → HallGives r old collect answer new → IsCollectAnswer answer
  collect_answer (outcome key settled) g = tt
  collect_answer empty g = tt
  collect_answer is_closed g = tt
  collect_answer _ g = absurd g

submit_step : (old new : ServedHall) (key : Key) (payload : List ℕ) (answer : HallAnswer PlainAnswer) → IsStep old (submit key payload) answer new → IsSubmitAnswer answer
submit_step old new key payload answer s = submit_answer handler_rules (filled old s.before) (filled new s.later) key payload answer s.gives

collect_step : (old new : ServedHall) (answer : HallAnswer PlainAnswer) → IsStep old collect answer new → IsCollectAnswer answer
collect_step old new answer s = collect_answer handler_rules (filled old s.before) (filled new s.later) answer s.gives

module _ (booth : BoothView ServedHall) (old new : HallSeat) where
  -- a call of this seat
  abbrev Calls : HallOp → HallReply → Type 0
  Calls op found = MakesCall StepGives StepMay booth old op found new

  -- Of what it collects, each was submitted by it, and not collected before.
  pub collects_its_own : (op : HallOp) (found : HallReply) → IsOpenedNew booth → old.number ≡ 0 → Calls op found → CollectsItsOwn (asks_made new.mine)
  collects_its_own op found opened zeroth m =
      let full : IsFilled handler_rules booth.opening [] (map call_seen new.seen) =
      fill handler_rules booth.opening [] (map call_seen new.seen) opened.empty (seen_history booth.opening new.seen m.history) in
      let asks : asks_of full.0 ≡ asks_made new.seen = full.3 ∙ same_asks new.seen in
      let allowed : AllAllowed (HallMay handler_rules) (filled booth.opening []) (asks_of full.0) =
      subst (AllAllowed (HallMay handler_rules) (filled booth.opening [])) (sym full.3)
      (all_allowed handler_rules booth.opening (asks_of (map call_seen new.seen)) (seen_allowed booth.opening new.seen m.allowed)) in
      let mine : calls_by old.number (asks_of full.0) ≡ asks_made new.mine = ap (calls_by old.number) asks ∙ asks_by old.number new.seen ∙ ap asks_made m.own in
      let own : calls_by 0 (asks_of full.0) ≡ asks_made new.mine = subst (λ (n : ℕ). calls_by n (asks_of full.0) ≡ asks_made new.mine) zeroth mine in
      subst (λ (l : List (HallAsk PlainCall PlainAnswer)). CollectsItsOwn l) own (collects_own handler_rules (filled booth.opening []) full.0 full.2 allowed)

  submits_by : (key : Key) (payload : List ℕ) (found : HallReply) → Calls (operation.Submit key payload) found → SubmitsJob old new key payload (took_so found)
  submits_by key payload reply.Done m = one_more booth old new (operation.Submit key payload) reply.Done m
  submits_by key payload reply.Closed m = one_more booth old new (operation.Submit key payload) reply.Closed m
  submits_by key payload reply.Empty m = absurd (submit_step _ _ key payload (answer_of reply.Empty) (step_made booth old new (operation.Submit key payload) reply.Empty m))
  submits_by key payload (reply.Job k p) m = absurd (submit_step _ _ key payload (answer_of (reply.Job k p)) (step_made booth old new (operation.Submit key payload) (reply.Job k p) m))
  submits_by key payload (reply.Applied answer) m = absurd (submit_step _ _ key payload (answer_of (reply.Applied answer)) (step_made booth old new (operation.Submit key payload) (reply.Applied answer) m))
  submits_by key payload reply.NoMemory m = absurd (submit_step _ _ key payload (answer_of reply.NoMemory) (step_made booth old new (operation.Submit key payload) reply.NoMemory m))
  submits_by key payload reply.JournalFault m = absurd (submit_step _ _ key payload (answer_of reply.JournalFault) (step_made booth old new (operation.Submit key payload) reply.JournalFault m))
  submits_by key payload reply.Broken m = absurd (submit_step _ _ key payload (answer_of reply.Broken) (step_made booth old new (operation.Submit key payload) reply.Broken m))
  submits_by key payload (reply.Settled k settled) m = absurd (submit_step _ _ key payload (answer_of (reply.Settled k settled)) (step_made booth old new (operation.Submit key payload) (reply.Settled k settled) m))

  pub submits : (key : Key) (payload : List ℕ) (found : HallReply) (result : Bool) → Calls (operation.Submit key payload) found → result ≡ took_so found → SubmitsJob old new key payload result
  submits key payload found result m is = subst (SubmitsJob old new key payload) (sym is) (submits_by key payload found m)

  collects_by : (found : HallReply) → Calls operation.Collect found → CollectsOutcome old new (collected_reply found)
  collects_by (reply.Settled key settled) m = one_more booth old new operation.Collect (reply.Settled key settled) m
  collects_by reply.Empty m = one_more booth old new operation.Collect reply.Empty m
  collects_by reply.Closed m = one_more booth old new operation.Collect reply.Closed m
  collects_by reply.Done m = absurd (collect_step _ _ (answer_of reply.Done) (step_made booth old new operation.Collect reply.Done m))
  collects_by (reply.Job key payload) m = absurd (collect_step _ _ (answer_of (reply.Job key payload)) (step_made booth old new operation.Collect (reply.Job key payload) m))
  collects_by (reply.Applied answer) m = absurd (collect_step _ _ (answer_of (reply.Applied answer)) (step_made booth old new operation.Collect (reply.Applied answer) m))
  collects_by reply.NoMemory m = absurd (collect_step _ _ (answer_of reply.NoMemory) (step_made booth old new operation.Collect reply.NoMemory m))
  collects_by reply.JournalFault m = absurd (collect_step _ _ (answer_of reply.JournalFault) (step_made booth old new operation.Collect reply.JournalFault m))
  collects_by reply.Broken m = absurd (collect_step _ _ (answer_of reply.Broken) (step_made booth old new operation.Collect reply.Broken m))

  pub collects : (found : HallReply) (result : Collected) → Calls operation.Collect found → result ≡ collected_reply found → CollectsOutcome old new result
  collects found result m is = subst (CollectsOutcome old new) (sym is) (collects_by found m)
