-- Calls at a booth round a hub: what they are answered, and what a seat's calls are, as asks of the model's hub.
use Rattle.std.proofs.Common.{◌≡◌, ℕ, ◌<◌, List, [], ◌∷◌, ◌++◌, map, length, refl, sym, ap, ◌∙◌, subst}
use Rattle.std.proofs.lemmas.List.{map-append}
use Rattle.host_model.specs.Journal.{ServiceRules}
use Rattle.call_history.specs.History.{seat_call, meaning_after, IsHistory}
use Rattle.call_history.specs.Calls.{calls_by, asks_of, AllAllowed}
use Rattle.call_history.specs.Laws.{IsHistory-at}
use Rattle.call_rules.specs.PlainCalls.{PlainCall, PlainAnswer}
use Rattle.call_rules.specs.Entries.{CallEntry}
use Rattle.call_rules.specs.Handling.{ServiceState, handler_rules}
use Rattle.machine_model.specs.HallRule.{HallOperation, submit, take_job, apply, put, collect, close, HallAnswer, done, empty, is_closed, outcome}
use Rattle.machine_model.specs.SeenHall.{MayHave}
use Rattle.seat_booth.specs.Seats.{BoothView, SeatView, MakesCall}
use Rattle.hall_core.specs.declared.operation.HallReply.{HallReply}
use Rattle.hall_core.specs.Asked.{answer_of}
use Rattle.hub_model.specs.HubState.{HubState, IsOpenedHub, but_outcomes}
use Rattle.hub_model.specs.HubRule.{HubOperation, submit_from, take_one, apply_one, put_one, collect_for, close_all, HubCall, HubGives}
use Rattle.hub_model.specs.HubMay.{HubMay}
use Rattle.job_halls.specs.HallAnswers.{MayAnswer, answers, some_entries}
use Rattle.hub_core.specs.declared.operation.HubOp.{HubOp}
use Rattle.hub_core.specs.Hub.{ServedHub, hub_filled, hub_operation_of}
use Rattle.hub_core.specs.Following.{HubStepCall, hub_ask, ObjectGives, ObjectMay, Filled, filled_all, hub_asks_by, allowed_asks}

-- a seat at a booth round a hub
abbrev pub HubSeat : Type 0
HubSeat = SeatView HubOp HallReply ServedHub

-- a newly opened hub, whose journal has no entries where it tells
pub record IsNewlyOpen (first : ServedHub) : Type 0 where
  pub told : MayHave first.hall.told []
  pub opened : IsOpenedHub (hub_filled first [])
  pub some : 0 < length first.lists

-- an operation of a hub as one of a hall, to whichever loop it belongs
abbrev pub hall_operation : {C : Type 0} → HubOperation C → HallOperation C
hall_operation (submit_from l key payload) = submit key payload
hall_operation take_one = take_job
hall_operation (apply_one key call) = apply key call
hall_operation (put_one key settled) = put key settled
hall_operation (collect_for l) = collect
hall_operation close_all = close

module _ {C A M : Type 0} (n : ℕ) (r : ServiceRules C A M) (old new : HubState C A M) where
  -- a hub answers as a hall does
  pub hub_answers : (op : HubOperation C) (answer : HallAnswer A) → HubGives n r old op answer new → MayAnswer (hall_operation op) answer
  hub_answers (submit_from l key payload) answer g = answers r (but_outcomes old) (but_outcomes new) (submit key payload) answer g.0
  hub_answers take_one answer g = answers r (but_outcomes old) (but_outcomes new) take_job answer g.0
  hub_answers (apply_one key call) answer g = answers r (but_outcomes old) (but_outcomes new) (apply key call) answer (g.0, g.1, g.2, g.3)
  hub_answers (put_one key settled) done g = refl
  hub_answers (put_one key settled) _ g = absurd g
  hub_answers (collect_for l) (outcome key settled) g = tt
  hub_answers (collect_for l) empty g = tt
  hub_answers (collect_for l) is_closed g = tt
  hub_answers (collect_for l) _ g = absurd g
  hub_answers close_all answer g = answers r (but_outcomes old) (but_outcomes new) close answer g.0

module _ (booth : BoothView ServedHub) (old new : HubSeat) (op : HubOp) (found : HallReply) (m : MakesCall ObjectGives ObjectMay booth old op found new) where
  -- the call
  abbrev pub hub_call_made : HubStepCall
  hub_call_made = seat_call old.number op found m.after

  -- the calls before it
  abbrev pub hub_calls_before : List HubStepCall
  hub_calls_before = old.seen ++ m.between

  -- it is answered so as one that the rule allows
  pub hub_may_answer : MayAnswer (hall_operation (hub_operation_of op)) (answer_of found)
  hub_may_answer =
      let hub : ServedHub = meaning_after booth.opening hub_calls_before in
      let g : ObjectGives hub op found m.after =
      IsHistory-at ObjectGives booth.opening hub_calls_before [] hub_call_made (subst (IsHistory ObjectGives booth.opening) m.seen m.history) in
      let es : (entries : List CallEntry) × MayHave hub.hall.told entries = some_entries hub.hall.told in
      let t : (later : List CallEntry) × MayHave m.after.hall.told later
      × HubGives (length hub.lists) handler_rules (hub_filled hub es.0) (hub_operation_of op) (answer_of found) (hub_filled m.after later) =
      g.1 es.0 es.1 in
      hub_answers (length hub.lists) handler_rules (hub_filled hub es.0) (hub_filled m.after t.0) (hub_operation_of op) (answer_of found) t.2

  -- the seat has made one ask more
  pub hub_one_more : map hub_ask new.mine ≡ map hub_ask old.mine ++ hub_ask hub_call_made ∷ []
  hub_one_more = ap (map hub_ask) m.mine ∙ map-append hub_ask old.mine (hub_call_made ∷ [])

  -- all calls up to this one as a history of the model's hub of n loops, whose last ask it is
  pub record HubSoFar (n : ℕ) : Type 0 where
    pub full : List (HubCall PlainCall PlainAnswer ServiceState)
    pub history : IsHistory (HubGives n handler_rules) (hub_filled booth.opening []) full
    pub allowed : AllAllowed (HubMay n handler_rules) (hub_filled booth.opening []) (asks_of full)
    pub last : asks_of full ≡ map hub_ask hub_calls_before ++ hub_ask hub_call_made ∷ []
    pub mine : calls_by old.number (asks_of full) ≡ map hub_ask new.mine

  pub hub_so_far : (n : ℕ) → length booth.opening.lists ≡ n → MayHave booth.opening.hall.told [] → HubSoFar n
  hub_so_far n is told =
      let f : Filled n booth.opening [] new.seen = filled_all n booth.opening [] new.seen is told m.history in
      record {
        full = f.full;
        history = f.history;
        allowed = subst (AllAllowed (HubMay n handler_rules) (hub_filled booth.opening [])) (sym f.asks)
            (subst (λ (k : ℕ). AllAllowed (HubMay k handler_rules) (hub_filled booth.opening []) (map hub_ask new.seen)) is (allowed_asks booth.opening new.seen m.allowed));
        last = f.asks ∙ (ap (map hub_ask) m.seen ∙ map-append hub_ask hub_calls_before (hub_call_made ∷ []));
        mine = ap (calls_by old.number) f.asks ∙ (hub_asks_by old.number new.seen ∙ ap (map hub_ask) m.own);
      }
