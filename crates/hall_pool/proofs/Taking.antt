-- What a worker knows once it has taken a job, and what a turn is that found none.
use Rattle.std.proofs.Common.{◌≡◌, ℕ, ◌<◌, Bool, true, false, Result, MatchResult, List, [], ◌∷◌, ◌++◌, map, length, refl, sym, ap, ◌∙◌, subst, if◌then◌else◌}
use Rattle.std.proofs.lemmas.List.{map-append}
use Rattle.host_model.specs.declared.key.Key.{Key}
use Rattle.call_history.specs.Calls.{seat_ask, calls_by, asks_of, AllAllowed}
use Rattle.call_history.specs.History.{meaning_after}
use Rattle.call_rules.specs.PlainCalls.{PlainCall, PlainAnswer}
use Rattle.call_rules.specs.Desks.{DeskMeaning}
use Rattle.call_rules.specs.Handling.{handler_rules}
use Rattle.machine_model.specs.HallState.{Job}
use Rattle.machine_model.specs.HallRule.{take_job, apply, HallAnswer, job, empty, is_closed}
use Rattle.machine_model.specs.OwnCalls.{HallAsk, holds_key, OwnAsksAllow, HallMay}
use Rattle.machine_model.specs.SeenHall.{filled}
use Rattle.machine_model.specs.Merge.{found_none, FindsNone}
use Rattle.machine_model.proofs.Keys.{is_same_self}
use Rattle.machine_model.proofs.Owning.{holds_push}
use Rattle.machine_model.proofs.Filling.{IsFilled, fill, all_allowed}
use Rattle.machine_model.proofs.Singling.{may_apply}
use Rattle.seat_booth.specs.Seats.{BoothView, MakesCall}
use Rattle.hall_core.specs.declared.operation.HallOp.TheVariants.{Take}
use Rattle.hall_core.specs.declared.operation.HallReply.{HallReply}
use Rattle.hall_core.specs.declared.operation.HallReply.TheVariants as reply
use Rattle.hall_core.specs.Meant.{ServedHall}
use Rattle.hall_core.specs.Asked.{answer_of, ask_seen, StepGives, StepMay}
use Rattle.hall_core.specs.Following.{call_seen, seen_history, same_asks, asks_by, seen_allowed}
use Rattle.hall_pool.specs.declared.turn.Turn.{Turn}
use Rattle.hall_pool.specs.declared.turn.Turn.TheVariants.{Empty, Closed}
use Rattle.hall_pool.specs.Turns.{asks_made, turn_told, AddsTurn}
use Rattle.hall_pool.specs.Jobs.{HallSeat, IsOpenedNew, AddsAsk, HoldsJob, job_replied}
use Rattle.hall_pool.proofs.Answering.{IsStep, take_step, asked_more, call_made, calls_before, history_before, allowed_before, step_made, one_more}
use Rattle.hall_pool.proofs.Shortness.{taken_short, jobs_short}

-- a seat that has asked for a job, and was answered so
abbrev pub Asks : BoothView ServedHall → HallSeat → HallReply → HallSeat → Type 0
Asks booth old found new = MakesCall StepGives StepMay booth old Take found new

module _ (booth : BoothView ServedHall) (old new : HallSeat) (opened : IsOpenedNew booth) where
  module _ (key : Key) (payload : List ℕ) (m : Asks booth old (reply.Job key payload) new) where
    -- its call may be applied, since no seat has applied one under its key
    may_call : (call : PlainCall) → call.slot < length booth.opening.memories → OwnAsksAllow handler_rules (filled booth.opening []) old.number (asks_made new.mine) (apply key call)
    may_call call slot =
        let full : IsFilled handler_rules booth.opening [] (map call_seen new.seen) =
        fill handler_rules booth.opening [] (map call_seen new.seen) opened.empty (seen_history booth.opening new.seen m.history) in
        let asks : asks_of full.0 ≡ asks_made new.seen = full.3 ∙ same_asks new.seen in
        let allowed : AllAllowed (HallMay handler_rules) (filled booth.opening []) (asks_of full.0) =
        subst (AllAllowed (HallMay handler_rules) (filled booth.opening [])) (sym full.3)
        (all_allowed handler_rules booth.opening (asks_of (map call_seen new.seen)) (seen_allowed booth.opening new.seen m.allowed)) in
        let before : List (HallAsk PlainCall PlainAnswer) = asks_made (calls_before booth old new Take (reply.Job key payload) m) in
        let last : asks_of full.0 ≡ before ++ seat_ask old.number take_job (job key payload) ∷ [] =
        asks ∙ ap asks_made m.seen ∙ map-append ask_seen (calls_before booth old new Take (reply.Job key payload) m) (call_made booth old new Take (reply.Job key payload) m ∷ []) in
        let may : HallMay handler_rules (filled booth.opening []) old.number (calls_by old.number (asks_of full.0)) (apply key call) =
        may_apply handler_rules (filled booth.opening []) full.0 before old.number key payload call full.2 allowed last slot in
        let mine : calls_by old.number (asks_of full.0) ≡ asks_made new.mine = ap (calls_by old.number) asks ∙ asks_by old.number new.seen ∙ ap asks_made m.own in
        let own : HallMay handler_rules (filled booth.opening []) old.number (asks_made new.mine) (apply key call) =
        subst (λ (l : List (HallAsk PlainCall PlainAnswer)). HallMay handler_rules (filled booth.opening []) old.number l (apply key call)) mine may in
        own.1

    -- its key is held
    key_held : holds_key key (asks_made new.mine) ≡ true
    key_held =
        ap (holds_key key) (one_more booth old new Take (reply.Job key payload) m)
        ∙ (holds_push key false (asks_made old.mine) (seat_ask old.number take_job (job key payload))
        ∙ ap (λ (b : Bool). if b then true else holds_key key (asks_made old.mine)) (is_same_self key))

    pub holds_job : HoldsJob booth new key payload
    holds_job =
        let before : ServedHall = meaning_after booth.opening (calls_before booth old new Take (reply.Job key payload) m) in
        let step : IsStep before take_job (job key payload) m.after = step_made booth old new Take (reply.Job key payload) m in
        record {
          short = taken_short handler_rules (filled before step.before) (filled m.after step.later) key payload step.gives
              (jobs_short booth.opening opened.opened (calls_before booth old new Take (reply.Job key payload) m) (history_before booth old new Take (reply.Job key payload) m)
              (allowed_before booth old new Take (reply.Job key payload) m));
          held = key_held;
          may = may_call;
        }

  -- a turn that found none
  found_turn : (desk : DeskMeaning) (answer : HallAnswer PlainAnswer) (turn : Turn) → AddsAsk old new take_job answer → FindsNone answer → turn ≡ turn_told (found_none answer)
      → AddsTurn desk old.mine new.mine turn
  found_turn desk answer turn more none is = record { made = found_none answer; right = (none, tt); calls = asked_more old new take_job answer more; told = is }

  -- what has come of Take
  abbrev pub TakeComesTo : Result Job Turn → Type 0
  TakeComesTo result =
      MatchResult result (λ j. AddsAsk old new take_job (job j.key j.payload) × HoldsJob booth new j.key j.payload) (λ turn. (desk : DeskMeaning) → AddsTurn desk old.mine new.mine turn)

  takes_by : (found : HallReply) → Asks booth old found new → TakeComesTo (job_replied found)
  takes_by (reply.Job key payload) m = (one_more booth old new Take (reply.Job key payload) m, holds_job key payload m)
  takes_by reply.Empty m = λ desk. found_turn desk empty Empty (one_more booth old new Take reply.Empty m) tt refl
  takes_by reply.Closed m = λ desk. found_turn desk is_closed Closed (one_more booth old new Take reply.Closed m) tt refl
  takes_by reply.Done m = absurd (take_step _ _ (answer_of reply.Done) (step_made booth old new Take reply.Done m))
  takes_by (reply.Applied answer) m = absurd (take_step _ _ (answer_of (reply.Applied answer)) (step_made booth old new Take (reply.Applied answer) m))
  takes_by reply.NoMemory m = absurd (take_step _ _ (answer_of reply.NoMemory) (step_made booth old new Take reply.NoMemory m))
  takes_by reply.JournalFault m = absurd (take_step _ _ (answer_of reply.JournalFault) (step_made booth old new Take reply.JournalFault m))
  takes_by reply.Broken m = absurd (take_step _ _ (answer_of reply.Broken) (step_made booth old new Take reply.Broken m))
  takes_by (reply.Settled key settled) m = absurd (take_step _ _ (answer_of (reply.Settled key settled)) (step_made booth old new Take (reply.Settled key settled) m))

  pub takes : (found : HallReply) (result : Result Job Turn) → Asks booth old found new → result ≡ job_replied found → TakeComesTo result
  takes found result m is = subst TakeComesTo (sym is) (takes_by found m)
