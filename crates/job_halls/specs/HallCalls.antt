-- Calls at a booth round a hall: what a seat's calls are, as asks of the machine's hall.
use Rattle.std.proofs.Common.{◌≡◌, List, [], ◌∷◌, ◌++◌, map, sym, ap, ◌∙◌, subst}
use Rattle.std.proofs.lemmas.List.{map-append}
use Rattle.call_history.specs.History.{seat_call, meaning_after, IsHistory}
use Rattle.call_history.specs.Calls.{seat_ask, calls_by, asks_of, AllAllowed}
use Rattle.call_history.specs.Laws.{IsHistory-at}
use Rattle.call_rules.specs.PlainCalls.{PlainCall, PlainAnswer}
use Rattle.call_rules.specs.Handling.{ServiceState, handler_rules}
use Rattle.machine_model.specs.HallState.{IsNewlyOpened}
use Rattle.machine_model.specs.HallRule.{HallGives}
use Rattle.machine_model.specs.OwnCalls.{HallCall, HallAsk, HallMay}
use Rattle.machine_model.specs.SeenHall.{MayHave, filled}
use Rattle.machine_model.proofs.Filling.{IsFilled, fill, all_allowed}
use Rattle.seat_booth.specs.Seats.{BoothView, SeatView, MakesCall}
use Rattle.hall_core.specs.declared.operation.HallOp.{HallOp}
use Rattle.hall_core.specs.declared.operation.HallReply.{HallReply}
use Rattle.hall_core.specs.Meant.{ServedHall}
use Rattle.hall_core.specs.Asked.{operation_of, answer_of, StepCall, ask_seen, StepGives, StepMay}
use Rattle.hall_core.specs.Following.{call_seen, seen_history, same_asks, asks_by, seen_allowed}
use Rattle.job_halls.specs.HallAnswers.{MayAnswer, answers_seen}

-- a seat at a booth round a hall
abbrev pub SeatAtHall : Type 0
SeatAtHall = SeatView HallOp HallReply ServedHall

-- a seat's calls, as asks of the machine's hall
abbrev pub asks_at_hall : List StepCall → List (HallAsk PlainCall PlainAnswer)
asks_at_hall own = map ask_seen own

-- a newly opened hall, whose journal has no entries where it tells
pub record IsOpenedHall (first : ServedHall) : Type 0 where
  pub opened : IsNewlyOpened (filled first [])
  pub empty : MayHave first.told []

module _ (booth : BoothView ServedHall) (old new : SeatAtHall) (op : HallOp) (found : HallReply) (m : MakesCall StepGives StepMay booth old op found new) where
  -- the call
  abbrev call_made : StepCall
  call_made = seat_call old.number op found m.after

  -- the calls before it
  abbrev pub calls_before : List StepCall
  calls_before = old.seen ++ m.between

  -- it is answered so as one that the rule allows
  pub may_answer : MayAnswer (operation_of op) (answer_of found)
  may_answer =
      answers_seen (meaning_after booth.opening calls_before) m.after (operation_of op) (answer_of found)
      (IsHistory-at StepGives booth.opening calls_before [] call_made (subst (IsHistory StepGives booth.opening) m.seen m.history))

  -- the seat has made one ask more
  pub hall_one_more : asks_at_hall new.mine ≡ asks_at_hall old.mine ++ seat_ask old.number (operation_of op) (answer_of found) ∷ []
  hall_one_more = ap asks_at_hall m.mine ∙ map-append ask_seen old.mine (call_made ∷ [])

  -- all calls up to this one as a history of the machine's hall, whose last ask it is
  pub record HallSoFar : Type 0 where
    pub full : List (HallCall PlainCall PlainAnswer ServiceState)
    pub history : IsHistory (HallGives handler_rules) (filled booth.opening []) full
    pub allowed : AllAllowed (HallMay handler_rules) (filled booth.opening []) (asks_of full)
    pub last : asks_of full ≡ asks_at_hall calls_before ++ seat_ask old.number (operation_of op) (answer_of found) ∷ []
    pub mine : calls_by old.number (asks_of full) ≡ asks_at_hall new.mine

  pub hall_so_far : IsOpenedHall booth.opening → HallSoFar
  hall_so_far opened =
      let full : IsFilled handler_rules booth.opening [] (map call_seen new.seen) =
      fill handler_rules booth.opening [] (map call_seen new.seen) opened.empty (seen_history booth.opening new.seen m.history) in
      let asks : asks_of full.0 ≡ asks_at_hall new.seen = full.3 ∙ same_asks new.seen in
      record {
        full = full.0;
        history = full.2;
        allowed = subst (AllAllowed (HallMay handler_rules) (filled booth.opening [])) (sym full.3)
            (all_allowed handler_rules booth.opening (asks_of (map call_seen new.seen)) (seen_allowed booth.opening new.seen m.allowed));
        last = asks ∙ ap asks_at_hall m.seen ∙ map-append ask_seen calls_before (call_made ∷ []);
        mine = ap (calls_by old.number) asks ∙ asks_by old.number new.seen ∙ ap asks_at_hall m.own;
      }
