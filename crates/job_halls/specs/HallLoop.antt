-- A hall as its one loop asks it, which has number 0.
use Rattle.std.proofs.Common.{◌≡◌, ℕ, Bool, true, false, List, [], ◌∷◌, ◌++◌, ap, ◌∙◌, subst}
use Rattle.host_model.specs.declared.key.Key.{Key}
use Rattle.call_history.specs.Calls.{seat_ask, calls_by, asks_of}
use Rattle.call_rules.specs.PlainCalls.{PlainCall, PlainAnswer}
use Rattle.call_rules.specs.Handling.{handler_rules}
use Rattle.machine_model.specs.HallRule.{close}
use Rattle.machine_model.specs.OwnCalls.{HallAsk, most_connections}
use Rattle.machine_model.specs.OwnLoop.{CollectsItsOwn}
use Rattle.machine_model.specs.SeenHall.{filled}
use Rattle.machine_model.proofs.Minding.{collects_own}
use Rattle.seat_booth.specs.Seats.{BoothView, MakesCall}
use Rattle.hall_core.specs.declared.operation.HallOp.{HallOp}
use Rattle.hall_core.specs.declared.operation.HallOp.TheVariants as operation
use Rattle.hall_core.specs.declared.operation.HallReply.{HallReply}
use Rattle.hall_core.specs.declared.operation.HallReply.TheVariants as reply
use Rattle.hall_core.specs.Meant.{ServedHall}
use Rattle.hall_core.specs.Asked.{operation_of, answer_of, StepCall, StepGives, StepMay}
use Rattle.job_halls.specs.declared.job_hall.Side.{Side}
use Rattle.job_halls.specs.declared.job_hall.TakenOutcome.{TakenOutcome}
use Rattle.job_halls.specs.declared.job_hall.TakenOutcome.TheVariants.{Outcome, Empty, Closed}
use Rattle.job_halls.specs.Asking.{MaySubmit, GoesOnBy, HandsInJob, GainsOutcome, ClosesIt}
use Rattle.job_halls.specs.HallCalls.{SeatAtHall, asks_at_hall, IsOpenedHall, HallSoFar, hall_so_far, may_answer, hall_one_more}

-- a newly opened hall, and the side is its loop's
pub record IsOpenedAt (side : Side) (first : ServedHall) : Type 0 where
  pub hall : IsOpenedHall first
  pub zeroth : side.number ≡ 0

-- a loop may have as many keys as there are in all
abbrev pub most_keys : ℕ
most_keys = most_connections

-- whether a reply to Submit says that the hall took the job
abbrev pub took_reply : HallReply → Bool
took_reply reply.Done = true
took_reply _ = false

-- what a reply to Collect means
abbrev pub outcome_reply : HallReply → TakenOutcome
outcome_reply (reply.Settled key settled) = Outcome key settled
outcome_reply reply.Closed = Closed
outcome_reply _ = Empty

pub may_submit_there : (side : Side) (first : ServedHall) (own : List StepCall) (key : Key) (payload : List ℕ) → IsOpenedAt side first → MaySubmit most_keys (asks_at_hall own) key payload
    → StepMay first side.number own (operation.Submit key payload)
may_submit_there side first own key payload o m = ((o.hall.empty, (o.hall.opened, (o.zeroth, m.0, m.1, m.2))), tt)

pub may_collect_there : (side : Side) (first : ServedHall) (own : List StepCall) → IsOpenedAt side first → StepMay first side.number own operation.Collect
may_collect_there side first own o = ((o.hall.empty, (o.hall.opened, tt)), tt)

module _ (side : Side) (booth : BoothView ServedHall) (old new : SeatAtHall) (opened : IsOpenedAt side booth.opening) (is : old.number ≡ side.number) where
  abbrev Calls : HallOp → HallReply → Type 0
  Calls op found = MakesCall StepGives StepMay booth old op found new

  -- of what it collects, each was submitted by it, and not collected before
  pub its_own_there : (op : HallOp) (found : HallReply) → Calls op found → CollectsItsOwn (asks_at_hall new.mine)
  its_own_there op found m =
      let made : HallSoFar booth old new op found m = hall_so_far booth old new op found m opened.hall in
      let own : calls_by 0 (asks_of made.full) ≡ asks_at_hall new.mine = subst (λ (n : ℕ). calls_by n (asks_of made.full) ≡ asks_at_hall new.mine) (is ∙ opened.zeroth) made.mine in
      subst (λ (l : List (HallAsk PlainCall PlainAnswer)). CollectsItsOwn l) own (collects_own handler_rules (filled booth.opening []) made.full made.history made.allowed)

  goes_on : (op : HallOp) (found : HallReply) → Calls op found → GoesOnBy (asks_at_hall old.mine) (asks_at_hall new.mine) (operation_of op) (answer_of found)
  goes_on op found m =
      hall_one_more booth old new op found m ∙ ap (λ (n : ℕ). asks_at_hall old.mine ++ seat_ask n (operation_of op) (answer_of found) ∷ []) (is ∙ opened.zeroth)

  pub submits_there : (key : Key) (payload : List ℕ) (found : HallReply) → Calls (operation.Submit key payload) found
      → HandsInJob (asks_at_hall old.mine) (asks_at_hall new.mine) key payload (took_reply found)
  submits_there key payload reply.Done m = goes_on (operation.Submit key payload) reply.Done m
  submits_there key payload reply.Closed m = goes_on (operation.Submit key payload) reply.Closed m
  submits_there key payload reply.Empty m = absurd (may_answer booth old new (operation.Submit key payload) reply.Empty m)
  submits_there key payload (reply.Job k p) m = absurd (may_answer booth old new (operation.Submit key payload) (reply.Job k p) m)
  submits_there key payload (reply.Applied answer) m = absurd (may_answer booth old new (operation.Submit key payload) (reply.Applied answer) m)
  submits_there key payload reply.NoMemory m = absurd (may_answer booth old new (operation.Submit key payload) reply.NoMemory m)
  submits_there key payload reply.JournalFault m = absurd (may_answer booth old new (operation.Submit key payload) reply.JournalFault m)
  submits_there key payload reply.Broken m = absurd (may_answer booth old new (operation.Submit key payload) reply.Broken m)
  submits_there key payload (reply.Settled k settled) m = absurd (may_answer booth old new (operation.Submit key payload) (reply.Settled k settled) m)

  pub collects_there : (found : HallReply) → Calls operation.Collect found → GainsOutcome (asks_at_hall old.mine) (asks_at_hall new.mine) (outcome_reply found)
  collects_there (reply.Settled key settled) m = goes_on operation.Collect (reply.Settled key settled) m
  collects_there reply.Empty m = goes_on operation.Collect reply.Empty m
  collects_there reply.Closed m = goes_on operation.Collect reply.Closed m
  collects_there reply.Done m = absurd (may_answer booth old new operation.Collect reply.Done m)
  collects_there (reply.Job key payload) m = absurd (may_answer booth old new operation.Collect (reply.Job key payload) m)
  collects_there (reply.Applied answer) m = absurd (may_answer booth old new operation.Collect (reply.Applied answer) m)
  collects_there reply.NoMemory m = absurd (may_answer booth old new operation.Collect reply.NoMemory m)
  collects_there reply.JournalFault m = absurd (may_answer booth old new operation.Collect reply.JournalFault m)
  collects_there reply.Broken m = absurd (may_answer booth old new operation.Collect reply.Broken m)

  pub closes_there : (found : HallReply) → Calls operation.Close found → ClosesIt (asks_at_hall old.mine) (asks_at_hall new.mine)
  closes_there found m =
      subst (GoesOnBy (asks_at_hall old.mine) (asks_at_hall new.mine) close) (may_answer booth old new operation.Close found m) (goes_on operation.Close found m)
