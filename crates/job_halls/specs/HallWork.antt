-- A hall as its workers ask it.
use Rattle.std.proofs.Common.{◌≡◌, ℕ, ◌<◌, Bool, true, false, List, [], ◌∷◌, map, length, ap, ◌∙◌, subst, ⊎_elim, if◌then◌else◌}
use Rattle.std.proofs.lemmas.List.{map-append}
use Rattle.streams.specs.declared.outcomes.Settled.{Settled}
use Rattle.host_model.specs.declared.key.Key.{Key}
use Rattle.call_history.specs.Calls.{seat_ask}
use Rattle.call_rules.specs.PlainCalls.{PlainCall, PlainAnswer}
use Rattle.call_rules.specs.Handling.{handler_rules}
use Rattle.machine_model.specs.HallRule.{take_job, apply, put, close, HallAnswer, done, job}
use Rattle.machine_model.specs.OwnCalls.{HallAsk, holds_key, HallMay}
use Rattle.machine_model.specs.SeenHall.{filled}
use Rattle.machine_model.specs.Merge.{GoesOnAfter, StopsAfter, op_with_answer}
use Rattle.machine_model.proofs.Keys.{is_same_self}
use Rattle.machine_model.proofs.Owning.{holds_push}
use Rattle.machine_model.proofs.Singling.{may_apply}
use Rattle.seat_booth.specs.Seats.{BoothView, MakesCall}
use Rattle.hall_core.specs.declared.operation.HallOp.{HallOp}
use Rattle.hall_core.specs.declared.operation.HallOp.TheVariants as operation
use Rattle.hall_core.specs.declared.operation.HallReply.{HallReply}
use Rattle.hall_core.specs.declared.operation.HallReply.TheVariants as reply
use Rattle.hall_core.specs.Meant.{ServedHall}
use Rattle.hall_core.specs.Asked.{operation_of, answer_of, StepCall, StepGives, StepMay}
use Rattle.job_halls.specs.declared.job_hall.TakenJob.{TakenJob}
use Rattle.job_halls.specs.declared.job_hall.TakenJob.TheVariants.{Found, Empty, Closed}
use Rattle.job_halls.specs.declared.job_hall.AppliedCall.{AppliedCall}
use Rattle.job_halls.specs.declared.job_hall.AppliedCall.TheVariants.{Answered, Unanswered, Failed}
use Rattle.machine_model.specs.HallRule.{job_of}
use Rattle.job_halls.specs.Working.{WorkerAsk, AddsWorkerAsk, TakesJob, AppliesCall, HoldsItsJob, HoldsFound}
use Rattle.job_halls.specs.Shortness.{taken_short}
use Rattle.job_halls.specs.HallCalls.{SeatAtHall, asks_at_hall, IsOpenedHall, calls_before, HallSoFar, hall_so_far, may_answer, hall_one_more}

-- what a seat asked in its calls, with the answers
abbrev pub worker_asks_at_hall : List StepCall → List WorkerAsk
worker_asks_at_hall own = map op_with_answer (asks_at_hall own)

-- how many services a hall has
abbrev pub slots_of : ServedHall → ℕ
slots_of hall = length hall.memories

-- what a reply to Take means
abbrev pub taken_reply : HallReply → TakenJob
taken_reply (reply.Job key payload) = Found (job_of key payload)
taken_reply reply.Closed = Closed
taken_reply _ = Empty

-- what a reply to Apply means
abbrev pub tried_reply : HallReply → AppliedCall
tried_reply (reply.Applied answer) = Answered answer
tried_reply reply.NoMemory = Unanswered
tried_reply _ = Failed

pub may_take_there : (first : ServedHall) (seat : ℕ) (own : List StepCall) → IsOpenedHall first → StepMay first seat own operation.Take
may_take_there first seat own o = ((o.empty, (o.opened, tt)), tt)

pub may_close_there : (first : ServedHall) (seat : ℕ) (own : List StepCall) → IsOpenedHall first → StepMay first seat own operation.Close
may_close_there first seat own o = ((o.empty, (o.opened, tt)), tt)

-- a job that was taken and not put
abbrev pub HoldsHere : ServedHall → ℕ → List StepCall → Key → List ℕ → Type 0
HoldsHere first seat own = HoldsItsJob (StepMay first seat own) operation.Apply operation.Put (slots_of first)

module _ (booth : BoothView ServedHall) (old new : SeatAtHall) where
  abbrev Calls : HallOp → HallReply → Type 0
  Calls op found = MakesCall StepGives StepMay booth old op found new

  adds : (op : HallOp) (found : HallReply) → Calls op found → AddsWorkerAsk (worker_asks_at_hall old.mine) (worker_asks_at_hall new.mine) (operation_of op) (answer_of found)
  adds op found m =
      ap (map op_with_answer) (hall_one_more booth old new op found m)
      ∙ map-append op_with_answer (asks_at_hall old.mine) (seat_ask old.number (operation_of op) (answer_of found) ∷ [])

  module _ (opened : IsOpenedHall booth.opening) (key : Key) (payload : List ℕ) (m : Calls operation.Take (reply.Job key payload)) where
    made : HallSoFar booth old new operation.Take (reply.Job key payload) m
    made = hall_so_far booth old new operation.Take (reply.Job key payload) m opened

    abbrev before : List (HallAsk PlainCall PlainAnswer)
    before = asks_at_hall (calls_before booth old new operation.Take (reply.Job key payload) m)

    -- its call may be applied, since no seat has applied one under its key
    call_allowed : (call : PlainCall) → call.slot < slots_of booth.opening → HallMay handler_rules (filled booth.opening []) old.number (asks_at_hall new.mine) (apply key call)
    call_allowed call slot =
        subst (λ (l : List (HallAsk PlainCall PlainAnswer)). HallMay handler_rules (filled booth.opening []) old.number l (apply key call)) made.mine
        (may_apply handler_rules (filled booth.opening []) made.full before old.number key payload call made.history made.allowed made.last slot)

    -- its key is held
    key_held : holds_key key (asks_at_hall new.mine) ≡ true
    key_held =
        ap (holds_key key) (hall_one_more booth old new operation.Take (reply.Job key payload) m)
        ∙ (holds_push key false (asks_at_hall old.mine) (seat_ask old.number take_job (job key payload))
        ∙ ap (λ (b : Bool). if b then true else holds_key key (asks_at_hall old.mine)) (is_same_self key))

    holds_there : HoldsHere booth.opening old.number new.mine key payload
    holds_there =
        record {
          short = taken_short handler_rules (filled booth.opening []) made.full before old.number key payload opened.opened made.history made.allowed made.last;
          may_apply = λ call slot plain. ((opened.empty, call_allowed call slot), plain);
          may_put = λ settled. ((opened.empty, (opened.opened, key_held)), tt);
        }

  -- what has come of Take
  abbrev TakesThere : TakenJob → Type 0
  TakesThere taken =
      TakesJob (worker_asks_at_hall old.mine) (worker_asks_at_hall new.mine) taken × HoldsFound (StepMay booth.opening old.number new.mine) operation.Apply operation.Put (slots_of booth.opening) taken

  pub takes_there : (found : HallReply) → IsOpenedHall booth.opening → Calls operation.Take found → TakesThere (taken_reply found)
  takes_there (reply.Job key payload) opened m = (adds operation.Take (reply.Job key payload) m, holds_there opened key payload m)
  takes_there reply.Empty opened m = (adds operation.Take reply.Empty m, tt)
  takes_there reply.Closed opened m = (adds operation.Take reply.Closed m, tt)
  takes_there reply.Done opened m = absurd (may_answer booth old new operation.Take reply.Done m)
  takes_there (reply.Applied answer) opened m = absurd (may_answer booth old new operation.Take (reply.Applied answer) m)
  takes_there reply.NoMemory opened m = absurd (may_answer booth old new operation.Take reply.NoMemory m)
  takes_there reply.JournalFault opened m = absurd (may_answer booth old new operation.Take reply.JournalFault m)
  takes_there reply.Broken opened m = absurd (may_answer booth old new operation.Take reply.Broken m)
  takes_there (reply.Settled key settled) opened m = absurd (may_answer booth old new operation.Take (reply.Settled key settled) m)

  module _ (key : Key) (call : PlainCall) where
    -- an answer that Apply doesn't have
    refused : (found : HallReply) → Calls (operation.Apply key call) found → (GoesOnAfter (answer_of found) → ⊥) → (StopsAfter (answer_of found) → ⊥) → ⊥
    refused found m on stop = ⊎_elim on stop (may_answer booth old new (operation.Apply key call) found m)

    pub applies_there : (found : HallReply) → Calls (operation.Apply key call) found → AppliesCall (worker_asks_at_hall old.mine) (worker_asks_at_hall new.mine) key call (tried_reply found)
    applies_there (reply.Applied answer) m = adds (operation.Apply key call) (reply.Applied answer) m
    applies_there reply.NoMemory m = adds (operation.Apply key call) reply.NoMemory m
    applies_there reply.JournalFault m = (answer_of reply.JournalFault, adds (operation.Apply key call) reply.JournalFault m, tt)
    applies_there reply.Broken m = (answer_of reply.Broken, adds (operation.Apply key call) reply.Broken m, tt)
    applies_there reply.Done m = absurd (refused reply.Done m (λ f. f) (λ f. f))
    applies_there (reply.Job k payload) m = absurd (refused (reply.Job k payload) m (λ f. f) (λ f. f))
    applies_there reply.Empty m = absurd (refused reply.Empty m (λ f. f) (λ f. f))
    applies_there reply.Closed m = absurd (refused reply.Closed m (λ f. f) (λ f. f))
    applies_there (reply.Settled k settled) m = absurd (refused (reply.Settled k settled) m (λ f. f) (λ f. f))

    -- what may be put before a call is applied may be put after it
    pub still_there : (found : HallReply) (held : Key) (settled : Settled) → Calls (operation.Apply key call) found → StepMay booth.opening old.number old.mine (operation.Put held settled)
        → StepMay booth.opening old.number new.mine (operation.Put held settled)
    still_there found held settled m may = (
      (
        may.0.0,
        (
          may.0.1.0,
          ap (holds_key held) (hall_one_more booth old new (operation.Apply key call) found m)
              ∙ (holds_push held false (asks_at_hall old.mine) (seat_ask old.number (apply key call) (answer_of found)) ∙ may.0.1.1),
        ),
      ),
      tt,
    )

  -- where the answer is known
  adds_so : (op : HallOp) (found : HallReply) (answer : HallAnswer PlainAnswer) → Calls op found → answer_of found ≡ answer
      → AddsWorkerAsk (worker_asks_at_hall old.mine) (worker_asks_at_hall new.mine) (operation_of op) answer
  adds_so op found answer m so = subst (AddsWorkerAsk (worker_asks_at_hall old.mine) (worker_asks_at_hall new.mine) (operation_of op)) so (adds op found m)

  pub puts_there : (key : Key) (settled : Settled) (found : HallReply) → Calls (operation.Put key settled) found → AddsWorkerAsk (worker_asks_at_hall old.mine) (worker_asks_at_hall new.mine) (put key settled) done
  puts_there key settled found m = adds_so (operation.Put key settled) found done m (may_answer booth old new (operation.Put key settled) found m)

  pub stops_there : (found : HallReply) → Calls operation.Close found → AddsWorkerAsk (worker_asks_at_hall old.mine) (worker_asks_at_hall new.mine) close done
  stops_there found m = adds_so operation.Close found done m (may_answer booth old new operation.Close found m)
