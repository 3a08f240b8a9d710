-- A hub as its workers ask it.
use Rattle.std.proofs.Common.{◌≡◌, ◌⊎◌, ℕ, zero, ◌+◌, ◌<◌, ◌≤◌, ◌==◌, Bool, true, false, List, [], ◌∷◌, ◌++◌, map, length, refl, sym, ap, ◌∙◌, subst, ⊎_elim, if◌then◌else◌, eq-eqb}
use Rattle.std.proofs.lemmas.List.{map-append}
use Rattle.std.proofs.Math.Nat.{zero-lt-suc}
use Rattle.streams.specs.declared.outcomes.Settled.{Settled}
use Rattle.host_model.specs.declared.key.Key.{Key}
use Rattle.host_model.specs.Journal.{JournalEntry}
use Rattle.call_history.specs.History.{meaning_after, IsHistory}
use Rattle.call_history.specs.Calls.{seat_ask, calls_by, asks_of, AllAllowed}
use Rattle.call_rules.specs.PlainCalls.{PlainCall, PlainAnswer, empty as no_answer}
use Rattle.call_rules.specs.Handling.{ServiceState, handler_rules}
use Rattle.machine_model.specs.HallState.{HallState, IsNewlyOpened}
use Rattle.machine_model.specs.HallRule.{HallOperation, take_job, apply, put, close, HallAnswer, done, job, HallGives}
use Rattle.machine_model.specs.OwnCalls.{HallCall, HallAsk, longest_payload, any_of, applies_key, HallMay}
use Rattle.machine_model.specs.Merge.{GoesOnAfter, StopsAfter}
use Rattle.machine_model.proofs.Keys.{is_same_self}
use Rattle.machine_model.proofs.Singling.{may_apply}
use Rattle.seat_booth.specs.Seats.{BoothView, MakesCall}
use Rattle.hall_core.specs.declared.operation.HallReply.{HallReply}
use Rattle.hall_core.specs.declared.operation.HallReply.TheVariants as reply
use Rattle.hall_core.specs.Asked.{answer_of}
use Rattle.hub_model.specs.HubState.{HubState, loop_of_conn, own_key}
use Rattle.hub_model.specs.HubRule.{take_one, apply_one, HubAsk}
use Rattle.hub_model.specs.HubMay.{hub_held_after, hub_holds_from, applies_this, any_ask}
use Rattle.hub_model.specs.Seen.{replays, seen_part, own_entries, seen_seat, asks_with, seen_asks, seen_calls}
use Rattle.hub_model.proofs.Opening.{opens}
use Rattle.hub_model.proofs.AsksSeen.{seen_append, by_seat, applies_seen, asks_seen, submits_own}
use Rattle.hub_model.proofs.Allowing.{all_places, all_allowed}
use Rattle.hub_model.proofs.Seeing.{sees}
use Rattle.job_halls.specs.declared.job_hall.TakenJob.{TakenJob}
use Rattle.job_halls.specs.Working.{WorkerAsk, AddsWorkerAsk, TakesJob, AppliesCall, HoldsItsJob, HoldsFound}
use Rattle.job_halls.specs.Shortness.{taken_short}
use Rattle.job_halls.specs.HallWork.{taken_reply, tried_reply}
use Rattle.hub_core.specs.declared.operation.HubOp.{HubOp}
use Rattle.hub_core.specs.declared.operation.HubOp.TheVariants as operation
use Rattle.hub_core.specs.Hub.{ServedHub, hub_filled, hub_operation_of}
use Rattle.hub_core.specs.Following.{HubStepCall, hub_ask, ObjectGives, ObjectMay}
use Rattle.hub_core.specs.HubCalls.{HubSeat, IsNewlyOpen, hall_operation, hub_calls_before, hub_call_made, HubSoFar, hub_so_far, hub_may_answer, hub_one_more}

-- an ask of the hub as one of a hall, with the answer
abbrev pub as_worker_ask : HubAsk PlainCall PlainAnswer → WorkerAsk
as_worker_ask e = (hall_operation e.op, e.reply)

-- what a seat asked in its calls, with the answers, under whole keys
abbrev pub hub_asked_in : List HubStepCall → List WorkerAsk
hub_asked_in own = map as_worker_ask (map hub_ask own)

-- how many services a hub has
abbrev pub hub_slots : ServedHub → ℕ
hub_slots hub = length hub.hall.memories

pub may_take_hub : (first : ServedHub) (seat : ℕ) (own : List HubStepCall) → IsNewlyOpen first → ObjectMay first seat own operation.Take
may_take_hub first seat own o = (o.told, o.some, (o.opened, tt), tt)

pub may_close_hub : (first : ServedHub) (seat : ℕ) (own : List HubStepCall) → IsNewlyOpen first → ObjectMay first seat own operation.Close
may_close_hub first seat own o = (o.told, o.some, (o.opened, tt), tt)

-- whether a key is held, after one more ask
hub_push : {C A : Type 0} (key : Key) (b : Bool) (own : List (HubAsk C A)) (e : HubAsk C A) → hub_holds_from key b (own ++ e ∷ []) ≡ hub_held_after key (hub_holds_from key b own) e.op e.reply
hub_push key b [] e = refl
hub_push key b (x ∷ own) e = hub_push key (hub_held_after key b x.op x.reply) own e

module _ (booth : BoothView ServedHub) (old new : HubSeat) where
  abbrev Calls : HubOp → HallReply → Type 0
  Calls op found = MakesCall ObjectGives ObjectMay booth old op found new

  adds : (op : HubOp) (found : HallReply) → Calls op found → AddsWorkerAsk (hub_asked_in old.mine) (hub_asked_in new.mine) (hall_operation (hub_operation_of op)) (answer_of found)
  adds op found m =
      ap (map as_worker_ask) (hub_one_more booth old new op found m)
      ∙ map-append as_worker_ask (map hub_ask old.mine) (hub_ask (hub_call_made booth old new op found m) ∷ [])

  -- a job that was taken is held, by what the loop of its connection sees of all calls
  module _ (opened : IsNewlyOpen booth.opening) (key : Key) (payload : List ℕ) (m : Calls operation.Take (reply.Job key payload)) where
    abbrev n : ℕ
    n = length booth.opening.lists

    abbrev l : ℕ
    l = loop_of_conn n key.c

    abbrev hub : HubState PlainCall PlainAnswer ServiceState
    hub = hub_filled booth.opening []

    made : HubSoFar booth old new operation.Take (reply.Job key payload) m n
    made = hub_so_far booth old new operation.Take (reply.Job key payload) m n refl opened.told

    abbrev before : List (HubAsk PlainCall PlainAnswer)
    before = map hub_ask (hub_calls_before booth old new operation.Take (reply.Job key payload) m)

    -- the asks of a hall that the loop sees
    abbrev seen_before : List (HallAsk PlainCall PlainAnswer)
    seen_before = seen_asks n l before

    record IsSeen : Type 0 where
      start : HallState PlainCall PlainAnswer (List PlainAnswer)
      log : List (HallCall PlainCall PlainAnswer (List PlainAnswer))
      newly : IsNewlyOpened start
      services : 0 < length start.memories
      history : IsHistory (HallGives (replays no_answer)) start log
      allowed : AllAllowed (HallMay (replays no_answer)) start (asks_of log)
      last : asks_of log ≡ seen_before ++ seat_ask (seen_seat l old.number) take_job (job (own_key n key) payload) ∷ []
      mine : calls_by (seen_seat l old.number) (asks_of log) ≡ seen_asks n l (map hub_ask new.mine)

    shown : {X : Type 0} (x : X) → (if l == l then x ∷ [] else []) ≡ x ∷ []
    shown x = ap (λ (b : Bool). if b then x ∷ [] else []) (eq-eqb l l refl)

    is_seen : IsSeen
    is_seen =
        let final : List (JournalEntry PlainCall PlainAnswer) = own_entries n l (meaning_after hub made.full).journal in
        let asks : asks_of (seen_calls n l final made.full) ≡ seen_asks n l (asks_of made.full) = asks_seen n l final made.full in
        record {
          start = seen_part n l final hub;
          log = seen_calls n l final made.full;
          newly = opens n l final hub opened.opened;
          services = zero-lt-suc zero;
          history = sees no_answer handler_rules n l final hub made.full made.history
              (submits_own n l final made.full (all_places n l final no_answer handler_rules hub (asks_of made.full) made.allowed)) refl;
          allowed = subst (AllAllowed (HallMay (replays no_answer)) (seen_part n l final hub)) (sym asks)
              (all_allowed n l final no_answer handler_rules hub (asks_of made.full) made.allowed);
          last = asks
              ∙ (ap (seen_asks n l) made.last
              ∙ (seen_append n l before (hub_ask (hub_call_made booth old new operation.Take (reply.Job key payload) m) ∷ [])
              ∙ ap (λ (s : List (HallOperation PlainCall × HallAnswer PlainAnswer)). seen_before ++ (asks_with (seen_seat l old.number) s ++ [])) (shown (take_job, job (own_key n key) payload))));
          mine = ap (calls_by (seen_seat l old.number)) asks ∙ (by_seat n l old.number (asks_of made.full) ∙ ap (seen_asks n l) made.mine);
        }

    untried : (call : PlainCall) → any_ask (applies_this key) (map hub_ask new.mine) ≡ false
    untried call =
        let s : IsSeen = is_seen in
        let may : HallMay (replays no_answer) s.start (seen_seat l old.number) (calls_by (seen_seat l old.number) (asks_of s.log)) (apply (own_key n key) call) =
        may_apply (replays no_answer) s.start s.log seen_before (seen_seat l old.number) (own_key n key) payload call s.history s.allowed s.last s.services in
        sym (applies_seen n l key refl (map hub_ask new.mine)) ∙ (ap (any_of (applies_key (own_key n key))) (sym s.mine) ∙ may.1.1)

    key_held : hub_holds_from key false (map hub_ask new.mine) ≡ true
    key_held =
        ap (hub_holds_from key false) (hub_one_more booth old new operation.Take (reply.Job key payload) m)
        ∙ (hub_push key false (map hub_ask old.mine) (seat_ask old.number take_one (job key payload))
        ∙ ap (λ (b : Bool). if b then true else hub_holds_from key false (map hub_ask old.mine)) (is_same_self key))

    short : length payload ≤ longest_payload
    short =
        let s : IsSeen = is_seen in
        taken_short (replays no_answer) s.start s.log seen_before (seen_seat l old.number) (own_key n key) payload s.newly s.history s.allowed s.last

    holds_hub : HoldsItsJob (ObjectMay booth.opening old.number new.mine) operation.Apply operation.Put (hub_slots booth.opening) key payload
    holds_hub =
        record {
          short = short;
          may_apply = λ call slot plain. (opened.told, opened.some, (opened.opened, (key_held, untried call, slot)), plain);
          may_put = λ settled. (opened.told, opened.some, (opened.opened, key_held), tt);
        }

  -- what has come of Take
  abbrev TakesThere : TakenJob → Type 0
  TakesThere taken =
      TakesJob (hub_asked_in old.mine) (hub_asked_in new.mine) taken
      × HoldsFound (ObjectMay booth.opening old.number new.mine) operation.Apply operation.Put (hub_slots booth.opening) taken

  pub takes_hub : (found : HallReply) → IsNewlyOpen booth.opening → Calls operation.Take found → TakesThere (taken_reply found)
  takes_hub (reply.Job key payload) opened m = (adds operation.Take (reply.Job key payload) m, holds_hub opened key payload m)
  takes_hub reply.Empty opened m = (adds operation.Take reply.Empty m, tt)
  takes_hub reply.Closed opened m = (adds operation.Take reply.Closed m, tt)
  takes_hub reply.Done opened m = absurd (hub_may_answer booth old new operation.Take reply.Done m)
  takes_hub (reply.Applied answer) opened m = absurd (hub_may_answer booth old new operation.Take (reply.Applied answer) m)
  takes_hub reply.NoMemory opened m = absurd (hub_may_answer booth old new operation.Take reply.NoMemory m)
  takes_hub reply.JournalFault opened m = absurd (hub_may_answer booth old new operation.Take reply.JournalFault m)
  takes_hub reply.Broken opened m = absurd (hub_may_answer booth old new operation.Take reply.Broken m)
  takes_hub (reply.Settled key settled) opened m = absurd (hub_may_answer booth old new operation.Take (reply.Settled key settled) m)

  module _ (key : Key) (call : PlainCall) where
    -- an answer that Apply doesn't have
    refused : (found : HallReply) → Calls (operation.Apply key call) found → (GoesOnAfter (answer_of found) → ⊥) → (StopsAfter (answer_of found) → ⊥) → ⊥
    refused found m on stop = ⊎_elim on stop (hub_may_answer booth old new (operation.Apply key call) found m)

    pub applies_hub : (found : HallReply) → Calls (operation.Apply key call) found → AppliesCall (hub_asked_in old.mine) (hub_asked_in new.mine) key call (tried_reply found)
    applies_hub (reply.Applied answer) m = adds (operation.Apply key call) (reply.Applied answer) m
    applies_hub reply.NoMemory m = adds (operation.Apply key call) reply.NoMemory m
    applies_hub reply.JournalFault m = (answer_of reply.JournalFault, adds (operation.Apply key call) reply.JournalFault m, tt)
    applies_hub reply.Broken m = (answer_of reply.Broken, adds (operation.Apply key call) reply.Broken m, tt)
    applies_hub reply.Done m = absurd (refused reply.Done m (λ f. f) (λ f. f))
    applies_hub (reply.Job k payload) m = absurd (refused (reply.Job k payload) m (λ f. f) (λ f. f))
    applies_hub reply.Empty m = absurd (refused reply.Empty m (λ f. f) (λ f. f))
    applies_hub reply.Closed m = absurd (refused reply.Closed m (λ f. f) (λ f. f))
    applies_hub (reply.Settled k settled) m = absurd (refused (reply.Settled k settled) m (λ f. f) (λ f. f))

    -- what may be put before a call is applied may be put after it
    pub still_hub : (found : HallReply) (held : Key) (settled : Settled) → Calls (operation.Apply key call) found → ObjectMay booth.opening old.number old.mine (operation.Put held settled)
        → ObjectMay booth.opening old.number new.mine (operation.Put held settled)
    still_hub found held settled m may = (
      may.0,
      may.1,
      (
        may.2.0,
        ap (hub_holds_from held false) (hub_one_more booth old new (operation.Apply key call) found m)
            ∙ (hub_push held false (map hub_ask old.mine) (seat_ask old.number (apply_one key call) (answer_of found)) ∙ may.2.1),
      ),
      tt,
    )

  -- where the answer is known
  adds_so : (op : HubOp) (found : HallReply) (answer : HallAnswer PlainAnswer) → Calls op found → answer_of found ≡ answer
      → AddsWorkerAsk (hub_asked_in old.mine) (hub_asked_in new.mine) (hall_operation (hub_operation_of op)) answer
  adds_so op found answer m so = subst (AddsWorkerAsk (hub_asked_in old.mine) (hub_asked_in new.mine) (hall_operation (hub_operation_of op))) so (adds op found m)

  pub puts_hub : (key : Key) (settled : Settled) (found : HallReply) → Calls (operation.Put key settled) found → AddsWorkerAsk (hub_asked_in old.mine) (hub_asked_in new.mine) (put key settled) done
  puts_hub key settled found m = adds_so (operation.Put key settled) found done m (hub_may_answer booth old new (operation.Put key settled) found m)

  pub stops_hub : (found : HallReply) → Calls operation.Close found → AddsWorkerAsk (hub_asked_in old.mine) (hub_asked_in new.mine) close done
  stops_hub found m = adds_so operation.Close found done m (hub_may_answer booth old new operation.Close found m)
