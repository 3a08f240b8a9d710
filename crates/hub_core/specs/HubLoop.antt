-- A hub as one of its loops asks it: what is seen of its calls at a booth is what a loop asks of a hall of its own.
use Rattle.std.proofs.Common.{◌≡◌, ℕ, ◌+◌, ◌*◌, ◌<◌, ◌^◌, Bool, ◌==◌, if◌then◌else◌, List, [], ◌∷◌, ◌++◌, map, length, refl, sym, ap, ◌∙◌, subst, eq-eqb}
use Rattle.std.proofs.lemmas.Nat.{div-mul-add}
use Rattle.host_model.specs.declared.key.Key.{Key}
use Rattle.call_history.specs.Calls.{seat_ask, calls_by, asks_of}
use Rattle.call_rules.specs.PlainCalls.{PlainCall, PlainAnswer, empty as no_answer}
use Rattle.call_rules.specs.Handling.{handler_rules}
use Rattle.machine_model.specs.HallState.{key_of}
use Rattle.machine_model.specs.HallRule.{HallOperation, submit, collect, close, HallAnswer, done}
use Rattle.machine_model.specs.OwnLoop.{CollectsItsOwn}
use Rattle.seat_booth.specs.Seats.{BoothView, MakesCall}
use Rattle.hall_core.specs.declared.operation.HallReply.{HallReply}
use Rattle.hall_core.specs.declared.operation.HallReply.TheVariants as reply
use Rattle.hall_core.specs.Asked.{answer_of}
use Rattle.hub_model.specs.HubState.{own_key, whole_key}
use Rattle.hub_model.specs.HubRule.{submit_from, HubAsk}
use Rattle.hub_model.specs.HubMay.{SubmitOwn, HubMay, share}
use Rattle.hub_model.specs.Seen.{own_answer, seen_ask, seen_seat, asks_with, seen_asks}
use Rattle.hub_model.specs.Talk.{IsOfLoop, AsksAsLoop}
use Rattle.hub_model.proofs.AsksSeen.{zero_at, seen_append}
use Rattle.hub_model.proofs.Counting.{loop_may_submit, loop_told}
use Rattle.job_halls.specs.declared.job_hall.Side.{Side}
use Rattle.job_halls.specs.declared.job_hall.TakenOutcome.{TakenOutcome}
use Rattle.job_halls.specs.declared.job_hall.TakenOutcome.TheVariants.{Outcome, Empty, Closed}
use Rattle.job_halls.specs.HallLoop.{took_reply}
use Rattle.job_halls.specs.Asking.{LoopAsk, MaySubmit, GoesOnBy, HandsInJob, GainsOutcome, ClosesIt}
use Rattle.hub_core.specs.declared.operation.HubOp.{HubOp}
use Rattle.hub_core.specs.declared.operation.HubOp.TheVariants.{SubmitFrom, CollectFor, Close}
use Rattle.hub_core.specs.Hub.{ServedHub, hub_filled, hub_operation_of}
use Rattle.hub_core.specs.Following.{HubStepCall, hub_ask, ObjectGives, ObjectMay}
use Rattle.hub_core.specs.HubCalls.{HubSeat, IsNewlyOpen, hub_call_made, HubSoFar, hub_so_far, hub_may_answer, hub_one_more}

-- a newly opened hub of so many loops, of which this is one
pub record IsOpenedHubAt (side : Side) (first : ServedHub) : Type 0 where
  pub hub : IsNewlyOpen first
  pub loops : length first.lists ≡ side.loops
  pub one : side.number < side.loops

-- how many keys a loop may have
abbrev pub share_of : Side → ℕ
share_of side = share side.loops

-- what a loop's seat has asked, as a hall of its own sees it
abbrev pub loop_asks : Side → List HubStepCall → List LoopAsk
loop_asks side own = seen_asks side.loops side.number (map hub_ask own)

-- these calls are those of a loop: it submits jobs of its own connections, from its own number, collects for it, and may close the hub
pub record FitsLoop (side : Side) (own : List HubStepCall) : Type 0 where
  pub submits : SubmitOwn side.loops (map hub_ask own)
  pub asks : AsksAsLoop side.number (map hub_ask own)

-- the whole number of a key's connection is one of 32 bits
abbrev pub NamesKey : Side → Key → Type 0
NamesKey side key = key.c * side.loops + side.number < 2 ^ 32

abbrev pub hub_submit : Side → Key → List ℕ → HubOp
hub_submit side key payload = SubmitFrom side.number (whole_key side.loops side.number key) payload

-- what a reply to CollectFor means, under the key that the loop's links know
abbrev pub hub_come : Side → HallReply → TakenOutcome
hub_come side (reply.Settled key settled) = Outcome (own_key side.loops key) settled
hub_come side reply.Closed = Closed
hub_come side _ = Empty

pub may_submit_hub : (side : Side) (first : ServedHub) (own : List HubStepCall) (key : Key) (payload : List ℕ) → IsOpenedHubAt side first → FitsLoop side own
    → MaySubmit (share_of side) (loop_asks side own) key payload → ObjectMay first side.number own (hub_submit side key payload)
may_submit_hub side first own key payload o fits may = (
  o.hub.told,
  o.hub.some,
  subst (λ (n : ℕ). HubMay n handler_rules (hub_filled first []) side.number (map hub_ask own) (submit_from side.number (whole_key side.loops side.number key) payload)) (sym o.loops)
      (loop_may_submit side.loops side.number handler_rules (hub_filled first []) (map hub_ask own) key payload o.one o.hub.opened fits.submits may.0 may.1 may.2),
  tt,
)

pub may_collect_hub : (side : Side) (first : ServedHub) (own : List HubStepCall) → IsOpenedHubAt side first → ObjectMay first side.number own (CollectFor side.number)
may_collect_hub side first own o = (o.hub.told, o.hub.some, (o.hub.opened, subst (λ (n : ℕ). side.number < n) (sym o.loops) o.one), tt)

-- one ask of the loop's more
asks_push : {C A : Type 0} (l : ℕ) (own : List (HubAsk C A)) (e : HubAsk C A) → AsksAsLoop l own → IsOfLoop l e.op → AsksAsLoop l (own ++ e ∷ [])
asks_push l [] e a is = (is, tt)
asks_push l (x ∷ own) e a is = (a.0, asks_push l own e a.1 is)

module _ (side : Side) (booth : BoothView ServedHub) (old new : HubSeat) (op : HubOp) (found : HallReply) (opened : IsOpenedHubAt side booth.opening) (is : old.number ≡ side.number)
    (m : MakesCall ObjectGives ObjectMay booth old op found new) where
  -- what its calls were, and the last one
  seen_more : loop_asks side new.mine
      ≡ loop_asks side old.mine ++ (asks_with (seen_seat side.number old.number) (seen_ask side.loops side.number (hub_operation_of op) (answer_of found)) ++ [])
  seen_more =
      ap (seen_asks side.loops side.number) (hub_one_more booth old new op found m)
      ∙ seen_append side.loops side.number (map hub_ask old.mine) (hub_ask (hub_call_made booth old new op found m) ∷ [])

  -- where one ask is seen of it
  one_seen : (hall_op : HallOperation PlainCall) (answer : HallAnswer PlainAnswer) → seen_ask side.loops side.number (hub_operation_of op) (answer_of found) ≡ (hall_op, answer) ∷ []
      → GoesOnBy (loop_asks side old.mine) (loop_asks side new.mine) hall_op answer
  one_seen hall_op answer seen =
      seen_more
      ∙ (ap (λ (s : List (HallOperation PlainCall × HallAnswer PlainAnswer)). loop_asks side old.mine ++ (asks_with (seen_seat side.number old.number) s ++ [])) seen
      ∙ ap (λ (s : ℕ). loop_asks side old.mine ++ seat_ask s hall_op answer ∷ []) (zero_at side.number old.number is))

  told : CollectsItsOwn (loop_asks side new.mine) × SubmitOwn side.loops (map hub_ask new.mine)
  told =
      let made : HubSoFar booth old new op found m side.loops = hub_so_far booth old new op found m side.loops opened.loops opened.hub.told in
      subst (λ (own : List (HubAsk PlainCall PlainAnswer)). CollectsItsOwn (seen_asks side.loops side.number own) × SubmitOwn side.loops own)
      (ap (λ (s : ℕ). calls_by s (asks_of made.full)) (sym is) ∙ made.mine)
      (loop_told side.loops side.number no_answer handler_rules (hub_filled booth.opening []) made.full opened.hub.opened made.history made.allowed)

  pub its_own_hub : CollectsItsOwn (loop_asks side new.mine)
  its_own_hub = told.0

  fits_more : FitsLoop side old.mine → IsOfLoop side.number (hub_operation_of op) → FitsLoop side new.mine
  fits_more fits of_loop =
      record {
        submits = told.1;
        asks = subst (AsksAsLoop side.number) (sym (hub_one_more booth old new op found m))
            (asks_push side.number (map hub_ask old.mine) (hub_ask (hub_call_made booth old new op found m)) fits.asks of_loop);
      }

module _ (side : Side) (booth : BoothView ServedHub) (old new : HubSeat) (opened : IsOpenedHubAt side booth.opening) (is : old.number ≡ side.number) where
  abbrev Calls : HubOp → HallReply → Type 0
  Calls op found = MakesCall ObjectGives ObjectMay booth old op found new

  -- what is seen of its own
  shown : {X : Type 0} (x : X) → (if side.number == side.number then x ∷ [] else []) ≡ x ∷ []
  shown x = ap (λ (b : Bool). if b then x ∷ [] else []) (eq-eqb side.number side.number refl)

  same_key : (key : Key) → own_key side.loops (whole_key side.loops side.number key) ≡ key
  same_key key = λ i. key_of (div-mul-add key.c side.loops side.number opened.one i) key.i

  submitted : (key : Key) (payload : List ℕ) (found : HallReply) → Calls (hub_submit side key payload) found
      → GoesOnBy (loop_asks side old.mine) (loop_asks side new.mine) (submit key payload) (answer_of found)
  submitted key payload found m =
      one_seen side booth old new (hub_submit side key payload) found opened is m (submit key payload) (answer_of found)
      (shown (submit (own_key side.loops (whole_key side.loops side.number key)) payload, answer_of found)
      ∙ ap (λ (k : Key). (submit k payload, answer_of found) ∷ []) (same_key key))

  collected : (found : HallReply) → Calls (CollectFor side.number) found
      → GoesOnBy (loop_asks side old.mine) (loop_asks side new.mine) collect (own_answer side.loops (answer_of found))
  collected found m =
      one_seen side booth old new (CollectFor side.number) found opened is m collect (own_answer side.loops (answer_of found)) (shown (collect, own_answer side.loops (answer_of found)))

  submits_by : (key : Key) (payload : List ℕ) (found : HallReply) → Calls (hub_submit side key payload) found
      → HandsInJob (loop_asks side old.mine) (loop_asks side new.mine) key payload (took_reply found)
  submits_by key payload reply.Done m = submitted key payload reply.Done m
  submits_by key payload reply.Closed m = submitted key payload reply.Closed m
  submits_by key payload reply.Empty m = absurd (hub_may_answer booth old new (hub_submit side key payload) reply.Empty m)
  submits_by key payload (reply.Job k p) m = absurd (hub_may_answer booth old new (hub_submit side key payload) (reply.Job k p) m)
  submits_by key payload (reply.Applied answer) m = absurd (hub_may_answer booth old new (hub_submit side key payload) (reply.Applied answer) m)
  submits_by key payload reply.NoMemory m = absurd (hub_may_answer booth old new (hub_submit side key payload) reply.NoMemory m)
  submits_by key payload reply.JournalFault m = absurd (hub_may_answer booth old new (hub_submit side key payload) reply.JournalFault m)
  submits_by key payload reply.Broken m = absurd (hub_may_answer booth old new (hub_submit side key payload) reply.Broken m)
  submits_by key payload (reply.Settled k settled) m = absurd (hub_may_answer booth old new (hub_submit side key payload) (reply.Settled k settled) m)

  collects_by : (found : HallReply) → Calls (CollectFor side.number) found → GainsOutcome (loop_asks side old.mine) (loop_asks side new.mine) (hub_come side found)
  collects_by (reply.Settled key settled) m = collected (reply.Settled key settled) m
  collects_by reply.Empty m = collected reply.Empty m
  collects_by reply.Closed m = collected reply.Closed m
  collects_by reply.Done m = absurd (hub_may_answer booth old new (CollectFor side.number) reply.Done m)
  collects_by (reply.Job key payload) m = absurd (hub_may_answer booth old new (CollectFor side.number) (reply.Job key payload) m)
  collects_by (reply.Applied answer) m = absurd (hub_may_answer booth old new (CollectFor side.number) (reply.Applied answer) m)
  collects_by reply.NoMemory m = absurd (hub_may_answer booth old new (CollectFor side.number) reply.NoMemory m)
  collects_by reply.JournalFault m = absurd (hub_may_answer booth old new (CollectFor side.number) reply.JournalFault m)
  collects_by reply.Broken m = absurd (hub_may_answer booth old new (CollectFor side.number) reply.Broken m)

  pub submits_at_hub : (key : Key) (payload : List ℕ) (found : HallReply) → FitsLoop side old.mine → Calls (hub_submit side key payload) found
      → HandsInJob (loop_asks side old.mine) (loop_asks side new.mine) key payload (took_reply found) × FitsLoop side new.mine
  submits_at_hub key payload found fits m = (submits_by key payload found m, fits_more side booth old new (hub_submit side key payload) found opened is m fits refl)

  pub collects_at_hub : (found : HallReply) → FitsLoop side old.mine → Calls (CollectFor side.number) found
      → GainsOutcome (loop_asks side old.mine) (loop_asks side new.mine) (hub_come side found) × FitsLoop side new.mine
  collects_at_hub found fits m = (collects_by found m, fits_more side booth old new (CollectFor side.number) found opened is m fits refl)

  pub closes_at_hub : (found : HallReply) → FitsLoop side old.mine → Calls Close found → ClosesIt (loop_asks side old.mine) (loop_asks side new.mine) × FitsLoop side new.mine
  closes_at_hub found fits m = (
    one_seen side booth old new Close found opened is m close done (ap (λ (a : HallAnswer PlainAnswer). (close, a) ∷ []) (hub_may_answer booth old new Close found m)),
    fits_more side booth old new Close found opened is m fits tt,
  )
