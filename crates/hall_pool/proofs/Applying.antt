-- What a worker knows once it has applied a call, put an outcome or closed the hall.
use Rattle.std.proofs.Common.{◌≡◌, ◌⊎◌, ℕ, true, false, Some, List, sym, ap, ◌∙◌, subst, inl, inr, ⊎_elim}
use Rattle.streams.specs.declared.outcomes.Settled.{Settled}
use Rattle.host_model.specs.declared.key.Key.{Key}
use Rattle.host_model.specs.DeskRules.{Invoke}
use Rattle.call_history.specs.Calls.{seat_ask}
use Rattle.call_rules.specs.declared.call.Answer.{Answer}
use Rattle.call_rules.specs.Answers.{plain_answer}
use Rattle.call_rules.specs.PlainCalls.{PlainCall}
use Rattle.call_rules.specs.Desks.{DeskMeaning, desk_rules}
use Rattle.machine_model.specs.HallRule.{apply, put, close, done, applied}
use Rattle.machine_model.specs.OwnCalls.{holds_key}
use Rattle.machine_model.specs.Worker.{has_answer, SettlesAs}
use Rattle.machine_model.specs.Merge.{StopsAfter, GoesOnAfter}
use Rattle.machine_model.proofs.Owning.{holds_push}
use Rattle.seat_booth.specs.Seats.{BoothView, MakesCall}
use Rattle.hall_core.specs.declared.operation.HallOp.TheVariants as operation
use Rattle.hall_core.specs.declared.operation.HallReply.{HallReply}
use Rattle.hall_core.specs.declared.operation.HallReply.TheVariants as reply
use Rattle.hall_core.specs.Meant.{ServedHall}
use Rattle.hall_core.specs.Asked.{answer_of, StepGives, StepMay}
use Rattle.hall_pool.specs.declared.asking.Tried.{Tried}
use Rattle.hall_pool.specs.declared.asking.Tried.TheVariants.{Answered}
use Rattle.hall_pool.specs.Turns.{asks_made}
use Rattle.hall_pool.specs.Jobs.{HallSeat, AddsAsk, HoldsJob, tried_by, TriesCall, SettlesJob}
use Rattle.hall_pool.proofs.Answering.{apply_step, put_step, close_step, step_made, one_more, one_so}

module _ (booth : BoothView ServedHall) (old new : HallSeat) (key : Key) (call : PlainCall) where
  -- a seat that has applied a call, and was answered so
  abbrev pub Applies : HallReply → Type 0
  Applies found = MakesCall StepGives StepMay booth old (operation.Apply key call) found new

  -- the answer is one that Apply may have
  may_answer : (found : HallReply) → Applies found → GoesOnAfter (answer_of found) ⊎ StopsAfter (answer_of found)
  may_answer found m = apply_step _ _ key call (answer_of found) (step_made booth old new (operation.Apply key call) found m)

  applies_by : (found : HallReply) → Applies found → TriesCall old new key call (tried_by found)
  applies_by (reply.Applied answer) m = one_more booth old new (operation.Apply key call) (reply.Applied answer) m
  applies_by reply.NoMemory m = one_more booth old new (operation.Apply key call) reply.NoMemory m
  applies_by reply.JournalFault m = (answer_of reply.JournalFault, one_more booth old new (operation.Apply key call) reply.JournalFault m, tt)
  applies_by reply.Broken m = (answer_of reply.Broken, one_more booth old new (operation.Apply key call) reply.Broken m, tt)
  applies_by reply.Done m = absurd (⊎_elim (λ f. f) (λ f. f) (may_answer reply.Done m))
  applies_by (reply.Job k payload) m = absurd (⊎_elim (λ f. f) (λ f. f) (may_answer (reply.Job k payload) m))
  applies_by reply.Empty m = absurd (⊎_elim (λ f. f) (λ f. f) (may_answer reply.Empty m))
  applies_by reply.Closed m = absurd (⊎_elim (λ f. f) (λ f. f) (may_answer reply.Closed m))
  applies_by (reply.Settled k settled) m = absurd (⊎_elim (λ f. f) (λ f. f) (may_answer (reply.Settled k settled) m))

  pub applies : (found : HallReply) (result : Tried) → Applies found → result ≡ tried_by found → TriesCall old new key call result
  applies found result m is = subst (TriesCall old new key call) (sym is) (applies_by found m)

module _ (booth : BoothView ServedHall) (old new : HallSeat) where
  pub puts : (key : Key) (settled : Settled) (found : HallReply) → MakesCall StepGives StepMay booth old (operation.Put key settled) found new → AddsAsk old new (put key settled) done
  puts key settled found m =
      one_so booth old new (operation.Put key settled) found m done (put_step _ _ key settled (answer_of found) (step_made booth old new (operation.Put key settled) found m))

  pub closes : (found : HallReply) → MakesCall StepGives StepMay booth old operation.Close found new → AddsAsk old new close done
  closes found m = one_so booth old new operation.Close found m done (close_step _ _ (answer_of found) (step_made booth old new operation.Close found m))

-- a job's call was applied and answered, and what it comes to is by that answer
pub settled_by_call : (desk : DeskMeaning) (old new : HallSeat) (key : Key) (payload : List ℕ) (call : PlainCall) (answer : Answer) (tried : Tried) (settled : Settled)
    → TriesCall old new key call tried → tried ≡ Answered answer → desk.decide payload ≡ Invoke call → SettlesAs (desk_rules desk) (has_answer key payload (plain_answer answer)) key settled
    → SettlesJob desk old new key payload (Some settled)
settled_by_call desk old new key payload call answer tried settled tries is decided settles =
    inr (call, applied (plain_answer answer), subst (TriesCall old new key call) is tries, decided, tt, settles)

-- what a job comes to leaves its key held
pub still_held : (desk : DeskMeaning) (booth : BoothView ServedHall) (old new : HallSeat) (key : Key) (payload : List ℕ) (settled : Settled) → HoldsJob booth old key payload
    → SettlesJob desk old new key payload (Some settled) → holds_key key (asks_made new.mine) ≡ true
still_held desk booth old new key payload settled job (inl t) = ap (λ (s : HallSeat). holds_key key (asks_made s.mine)) t.0 ∙ job.held
still_held desk booth old new key payload settled job (inr t) =
    let more : AddsAsk old new (apply key t.0) t.1 = t.2 in
    ap (holds_key key) more ∙ (holds_push key false (asks_made old.mine) (seat_ask old.number (apply key t.0) t.1) ∙ job.held)
