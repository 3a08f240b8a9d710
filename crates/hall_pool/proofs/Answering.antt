-- What a call at a booth round a hall answers, by the hall's rule.
use Rattle.std.proofs.Common.{◌≡◌, ◌⊎◌, Option, None, Some, List, [], ◌∷◌, ◌++◌, map, refl, ap, ◌∙◌, subst, inl, inr}
use Rattle.std.proofs.lemmas.List.{map-append}
use Rattle.streams.specs.declared.outcomes.Settled.{Settled}
use Rattle.host_model.specs.declared.key.Key.{Key}
use Rattle.host_model.specs.Journal.{ServiceRules}
use Rattle.call_history.specs.History.{seat_call, meaning_after, IsHistory}
use Rattle.call_history.specs.Calls.{seat_ask, AllAllowed}
use Rattle.call_history.specs.Laws.{IsHistory-at, IsHistory-front, AllAllowed-front}
use Rattle.call_rules.specs.PlainCalls.{PlainCall, PlainAnswer}
use Rattle.call_rules.specs.Entries.{CallEntry}
use Rattle.call_rules.specs.Handling.{handler_rules}
use Rattle.machine_model.specs.HallState.{HallState}
use Rattle.machine_model.specs.HallRule.{HallOperation, take_job, apply, put, close, HallAnswer, done, job, empty, is_closed, applied, no_memory, journal_fault, is_broken, HallGives}
use Rattle.machine_model.specs.SeenHall.{MayHave, filled, SeenGives}
use Rattle.machine_model.specs.Merge.{GoesOnAfter, StopsAfter, op_with_answer}
use Rattle.seat_booth.specs.Seats.{BoothView, MakesCall}
use Rattle.hall_core.specs.declared.operation.HallOp.{HallOp}
use Rattle.hall_core.specs.declared.operation.HallReply.{HallReply}
use Rattle.hall_core.specs.Meant.{ServedHall}
use Rattle.hall_core.specs.Asked.{operation_of, answer_of, StepCall, ask_seen, StepGives, StepMay}
use Rattle.hall_pool.specs.Turns.{asks_made, asked_in}
use Rattle.hall_pool.specs.Jobs.{HallSeat, AddsAsk}

-- what Take answers
abbrev pub IsTakeAnswer : {A : Type 0} → HallAnswer A → Type 0
IsTakeAnswer (job key payload) = Unit {0}
IsTakeAnswer empty = Unit {0}
IsTakeAnswer is_closed = Unit {0}
IsTakeAnswer _ = ⊥

module _ {C A M : Type 0} (r : ServiceRules C A M) (old new : HallState C A M) where
  take_answer : (answer : HallAnswer A) → HallGives r old take_job answer new → IsTakeAnswer answer
  take_answer (job key payload) g = tt
  take_answer empty g = tt
  take_answer is_closed g = tt
  take_answer _ g = absurd g

  apply_answer : (key : Key) (call : C) (answer : HallAnswer A) → HallGives r old (apply key call) answer new → GoesOnAfter answer ⊎ StopsAfter answer
  apply_answer key call (applied answer) g = inl tt
  apply_answer key call no_memory g = inl tt
  apply_answer key call journal_fault g = inr tt
  apply_answer key call is_broken g = inr tt
  apply_answer key call _ g = absurd g.2

  put_answer : (key : Key) (settled : Settled) (answer : HallAnswer A) → HallGives r old (put key settled) answer new → answer ≡ done
  put_answer key settled done g = refl
  put_answer key settled _ g = absurd g

  close_answer : (answer : HallAnswer A) → HallGives r old close answer new → answer ≡ done
  close_answer done g = refl
  close_answer _ g = absurd g

-- there are entries that a journal may have
pub some_entries : {X : Type 0} (told : Option (List X)) → (entries : List X) × MayHave told entries
some_entries None = ([], tt)
some_entries (Some entries) = (entries, refl)

-- a step, by the rule: from some entries to some others
pub record IsStep (old : ServedHall) (op : HallOperation PlainCall) (answer : HallAnswer PlainAnswer) (new : ServedHall) : Type 0 where
  pub before : List CallEntry
  pub later : List CallEntry
  pub gives : HallGives handler_rules (filled old before) op answer (filled new later)

pub is_step : (old new : ServedHall) (op : HallOperation PlainCall) (answer : HallAnswer PlainAnswer) → SeenGives handler_rules old op answer new → IsStep old op answer new
is_step old new op answer g =
    let es : (entries : List CallEntry) × MayHave old.told entries = some_entries old.told in
    let t : (later : List CallEntry) × MayHave new.told later × HallGives handler_rules (filled old es.0) op answer (filled new later) = g es.0 es.1 in
    record { before = es.0; later = t.0; gives = t.2 }

-- what a step of each operation answers
pub take_step : (old new : ServedHall) (answer : HallAnswer PlainAnswer) → IsStep old take_job answer new → IsTakeAnswer answer
take_step old new answer s = take_answer handler_rules (filled old s.before) (filled new s.later) answer s.gives

pub apply_step : (old new : ServedHall) (key : Key) (call : PlainCall) (answer : HallAnswer PlainAnswer) → IsStep old (apply key call) answer new → GoesOnAfter answer ⊎ StopsAfter answer
apply_step old new key call answer s = apply_answer handler_rules (filled old s.before) (filled new s.later) key call answer s.gives

pub put_step : (old new : ServedHall) (key : Key) (settled : Settled) (answer : HallAnswer PlainAnswer) → IsStep old (put key settled) answer new → answer ≡ done
put_step old new key settled answer s = put_answer handler_rules (filled old s.before) (filled new s.later) key settled answer s.gives

pub close_step : (old new : ServedHall) (answer : HallAnswer PlainAnswer) → IsStep old close answer new → answer ≡ done
close_step old new answer s = close_answer handler_rules (filled old s.before) (filled new s.later) answer s.gives

-- one ask more is one question with its answer more
pub asked_more : (old new : HallSeat) (op : HallOperation PlainCall) (answer : HallAnswer PlainAnswer) → AddsAsk old new op answer → asked_in new.mine ≡ asked_in old.mine ++ (op, answer) ∷ []
asked_more old new op answer is = ap (map op_with_answer) is ∙ map-append op_with_answer (asks_made old.mine) (seat_ask old.number op answer ∷ [])

module _ (booth : BoothView ServedHall) (old new : HallSeat) (op : HallOp) (reply : HallReply) (m : MakesCall StepGives StepMay booth old op reply new) where
  -- the call
  abbrev pub call_made : StepCall
  call_made = seat_call old.number op reply m.after

  -- the calls before it
  abbrev pub calls_before : List StepCall
  calls_before = old.seen ++ m.between

  pub history_before : IsHistory StepGives booth.opening calls_before
  history_before = IsHistory-front StepGives booth.opening calls_before (call_made ∷ []) (subst (IsHistory StepGives booth.opening) m.seen m.history)

  pub allowed_before : AllAllowed StepMay booth.opening calls_before
  allowed_before = AllAllowed-front StepMay booth.opening calls_before (call_made ∷ []) (subst (AllAllowed StepMay booth.opening) m.seen m.allowed)

  pub step_made : IsStep (meaning_after booth.opening calls_before) (operation_of op) (answer_of reply) m.after
  step_made =
      is_step (meaning_after booth.opening calls_before) m.after (operation_of op) (answer_of reply)
      (IsHistory-at StepGives booth.opening calls_before [] call_made (subst (IsHistory StepGives booth.opening) m.seen m.history))

  pub one_more : AddsAsk old new (operation_of op) (answer_of reply)
  one_more = ap asks_made m.mine ∙ map-append ask_seen old.mine (call_made ∷ [])

  -- where the answer is known
  pub one_so : (answer : HallAnswer PlainAnswer) → answer_of reply ≡ answer → AddsAsk old new (operation_of op) answer
  one_so answer is = subst (AddsAsk old new (operation_of op)) is one_more
