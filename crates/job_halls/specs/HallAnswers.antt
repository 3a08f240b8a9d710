-- What a hall answers, by its rule, to each operation.
use Rattle.std.proofs.Common.{◌≡◌, ◌⊎◌, refl, inl, inr, Option, None, Some, List, []}
use Rattle.host_model.specs.Journal.{ServiceRules}
use Rattle.call_rules.specs.PlainCalls.{PlainCall, PlainAnswer}
use Rattle.call_rules.specs.Entries.{CallEntry}
use Rattle.call_rules.specs.Handling.{handler_rules}
use Rattle.machine_model.specs.HallState.{HallState}
use Rattle.machine_model.specs.HallRule.{HallOperation, submit, take_job, apply, put, collect, close, HallAnswer, done, job, empty, is_closed, applied, no_memory, journal_fault, is_broken, outcome, HallGives}
use Rattle.machine_model.specs.SeenHall.{MayHave, filled, SeenGives}
use Rattle.machine_model.specs.Merge.{GoesOnAfter, StopsAfter}
use Rattle.hall_core.specs.Meant.{ServedHall}

-- the answers that an operation may have
abbrev pub MayAnswer : {C A : Type 0} → HallOperation C → HallAnswer A → Type 0
MayAnswer (submit key payload) done = Unit {0}
MayAnswer (submit key payload) is_closed = Unit {0}
MayAnswer (submit key payload) _ = ⊥
MayAnswer take_job (job key payload) = Unit {0}
MayAnswer take_job empty = Unit {0}
MayAnswer take_job is_closed = Unit {0}
MayAnswer take_job _ = ⊥
MayAnswer (apply key call) answer = GoesOnAfter answer ⊎ StopsAfter answer
MayAnswer (put key settled) answer = answer ≡ done
MayAnswer collect (outcome key settled) = Unit {0}
MayAnswer collect empty = Unit {0}
MayAnswer collect is_closed = Unit {0}
MayAnswer collect _ = ⊥
MayAnswer close answer = answer ≡ done

module _ {C A M : Type 0} (r : ServiceRules C A M) (old new : HallState C A M) where
  pub answers : (op : HallOperation C) (answer : HallAnswer A) → HallGives r old op answer new → MayAnswer op answer
  answers (submit key payload) done g = tt
  answers (submit key payload) is_closed g = tt
  answers (submit key payload) _ g = absurd g
  answers take_job (job key payload) g = tt
  answers take_job empty g = tt
  answers take_job is_closed g = tt
  answers take_job _ g = absurd g
  answers (apply key call) (applied answer) g = inl tt
  answers (apply key call) no_memory g = inl tt
  answers (apply key call) journal_fault g = inr tt
  answers (apply key call) is_broken g = inr tt
  answers (apply key call) _ g = absurd g.2
  answers (put key settled) done g = refl
  answers (put key settled) _ g = absurd g
  answers collect (outcome key settled) g = tt
  answers collect empty g = tt
  answers collect is_closed g = tt
  answers collect _ g = absurd g
  answers close done g = refl
  answers close _ g = absurd g

-- there are entries that a journal may have
pub some_entries : {X : Type 0} (told : Option (List X)) → (entries : List X) × MayHave told entries
some_entries None = ([], tt)
some_entries (Some entries) = (entries, refl)

-- so answers a hall whose journal may tell nothing
pub answers_seen : (old new : ServedHall) (op : HallOperation PlainCall) (answer : HallAnswer PlainAnswer) → SeenGives handler_rules old op answer new → MayAnswer op answer
answers_seen old new op answer g =
    let es : (entries : List CallEntry) × MayHave old.told entries = some_entries old.told in
    let t : (later : List CallEntry) × MayHave new.told later × HallGives handler_rules (filled old es.0) op answer (filled new later) = g es.0 es.1 in
    answers handler_rules (filled old es.0) (filled new t.0) op answer t.2
