-- A hall in memory that was told of a failed journal, by any seat, is broken from then on.
use Rattle.std.proofs.Common.{◌≡◌, ◌⊎◌, true, Option, None, Some, List, [], ◌∷◌, refl, sym, ap, ◌∙◌, inl, inr, ⊎_elim}
use Rattle.std.proofs.lemmas.Bool.{false≢true, or_cases}
use Rattle.call_history.specs.History.{meaning_after, IsHistory}
use Rattle.call_history.specs.Calls.{calls_by}
use Rattle.call_rules.specs.Handling.{handler_rules}
use Rattle.machine_model.specs.HallRule.{HallGives}
use Rattle.machine_model.specs.SeenHall.{MayHave, filled}
use Rattle.machine_model.specs.Trouble.{tells_of_fault, any_fault_told}
use Rattle.seat_booth.specs.Seats.{BoothView, SeatAgrees, EndsBooth}
use Rattle.hall_core.specs.declared.operation.HallOp.{HallOp}
use Rattle.hall_core.specs.declared.operation.HallReply.{HallReply}
use Rattle.hall_core.specs.Asked.{operation_of, answer_of, StepCall, StepGives, StepMay}
use Rattle.hall_core.specs.Meant.{ServedHall}
use Rattle.hall_core.specs.Following.{asks_by}
use Rattle.hall_pool.specs.Turns.{asks_made}
use Rattle.hall_pool.specs.Jobs.{HallSeat}
use Rattle.machine_model.proofs.Troubles.{Troubles, troubles, fault_by}

-- entries that a journal may have
some_entries : {X : Type 0} (o : Option (List X)) → (entries : List X) × MayHave o entries
some_entries None = ([], tt)
some_entries (Some told) = (told, refl)

-- what a step of a hall in memory does to what tells of trouble
record Breaks (old : ServedHall) (reply : HallReply) (new : ServedHall) : Type 0 where
  stays : old.broken ≡ true → new.broken ≡ true
  tells : tells_of_fault (answer_of reply) ≡ true → new.broken ≡ true

step_breaks : (old : ServedHall) (op : HallOp) (reply : HallReply) (new : ServedHall) → StepGives old op reply new → Breaks old reply new
step_breaks old op reply new g =
    let some : (entries : _) × MayHave old.told entries = some_entries old.told in
    let one : (later : _) × MayHave new.told later × HallGives handler_rules (filled old some.0) (operation_of op) (answer_of reply) (filled new later) = g some.0 some.1 in
    let t : Troubles handler_rules (filled old some.0) (operation_of op) (answer_of reply) (filled new one.0) = troubles handler_rules (filled old some.0) (filled new one.0) (operation_of op) (answer_of reply) one.2 in
    record { stays = t.stays; tells = t.tells }

told_breaks : (hall : ServedHall) (log : List StepCall) → IsHistory StepGives hall log → (hall.broken ≡ true) ⊎ (any_fault_told (asks_made log) ≡ true) → (meaning_after hall log).broken ≡ true
told_breaks hall [] history (inl h) = h
told_breaks hall [] history (inr h) = absurd (false≢true h)
told_breaks hall (e ∷ log) history (inl h) = told_breaks e.after log history.1 (inl ((step_breaks hall e.op e.reply e.after history.0).stays h))
told_breaks hall (e ∷ log) history (inr h) =
    told_breaks e.after log history.1
    (⊎_elim (λ f. inl ((step_breaks hall e.op e.reply e.after history.0).tells f)) (λ f. inr f) (or_cases (tells_of_fault (answer_of e.reply)) (any_fault_told (asks_made log)) h))

-- where a seat of a booth that ends was told so, its hall is broken
pub seat_breaks : (booth : BoothView ServedHall) (seats : List HallSeat) (hall : ServedHall) (ends : EndsBooth StepGives StepMay booth seats hall) (seat : HallSeat) → SeatAgrees ends.log seat
    → any_fault_told (asks_made seat.mine) ≡ true → hall.broken ≡ true
seat_breaks booth seats hall ends seat agrees told =
    let own : any_fault_told (calls_by seat.number (asks_made ends.log)) ≡ true =
    ap any_fault_told (asks_by seat.number ends.log) ∙ ap (λ (l : List StepCall). any_fault_told (asks_made l)) agrees.own ∙ told in
    ap (λ (h : ServedHall). h.broken) (sym ends.last) ∙ told_breaks booth.opening ends.log ends.history (inr (fault_by seat.number (asks_made ends.log) own))
