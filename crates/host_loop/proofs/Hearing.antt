-- A worker whose turn answers that the journal has failed was told so by the hall.
use Rattle.std.proofs.Common.{◌≡◌, true, List, [], ◌∷◌, ◌++◌, refl, sym, ap, ◌∙◌}
use Rattle.std.proofs.lemmas.Bool.{or_right}
use Rattle.call_rules.specs.PlainCalls.{PlainCall, PlainAnswer}
use Rattle.call_rules.specs.Desks.{DeskMeaning, desk_rules}
use Rattle.machine_model.specs.HallRule.{HallOperation, HallAnswer, is_closed, journal_fault, is_broken}
use Rattle.machine_model.specs.Merge.{worked, worked_by_call, found_none, stopped, asked, AreTurns}
use Rattle.machine_model.specs.Trouble.{tells_of_fault, any_fault_told}
use Rattle.hall_core.specs.Asked.{StepCall}
use Rattle.hall_pool.specs.declared.turn.Turn.TheVariants.{Journal}
use Rattle.hall_pool.specs.Turns.{PoolTurn, asks_made, asked_in, turn_told, AddsTurn}
use Rattle.host_loop.proofs.Unbroken.{any_told, same_told}

told_behind : (desk : DeskMeaning) (xs ys : List (HallOperation PlainCall × HallAnswer PlainAnswer)) → any_told (desk_rules desk) ys ≡ true → any_told (desk_rules desk) (xs ++ ys) ≡ true
told_behind desk [] ys h = h
told_behind desk (x ∷ xs) ys h = or_right (tells_of_fault x.1) (any_told (desk_rules desk) (xs ++ ys)) (told_behind desk xs ys h)

turn_hears : (desk : DeskMeaning) (made : PoolTurn) → AreTurns (desk_rules desk) (made ∷ []) → Journal ≡ turn_told made → any_told (desk_rules desk) (asked made) ≡ true
turn_hears desk (worked key payload settled) t h = absurd (let f : ⊥ = cc in f)
turn_hears desk (worked_by_call key payload call answer settled) t h = absurd (let f : ⊥ = cc in f)
turn_hears desk (found_none is_closed) t h = absurd (let f : ⊥ = cc in f)
turn_hears desk (found_none _) t h = absurd (let f : ⊥ = cc in f)
turn_hears desk (stopped key payload call journal_fault) t h = refl
turn_hears desk (stopped key payload call is_broken) t h = refl
turn_hears desk (stopped key payload call _) t h = absurd t.1

pub journal_told : (desk : DeskMeaning) (old new : List StepCall) → AddsTurn desk old new Journal → any_fault_told (asks_made new) ≡ true
journal_told desk old new t =
    sym (same_told (desk_rules desk) (asks_made new)) ∙ ap (any_told (desk_rules desk)) t.calls
    ∙ told_behind desk (asked_in old) (asked t.made) (turn_hears desk t.made t.right t.told)
