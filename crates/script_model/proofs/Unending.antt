-- On a closed hall a payload is submitted for ever.
use Rattle.std.proofs.Common.{◌≡◌, ℕ, zero, suc, ◌==◌, if◌then◌else◌, Option, None, Some, [], ◌∷◌, refl, ap}
use Rattle.std.specs.Prelude.{option_and_then}
use Rattle.host_model.specs.TinyDesk.{tiny_desk, counting}
use Rattle.script_model.specs.ScriptLines.{opening, piece, input_end, PlanLine, count_up}
use Rattle.script_model.specs.Playing.{always_ample, Play, conn_move, collect_move}
use Rattle.script_model.specs.Rehearsing.{left_by, until_still, all_read, all_work, drain, line_done, before_all, rehearsal}
use Rattle.script_model.specs.Rows.{tiny_script, frame_of_one, closed_at_first}

abbrev moves_on : Play ℕ ℕ ℕ → Option (Play ℕ ℕ ℕ)
moves_on play = conn_move tiny_desk counting always_ample 2 0 play

abbrev done_line : PlanLine → Play ℕ ℕ ℕ → Play ℕ ℕ ℕ
done_line line play = left_by play (line_done tiny_desk counting always_ample 0 2 1 play line)

-- the play once its lines are done, and once its frame is read
abbrev lined : Play ℕ ℕ ℕ
lined =
    done_line (input_end 0) (done_line (piece 0 (frame_of_one 1)) (done_line opening (before_all closed_at_first (tiny_script (opening ∷ piece 0 (frame_of_one 1) ∷ input_end 0 ∷ []) []))))

abbrev moved : Play ℕ ℕ ℕ → Play ℕ ℕ ℕ
moved play = left_by play (moves_on play)

abbrev stuck : ℕ → Play ℕ ℕ ℕ
stuck n = record (moved (moved (moved lined))) { moves = n }

for_ever : (n m : ℕ) → until_still n moves_on (stuck m) ≡ None
for_ever zero m = refl
for_ever (suc n) m = for_ever n (suc m)

unread : (n : ℕ) → until_still n moves_on lined ≡ None
unread zero = refl
unread (suc zero) = refl
unread (suc (suc zero)) = refl
unread (suc (suc (suc n))) = for_ever n 4

pub never_drained : (fuel : ℕ) → rehearsal tiny_desk counting always_ample fuel 2 1 (tiny_script (opening ∷ piece 0 (frame_of_one 1) ∷ input_end 0 ∷ []) []) closed_at_first ≡ None
never_drained zero = refl
never_drained (suc n) =
    ap (λ o. option_and_then (λ next. if next.moves == lined.moves then Some lined else drain tiny_desk counting always_ample n (suc n) 2 1 next)
    (option_and_then (λ next. until_still (suc n) (collect_move tiny_desk counting) next) (option_and_then (λ next. all_work tiny_desk counting always_ample (count_up 0 1) next)
    (option_and_then (λ next. all_read tiny_desk counting always_ample (suc n) 2 [] next) o)))) (unread (suc n))
