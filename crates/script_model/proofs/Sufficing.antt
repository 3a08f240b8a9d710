-- A rehearsal that comes to an end with some steps comes to the same with more.
use Rattle.std.proofs.Common.{◌≡◌, ℕ, zero, suc, ◌+◌, ◌≤◌, Bool, true, false, ◌==◌, if◌then◌else◌, Option, None, Some, List, [], ◌∷◌, refl, sym, ap, ◌∙◌, arith}
use Rattle.std.specs.Prelude.{option_and_then}
use Rattle.std.proofs.lemmas.Option.{none-some, same_Some}
use Rattle.host_model.specs.Journal.{ServiceRules}
use Rattle.host_model.specs.DeskRules.{DeskRules}
use Rattle.machine_model.specs.Machine.{Cell}
use Rattle.script_model.specs.ScriptLines.{PlanLine, opening, piece, input_end, input_fault, resting, turn_of_conn, turn_of_worker, turn_of_outcome, ScriptPlan, count_up}
use Rattle.script_model.specs.Playing.{MemoryAt, Play, conn_move, collect_move}
use Rattle.script_model.specs.Rehearsing.{goes_on_with, until_still, all_read, pass, drain, line_done, lines_done, before_all, rehearsal, IsRehearsalOf}

module _ {X : Type 0} where
  -- where the one has an answer, the other has the same
  abbrev Agrees : Option X → Option X → Type 0
  Agrees one other = (x : X) → one ≡ Some x → other ≡ Some x

  agrees_same : (o : Option X) → Agrees o o
  agrees_same o x e = e

  none_agrees : (o : Option X) → Agrees None o
  none_agrees o x e = absurd (none-some x e)

  and_agrees : (o o' : Option X) (f f' : X → Option X) → Agrees o o' → ((x : X) → Agrees (f x) (f' x)) → Agrees (option_and_then f o) (option_and_then f' o')
  and_agrees None o' f f' a each x e = absurd (none-some x e)
  and_agrees (Some y) o' f f' a each x e = ap (option_and_then f') (a y refl) ∙ each y x e

  goes_agrees : (x : X) (o : Option X) (again again' : X → Option X) → ((y : X) → Agrees (again y) (again' y)) → Agrees (goes_on_with x o again) (goes_on_with x o again')
  goes_agrees x None again again' each y e = e
  goes_agrees x (Some z) again again' each y e = each z y e

  either_agrees : (b : Bool) (x y y' : Option X) → Agrees y y' → Agrees (if b then x else y) (if b then x else y')
  either_agrees true x y y' a z e = e
  either_agrees false x y y' a z e = a z e

  still_agrees : (m n : ℕ) (move : X → Option X) (x : X) → m ≤ n → Agrees (until_still m move x) (until_still n move x)
  still_agrees zero zero move x l = agrees_same _
  still_agrees zero (suc n) move x l = goes_agrees x (move x) _ _ (λ y. none_agrees _)
  still_agrees (suc m) zero move x l = absurd (let f : ⊥ = omega arith in f)
  still_agrees (suc m) (suc n) move x l = goes_agrees x (move x) _ _ (λ y. still_agrees m n move y (omega arith))

module _ {C A M : Type 0} (d : DeskRules C A) (r : ServiceRules C A M) (memory : ℕ → MemoryAt) (budget workers : ℕ) (fuel more : ℕ) (less : fuel ≤ more) where
  read_agrees : (cs : List ℕ) (play : Play C A M) → Agrees (all_read d r memory fuel budget cs play) (all_read d r memory more budget cs play)
  read_agrees [] play = agrees_same _
  read_agrees (c ∷ cs) play = and_agrees _ _ _ _ (still_agrees fuel more (conn_move d r memory budget c) play less) (λ next. read_agrees cs next)

  pass_agrees : (play : Play C A M) → Agrees (pass d r memory fuel budget workers play) (pass d r memory more budget workers play)
  pass_agrees play =
      and_agrees _ _ _ _ (and_agrees _ _ _ _ (read_agrees (count_up 0 play.cell.loop.count) play) (λ next. agrees_same _)) (λ next. still_agrees fuel more (collect_move d r) next less)

  drain_agrees : (m n : ℕ) → m ≤ n → (play : Play C A M) → Agrees (drain d r memory m fuel budget workers play) (drain d r memory n more budget workers play)
  drain_agrees zero n l play = none_agrees _
  drain_agrees (suc m) zero l play = absurd (let f : ⊥ = omega arith in f)
  drain_agrees (suc m) (suc n) l play = and_agrees _ _ _ _ (pass_agrees play) (λ next. either_agrees (next.moves == play.moves) (Some play) _ _ (drain_agrees m n (omega arith) next))

  pub line_agrees : (play : Play C A M) (line : PlanLine) → Agrees (line_done d r memory fuel budget workers play line) (line_done d r memory more budget workers play line)
  line_agrees play opening = agrees_same _
  line_agrees play (piece c bytes) = agrees_same _
  line_agrees play (input_end c) = agrees_same _
  line_agrees play (input_fault c) = agrees_same _
  line_agrees play resting = drain_agrees fuel more less play
  line_agrees play (turn_of_conn c) = agrees_same _
  line_agrees play (turn_of_worker w) = agrees_same _
  line_agrees play turn_of_outcome = agrees_same _

  pub lines_agree : (lines : List PlanLine) (play : Play C A M) → Agrees (lines_done d r memory fuel budget workers lines play) (lines_done d r memory more budget workers lines play)
  lines_agree [] play = drain_agrees fuel more less play
  lines_agree (line ∷ lines) play = and_agrees _ _ _ _ (line_agrees play line) (λ next. lines_agree lines next)

module _ {C A M : Type 0} (d : DeskRules C A) (r : ServiceRules C A M) (memory : ℕ → MemoryAt) where
  pub more_suffice : (budget workers : ℕ) (script : ScriptPlan) (first : Cell C A M) (play : Play C A M) (fuel more : ℕ) → fuel ≤ more
      → rehearsal d r memory fuel budget workers script first ≡ Some play → rehearsal d r memory more budget workers script first ≡ Some play
  more_suffice budget workers script first play fuel more l e = lines_agree d r memory budget workers fuel more l script.lines (before_all first script) play e

  -- a script comes to one cell
  pub one_rehearsal : (budget workers : ℕ) (script : ScriptPlan) (wants others : ℕ) (first last other : Cell C A M) → IsRehearsalOf d r memory budget workers script wants first last
      → IsRehearsalOf d r memory budget workers script others first other → last ≡ other
  one_rehearsal budget workers script wants others first last other a b =
      let x : rehearsal d r memory (a.fuel + b.fuel) budget workers script first ≡ Some a.play = more_suffice budget workers script first a.play a.fuel (a.fuel + b.fuel) (omega arith) a.done in
      let y : rehearsal d r memory (a.fuel + b.fuel) budget workers script first ≡ Some b.play = more_suffice budget workers script first b.play b.fuel (a.fuel + b.fuel) (omega arith) b.done in
      a.same ∙ ap (λ (p : Play C A M). p.cell) (same_Some a.play b.play (sym x ∙ y)) ∙ sym b.same
