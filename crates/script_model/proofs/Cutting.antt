-- The lines before a line of rest are a script of their own, and the rehearsal of that is the front of the whole one.
use Rattle.std.proofs.Common.{◌≡◌, ℕ, ◌≤◌, Option, None, Some, List, [], ◌∷◌, ◌++◌, refl, sym, ap, ◌∙◌, arith, append_assoc}
use Rattle.std.specs.Prelude.{option_and_then}
use Rattle.std.proofs.lemmas.Option.{none-some}
use Rattle.host_model.specs.Journal.{ServiceRules}
use Rattle.host_model.specs.DeskRules.{DeskRules}
use Rattle.machine_model.specs.Machine.{Cell}
use Rattle.script_model.specs.ScriptLines.{PlanLine, resting, ScriptPlan, openings}
use Rattle.script_model.specs.Playing.{MemoryAt, Play}
use Rattle.script_model.specs.Rehearsing.{line_done, lines_done, before_all, rehearsal}
use Rattle.script_model.specs.Ending.{LetsAllMove}

-- the script with these lines in place of its own
abbrev pub with_lines : ScriptPlan → List PlanLine → ScriptPlan
with_lines script lines = record script { lines = lines }

-- a part of the lines opens no more than all
pub fewer_openings : (before behind : List PlanLine) → openings before ≤ openings (before ++ behind)
fewer_openings [] behind = omega arith
fewer_openings (line ∷ before) behind = let t : openings before ≤ openings (before ++ behind) = fewer_openings before behind in omega arith

-- what lets the whole script move lets its front do so
pub front_moves : (workers : ℕ) (script : ScriptPlan) (before behind : List PlanLine) → script.lines ≡ before ++ behind → LetsAllMove workers script → LetsAllMove workers (with_lines script before)
front_moves workers script before behind is lets =
    record {
      pieces = λ above below c bytes e. lets.pieces above (below ++ behind) c bytes (split above _ below e);
      writes = lets.writes;
      turns = λ above below w e. lets.turns above (below ++ behind) w (split above _ below e);
    }
  where
    split : (above : List PlanLine) (line : PlanLine) (below : List PlanLine) → before ≡ above ++ line ∷ below → script.lines ≡ above ++ line ∷ (below ++ behind)
    split above line below e = is ∙ ap (λ lines. lines ++ behind) e ∙ append_assoc above (line ∷ below) behind

-- what is done after something, where that comes to an end
done_after : {X : Type 0} (o : Option X) (f : X → Option X) (last : X) → option_and_then f o ≡ Some last → (mid : X) × (o ≡ Some mid) × (f mid ≡ Some last)
done_after None f last e = absurd (none-some last e)
done_after (Some mid) f last e = (mid, refl, e)

module _ {C A M : Type 0} (d : DeskRules C A) (r : ServiceRules C A M) (memory : ℕ → MemoryAt) where
  -- a line of rest drains the run, as the end does
  done_in_two : (fuel budget workers : ℕ) (before behind : List PlanLine) (play : Play C A M)
      → lines_done d r memory fuel budget workers (before ++ resting ∷ behind) play
      ≡ option_and_then (λ next. lines_done d r memory fuel budget workers behind next) (lines_done d r memory fuel budget workers before play)
  done_in_two fuel budget workers [] behind play = refl
  done_in_two fuel budget workers (line ∷ before) behind play = go (λ next. done_in_two fuel budget workers before behind next) (line_done d r memory fuel budget workers play line)
    where
      go : ((next : Play C A M) → lines_done d r memory fuel budget workers (before ++ resting ∷ behind) next
          ≡ option_and_then (λ after. lines_done d r memory fuel budget workers behind after) (lines_done d r memory fuel budget workers before next))
          → (o : Option (Play C A M)) → option_and_then (λ next. lines_done d r memory fuel budget workers (before ++ resting ∷ behind) next) o
          ≡ option_and_then (λ next. lines_done d r memory fuel budget workers behind next) (option_and_then (λ next. lines_done d r memory fuel budget workers before next) o)
      go each None = refl
      go each (Some next) = each next

  -- The rehearsal of the lines before a line of rest, and what the others make of it.
  pub record IsCut (budget workers : ℕ) (script : ScriptPlan) (before behind : List PlanLine) (first : Cell C A M) (last : Play C A M) : Type 0 where
    pub fuel : ℕ
    pub mid : Play C A M
    pub front : rehearsal d r memory fuel budget workers (with_lines script before) first ≡ Some mid
    pub more : lines_done d r memory fuel budget workers behind mid ≡ Some last

  pub cut : (fuel budget workers : ℕ) (script : ScriptPlan) (first : Cell C A M) (last : Play C A M) (before behind : List PlanLine) → script.lines ≡ before ++ resting ∷ behind
      → rehearsal d r memory fuel budget workers script first ≡ Some last → IsCut budget workers script before behind first last
  cut fuel budget workers script first last before behind is whole =
      let e : (mid : Play C A M) × (lines_done d r memory fuel budget workers before (before_all first script) ≡ Some mid) × (lines_done d r memory fuel budget workers behind mid ≡ Some last) =
      done_after (lines_done d r memory fuel budget workers before (before_all first script)) (λ next. lines_done d r memory fuel budget workers behind next) last
      (sym (done_in_two fuel budget workers before behind (before_all first script))
      ∙ ap (λ lines. lines_done d r memory fuel budget workers lines (before_all first script)) (sym is) ∙ whole) in
      record { fuel = fuel; mid = e.0; front = e.1; more = e.2 }
