-- A script that was read gives what the laws of rehearsals ask.
use Rattle.std.proofs.Common.{◌≡◌, ℕ, ◌⊎◌, ◌||◌, Bool, true, false, List, [], ◌∷◌, ◌++◌, refl, ap, subst, ◌∙◌, inl, inr}
use Rattle.std.proofs.lemmas.Bool.{or_cases}
use Rattle.script_model.specs.ScriptLines.{PlanLine, input_end, input_fault, ScriptPlan, ends_input, fails_input, some_line}
use Rattle.script_model.specs.InputEnds.{EndsBehindPieces}
use Rattle.script_model.specs.Ending.{LetsAllEnd}
use Rattle.script_text.specs.Sound.{EndsOnce, IsSoundPlan, MovesItsWorkers}
use Rattle.script_text.proofs.Standing.{IsReadTo, Pass}
use Rattle.script_text.proofs.Soundness.{sound_by, workers_by, behind_end, opened_at}

-- a line in the middle is some line
some_at : (test : PlanLine → Bool) (above behind : List PlanLine) (line : PlanLine) → test line ≡ true → some_line test (above ++ line ∷ behind) ≡ true
some_at test [] behind line is = ap (λ t. t || some_line test behind) is
some_at test (x ∷ above) behind line is = or_right (test x) (some_line test (above ++ line ∷ behind)) (some_at test above behind line is)
  where
    or_right : (a b : Bool) → b ≡ true → (a || b) ≡ true
    or_right true b e = refl
    or_right false b e = e

-- an input that ends once ends or fails
input_closes : (lines : List PlanLine) (c : ℕ) → EndsOnce lines c → (some_line (ends_input c) lines ≡ true) ⊎ (some_line (fails_input c) lines ≡ true)
input_closes lines c once = go (or_cases (ends_input c once.line) (fails_input c once.line) once.closes)
  where
    there : (test : PlanLine → Bool) → test once.line ≡ true → some_line test lines ≡ true
    there test is = ap (some_line test) once.split ∙ some_at test once.above once.behind once.line is

    go : (ends_input c once.line ≡ true) ⊎ (fails_input c once.line ≡ true) → (some_line (ends_input c) lines ≡ true) ⊎ (some_line (fails_input c) lines ≡ true)
    go (inl is) = inl (there (ends_input c) is)
    go (inr is) = inr (there (fails_input c) is)

pub lets_by : (workers : ℕ) (script : ScriptPlan) → IsSoundPlan script → MovesItsWorkers workers script → LetsAllEnd workers script
lets_by workers script sound moves = record {
  moves = record { pieces = sound.pieces; writes = sound.writes; turns = moves };
  inputs = λ c within. input_closes script.lines c (sound.ends c within);
}

pub lets_all_end : (workers : ℕ) (schedule rest : Bool) (script : ScriptPlan) → IsReadTo workers schedule rest script → LetsAllEnd workers script
lets_all_end workers schedule rest script to = lets_by workers script (sound_by workers schedule rest script to) (workers_by workers schedule rest script to)

pub ends_behind : (workers : ℕ) (schedule rest : Bool) (script : ScriptPlan) → IsReadTo workers schedule rest script → EndsBehindPieces script.lines
ends_behind workers schedule rest script to =
    let passes : (above behind : List PlanLine) (line : PlanLine) → script.lines ≡ above ++ line ∷ behind → Pass workers schedule rest [] (above ++ line ∷ behind) =
    λ above behind line is. subst (λ lines. Pass workers schedule rest [] lines) is to.pass in
    record {
      ended = λ above behind c is. behind_end workers schedule rest c above behind (input_end c) (passes above behind (input_end c) is) refl
          (opened_at workers schedule rest c above behind (input_end c) (passes above behind (input_end c) is) refl);
      failed = λ above behind c is. behind_end workers schedule rest c above behind (input_fault c) (passes above behind (input_fault c) is) refl
          (opened_at workers schedule rest c above behind (input_fault c) (passes above behind (input_fault c) is) refl);
    }
