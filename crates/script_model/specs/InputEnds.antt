-- What of a script lets each input end, or fail, after all pieces.
use Rattle.std.specs.Prelude.{◌≡◌, ℕ, List, [], ◌∷◌, ◌++◌}
use Rattle.script_model.specs.ScriptLines.{PlanLine, input_end, input_fault, pieces_on}

-- behind a line that lets the input of a connection end, or fail, no line brings a piece of it
pub record EndsBehindPieces (lines : List PlanLine) : Type 0 where
  pub ended : (above behind : List PlanLine) (c : ℕ) → lines ≡ above ++ input_end c ∷ behind → pieces_on c behind ≡ []
  pub failed : (above behind : List PlanLine) (c : ℕ) → lines ≡ above ++ input_fault c ∷ behind → pieces_on c behind ≡ []
