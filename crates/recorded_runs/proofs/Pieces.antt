-- The pieces of a sound script are bytes in memory, and so is what was read of them.
use Rattle.std.proofs.Common.{◌≡◌, ℕ, zero, suc, ◌==◌, Bool, true, false, if◌then◌else◌, List, [], ◌∷◌, ◌++◌, refl, sym, ◌∙◌, subst, arith, append_assoc}
use Rattle.std.proofs.lemmas.Grind.{flat_map-append}
use Rattle.script_model.specs.Arrival.{bytes_of_pieces}
use Rattle.script_model.specs.ScriptLines.{PlanLine, opening, piece, input_end, input_fault, resting, turn_of_conn, turn_of_worker, turn_of_outcome, ScriptPlan, piece_by, pieces_on}
use Rattle.script_model.proofs.Holding.{AreBytes, no_bytes, bytes_joined}
use Rattle.script_text.specs.Sound.{IsSoundPlan}

-- a beginning of bytes is one of bytes
pub bytes_begun : (xs ys : List ℕ) → AreBytes (xs ++ ys) → AreBytes xs
bytes_begun [] ys are i = omega arith
bytes_begun (x ∷ xs) ys are zero = are 0
bytes_begun (x ∷ xs) ys are (suc i) = bytes_begun xs ys (λ k. are (suc k)) i

-- and so is an end
pub bytes_ended : (xs ys : List ℕ) → AreBytes (xs ++ ys) → AreBytes ys
bytes_ended [] ys are = are
bytes_ended (x ∷ xs) ys are = bytes_ended xs ys (λ k. are (suc k))

-- what a line brings
line_brings : (c : ℕ) (line : PlanLine) → ((x : ℕ) (bytes : List ℕ) → line ≡ piece x bytes → AreBytes bytes) → AreBytes (bytes_of_pieces (piece_by c line))
line_brings c (piece x bytes) are = go (x == c)
  where
    go : (b : Bool) → AreBytes (bytes_of_pieces (if b then bytes ∷ [] else []))
    go true = bytes_joined bytes [] (are x bytes refl) no_bytes
    go false = no_bytes
line_brings c opening are = no_bytes
line_brings c (input_end x) are = no_bytes
line_brings c (input_fault x) are = no_bytes
line_brings c resting are = no_bytes
line_brings c (turn_of_conn x) are = no_bytes
line_brings c (turn_of_worker w) are = no_bytes
line_brings c turn_of_outcome are = no_bytes

module _ (script : ScriptPlan) (sound : IsSoundPlan script) (c : ℕ) where
  lines_bring : (above lines : List PlanLine) → script.lines ≡ above ++ lines → AreBytes (bytes_of_pieces (pieces_on c lines))
  lines_bring above [] e = no_bytes
  lines_bring above (line ∷ lines) e =
      subst AreBytes (sym (flat_map-append (λ (p : List ℕ). p) (piece_by c line) (pieces_on c lines)))
      (bytes_joined (bytes_of_pieces (piece_by c line)) (bytes_of_pieces (pieces_on c lines))
      (line_brings c line (λ x bytes is. (sound.pieces above lines x bytes (subst (λ (l : PlanLine). script.lines ≡ above ++ l ∷ lines) is e)).1))
      (lines_bring (above ++ line ∷ []) lines (e ∙ sym (append_assoc above (line ∷ []) lines))))

  -- the pieces of a connection
  pub pieces_are : AreBytes (bytes_of_pieces (pieces_on c script.lines))
  pieces_are = lines_bring [] script.lines refl
