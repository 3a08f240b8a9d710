-- A change of which each later round is like the one before.
use Rattle.std.proofs.Common.{◌≡◌, ℕ, zero, suc, None, refl, ap, ◌∙◌}
use Rattle.std.specs.Prelude.{flat_map}
use Rattle.compat_model.specs.Breaks.{pair_break, break_in_round, IsCompatible}
use Rattle.compat_model.specs.InOrder.{first_answer}
use Rattle.compat_model.specs.StructPairs.{SchemaChange, pairs_within, pairs_reached}

module _ (ch : SchemaChange) (steady : pairs_reached ch 2 ≡ pairs_reached ch 1) where
  still : (n : ℕ) → pairs_reached ch (suc n) ≡ pairs_reached ch 1
  still zero = refl
  still (suc n) = ap (flat_map (pairs_within ch)) (still n) ∙ steady

  pub steady_rounds : break_in_round ch 0 ≡ None → break_in_round ch 1 ≡ None → break_in_round ch 2 ≡ None → IsCompatible ch
  steady_rounds none first second zero = none
  steady_rounds none first second (suc zero) = first
  steady_rounds none first second (suc (suc n)) = ap (first_answer (pair_break ch)) (still n) ∙ second
