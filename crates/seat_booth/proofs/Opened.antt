-- A booth's table at its opening and at its end.
use Rattle.std.proofs.Common.{◌≡◌, ℕ, zero, suc, ◌+◌, ◌<◌, ◌≤◌, false, Some, List, [], ◌∷◌, ◌++◌, length, get_or, sym, refl, ap, subst, arith}
use Rattle.std.specs.List.{AllByRecursion}
use mathlib.Core.Option.{some, some-injective, some-ne-none}
use lib.ListN.{get_elem?}
use Rattle.atomic_table.specs.Table.{opening}
use Rattle.call_history.specs.declared.seat_call.SeatCall.{SeatCall}
use Rattle.seat_booth.specs.declared.view.Past.{Past}
use Rattle.seat_booth.specs.declared.view.CallStage.TheVariants.{Idle}
use Rattle.seat_booth.specs.declared.view.TokenView.{TokenView}
use Rattle.call_history.specs.Calls.{AllAllowed}
use Rattle.seat_booth.specs.Weight.{total, below}
use Rattle.seat_booth.specs.Past.{view, new_pasts}
use Rattle.seat_booth.specs.Tickets.{Fits, IsKnown, IsKept}

module _ (Q A M : Type 0) where
  total-new_pasts : (f : ℕ → ℕ) (k n : ℕ) → total (λ (p : Past Q A M). f p.number) (new_pasts k n) + below f k ≡ below f (k + n)
  total-new_pasts f k zero = let e : k ≡ k + zero = omega arith in omega (arith, ap (below f) e)
  total-new_pasts f k (suc n) = let e : suc k + n ≡ k + suc n = omega arith in omega (arith, total-new_pasts f (suc k) n, ap (below f) e)

  fresh_fits : (k n : ℕ) → AllByRecursion (λ (p : Past Q A M). Fits [] p) (new_pasts k n)
  fresh_fits k zero = tt
  fresh_fits k (suc n) = ((([], refl), refl), fresh_fits (suc k) n)

module _ {Q A M : Type 0} where
  AllAllowed-nil : (may : M → ℕ → List (SeatCall Q A M) → Q → Type 0) (first : M) → AllAllowed may first []
  AllAllowed-nil may first [] back e is = absurd (let same : [] ≡ e ∷ back = is in cc)
  AllAllowed-nil may first (x ∷ xs) back e is = absurd (let same : [] ≡ x ∷ (xs ++ e ∷ back) = is in cc)

  module _ {O : Type 0} (meaning : O → M) (gives : M → Q → A → M → Type 0) (may : M → ℕ → List (SeatCall Q A M) → Q → Type 0) where
    one_known : (first : M) (v w : TokenView Q A M) → IsKnown first [] w → (j : ℕ) → get_elem? (w ∷ []) j ≡ some v → IsKnown first [] v
    one_known first v w known zero e = subst (IsKnown first []) (some-injective w v e) known
    one_known first v w known (suc j) e = absurd (some-ne-none v (sym e))

    pub opens : (object : O) (seats : ℕ) (words : List ℕ) → seats ≤ 64 → 32 < length words → get_or words 0 0 ≡ 0 → get_or words 16 0 ≡ 0
        → IsKept meaning gives may (meaning object) seats (opening words (object ∷ []) (view (Some (meaning object)) Idle (new_pasts 0 seats)))
    opens object seats words room wide none_drawn none_served =
        let w : TokenView Q A M = view (Some (meaning object)) Idle (new_pasts 0 seats) in
        record {
          log = [];
          out = false;
          history = tt;
          allowed = AllAllowed-nil may (meaning object);
          room = room;
          wide = wide;
          passed = none_served;
          bounded = omega arith;
          tickets = λ f. omega (arith, ap (below f) none_drawn);
          turn = λ f. refl;
          home = λ _. (object, refl, refl);
          dealt = λ f. let e : 0 + seats ≡ seats = omega arith in omega (arith, total-new_pasts Q A M f 0 seats, ap (below f) e);
          callers = tt;
          each = λ j v e. one_known (meaning object) v w (record { fits = fresh_fits Q A M 0 seats; opening = λ _. refl; few = omega arith; whole = λ h. absurd h }) j e;
        }
