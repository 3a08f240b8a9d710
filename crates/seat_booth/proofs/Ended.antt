-- The one history at a booth's end.
use Rattle.std.proofs.Common.{◌≡◌, ℕ, zero, suc, ◌<◌, ◌≤◌, ◌≢◌, Bool, true, false, cond, Some, None, List, [], ◌∷◌, map, length, set, sym, refl, ap, ◌∙◌, subst, ⊎_elim, arith}
use Rattle.std.specs.List.{AllByRecursion, Any}
use Rattle.std.proofs.lemmas.List.Elements.{All-from_recursion}
use mathlib.Core.Logic.{dite}
use mathlib.Core.Option.{some, some-injective}
use native.Mathlib.Decide.{ℕ_discrete}
use lib.ListN.{get_elem?}
use Rattle.atomic_table.specs.Table.{State, Final, Seen}
use Rattle.atomic_table.specs.Seated.{TableId}
use Rattle.atomic_table.proofs.Lists.{at_set}
use Rattle.call_history.specs.declared.seat_call.SeatCall.{SeatCall}
use Rattle.seat_booth.specs.declared.view.Past.{Past}
use Rattle.seat_booth.specs.declared.view.CallStage.TheVariants.{Idle}
use Rattle.seat_booth.specs.declared.view.TokenView.{TokenView}
use Rattle.seat_booth.specs.Seats.{SeatView, booth_view, SeatAgrees, EndsBooth}
use Rattle.seat_booth.specs.Weight.{total}
use Rattle.seat_booth.specs.Past.{past_of_seat, view}
use Rattle.seat_booth.specs.Tickets.{weight_of_one, turning, Fits, numbers, IsKept}
use Rattle.seat_booth.proofs.Weights.{total_le, total_rest, total-one, below-one, only, only-same, only-other, below-only, each_of}

only_le : (n x : ℕ) → only n x ≤ 1
only_le n x = dite (ℕ_discrete x n) (λ is. let here = only-same n x is in omega arith) (λ not. let here = only-other n x not in omega arith)

out_false : (b : Bool) → cond b 1 zero ≡ zero → b ≡ false
out_false true e = absurd (omega arith)
out_false false e = refl

module _ {Q A M : Type 0} where
  -- a number that has weight among the seats is the number of one of them
  pub any_numbered : (n : ℕ) (seat_views : List (SeatView Q A M)) → 0 < total (λ (p : Past Q A M). only n p.number) (map past_of_seat seat_views) → Any (λ (p : SeatView Q A M). p.number ≡ n) seat_views
  any_numbered n [] h = absurd (omega arith)
  any_numbered n (x ∷ xs) h = dite (ℕ_discrete x.number n)
      (λ is. (0, x, omega arith, refl, is))
      (λ not. let none_here = only-other n x.number not in let there = any_numbered n xs (omega arith) in (suc there.0, there.1, omega (arith, there.2), there.3, there.4))

  pub stand_all : (log : List (SeatCall Q A M)) (seat_views : List (SeatView Q A M)) → AllByRecursion (Fits log) (map past_of_seat seat_views) → AllByRecursion (SeatAgrees log) seat_views
  stand_all log [] h = tt
  stand_all log (x ∷ xs) h = (record { begins = h.0.0; own = h.0.1 }, stand_all log xs h.1)

  pub length-pasts : (seat_views : List (SeatView Q A M)) → length (map past_of_seat seat_views) ≡ length seat_views
  length-pasts [] = refl
  length-pasts (x ∷ xs) = omega (arith, length-pasts xs)

  only_numbers : (n : ℕ) (v : TokenView Q A M) → numbers (only n) v ≤ length v.pasts
  only_numbers n v = omega (arith, total_le (λ (p : Past Q A M). only n p.number) (λ _. 1) v.pasts (λ j p e. only_le n p.number), total-one v.pasts)

  module _ {O : Type 0} (meaning : O → M) (gives : M → Q → A → M → Type 0) (may : M → ℕ → List (SeatCall Q A M) → Q → Type 0) (first : M) (seats : ℕ) where
    -- where one token has all seats, no other has one
    module _ (t : State O (TokenView Q A M)) (k : IsKept meaning gives may first seats t) (id : ℕ) (v : TokenView Q A M) (at : get_elem? t.views id ≡ some v) (idle : v.stage ≡ Idle) (every : length v.pasts ≡ seats) where
      abbrev spent : TokenView Q A M
      spent = view None Idle []

      abbrev others : List (TokenView Q A M)
      others = set t.views id spent

      -- a weight that is at most the number of seats is nothing among the others
      no_weight : (g : TokenView Q A M → ℕ) → g spent ≡ 0 → ((j : ℕ) (u : TokenView Q A M) → get_elem? t.views j ≡ some u → g u ≤ length u.pasts) → total g others ≡ 0
      no_weight g none_spent few =
          let seats_there = total_rest (numbers weight_of_one) t.views id v spent refl at in
          let mine : numbers weight_of_one v ≡ seats = total-one v.pasts ∙ every in
          let most = total_le g (numbers weight_of_one) others (λ j u e. ⊎_elim (λ (x : (j ≡ id) × (spent ≡ u)). subst (λ (w : TokenView Q A M). g w ≤ numbers weight_of_one w) x.1 (omega (arith, none_spent))) (λ (x : (j ≢ id) × (get_elem? t.views j ≡ some u)). omega (arith, few j u x.1, total-one u.pasts)) (at_set t.views id j spent u e)) in
          omega (arith, seats_there, mine, most, k.dealt weight_of_one, below-one seats)

      is_home : k.out ≡ false
      is_home =
          let no_turn = no_weight (λ u. turning weight_of_one u.stage) refl (λ j u e. let few = (k.each j u e).few in omega arith) in
          let mine : turning weight_of_one v.stage ≡ 0 = ap (turning weight_of_one) idle in
          let whole = total_rest (λ u. turning weight_of_one u.stage) t.views id v spent refl at in
          out_false k.out (omega (arith, k.turn weight_of_one))

      -- each seat that there is has its number in the token
      pub numbered : (n : ℕ) → n < seats → 0 < numbers (only n) v
      numbered n low =
          let none_there = no_weight (numbers (only n)) refl (λ j u e. only_numbers n u) in
          let whole = total_rest (numbers (only n)) t.views id v spent refl at in
          omega (arith, none_there, whole, k.dealt (only n), (below-only n seats).2 low)

    pub ended : (booth : TableId) (t : State O (TokenView Q A M)) → IsKept meaning gives may first seats t → (id : ℕ) (seat_views : List (SeatView Q A M)) → length seat_views ≡ seats
        → get_elem? t.views id ≡ some (view (Some first) Idle (map past_of_seat seat_views)) → (x : O) × (get_elem? t.homes 0 ≡ some (some x)) × EndsBooth gives may (booth_view booth first seats) seat_views (meaning x)
    ended booth t k id seat_views every at =
        let v : TokenView Q A M = view (Some first) Idle (map past_of_seat seat_views) in
        let all_there : length v.pasts ≡ seats = length-pasts seat_views ∙ every in
        let home = k.home (is_home t k id v at refl all_there) in
        let known = k.each id v at in (
          home.0,
          home.1,
          record {
            log = k.log;
            history = k.history;
            allowed = k.allowed;
            last = sym home.2;
            each = All-from_recursion (SeatAgrees k.log) seat_views (stand_all k.log seat_views known.fits);
            only = All-from_recursion (λ (e : SeatCall Q A M). Any (λ (p : SeatView Q A M). p.number ≡ e.seat) seat_views) k.log
                (each_of (λ (e : SeatCall Q A M). e.seat < seats) (λ (e : SeatCall Q A M). Any (λ (p : SeatView Q A M). p.number ≡ e.seat) seat_views) k.log (λ e low. any_numbered e.seat seat_views (numbered t k id v at refl all_there e.seat low)) k.callers);
            few = k.bounded;
          },
        )

    -- the object that comes out of the closed table is the one at home
    pub closes : (booth : TableId) (id : ℕ) (seat_views : List (SeatView Q A M)) (v : TokenView Q A M) (words : List ℕ) (slots : List O) (x : O) → length seat_views ≡ seats → v ≡ view (Some first) Idle (map past_of_seat seat_views)
        → Final (Seen (IsKept meaning gives may first seats) id v) words slots → get_elem? slots 0 ≡ some x → EndsBooth gives may (booth_view booth first seats) seat_views (meaning x)
    closes booth id seat_views v words slots x every is f taken =
        let e = ended booth f.0 f.1.0 id seat_views every (f.1.1 ∙ ap (λ (w : TokenView Q A M). some w) is) in
        subst (λ (y : O). EndsBooth gives may (booth_view booth first seats) seat_views (meaning y)) (some-injective e.0 x (sym (f.4 0 e.0 e.1) ∙ taken)) e.2
