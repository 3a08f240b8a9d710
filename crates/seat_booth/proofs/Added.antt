-- What the calls of two seats add to a running sum.
use Rattle.std.proofs.Common.{◌≡◌, ℕ, zero, suc, ◌+◌, ◌%◌, ◌^◌, ◌<◌, ◌≢◌, ◌⊎◌, Bool, cond, List, [], ◌∷◌, ◌++◌, sym, refl, ap, ◌∙◌, inl, inr, ⊎_elim, arith, eq-eqb, ne_eqb}
use Rattle.std.specs.List.{AllByRecursion, Any}
use Rattle.std.proofs.lemmas.List.Elements.{recursion_from_All}
use Rattle.call_history.specs.declared.seat_call.SeatCall.{SeatCall}
use Rattle.call_history.specs.History.{meaning_after, IsHistory}
use Rattle.call_history.specs.Calls.{calls_by}
use Rattle.seat_booth.specs.Seats.{BoothView, SeatView, SeatAgrees, EndsBooth}
use Rattle.seat_booth.specs.Sums.{Adds, added}
use Rattle.seat_booth.proofs.Weights.{total-append, each_of}

abbrev E : Type 0
E = SeatCall ℕ ℕ ℕ

pub added-push : (log : List E) (e : E) → added (log ++ e ∷ []) ≡ added log + e.op
added-push log e = omega (arith, total-append (λ (x : E). x.op) log (e ∷ []))

-- the sum after a history, where it fits
sum_after : (first : ℕ) (log : List E) → IsHistory Adds first log → first + added log < 2 ^ 64 → meaning_after first log ≡ first + added log
sum_after first [] h fits = omega arith
sum_after first (e ∷ es) h fits = let now : e.after ≡ first + e.op = h.0.1 ∙ (h.0.0 ∙ (let small : (first + e.op) % 2 ^ 64 ≡ first + e.op = omega arith in small)) in
    omega (arith, sum_after e.after es h.1 (omega arith))

calls_by-hit : (seat : ℕ) (e : E) (es : List E) → e.seat ≡ seat → calls_by seat (e ∷ es) ≡ e ∷ calls_by seat es
calls_by-hit seat e es is = ap (λ (b : Bool). cond b (e ∷ calls_by seat es) (calls_by seat es)) (eq-eqb e.seat seat is)

calls_by-miss : (seat : ℕ) (e : E) (es : List E) → e.seat ≢ seat → calls_by seat (e ∷ es) ≡ calls_by seat es
calls_by-miss seat e es not = ap (λ (b : Bool). cond b (e ∷ calls_by seat es) (calls_by seat es)) (ne_eqb e.seat seat not)

-- where all calls are of two seats, they add what the calls of each add
of_two : (log : List E) → AllByRecursion (λ e. (e.seat ≡ 0) ⊎ (e.seat ≡ 1)) log → added log ≡ added (calls_by 0 log) + added (calls_by 1 log)
of_two [] h = refl
of_two (e ∷ es) h = ⊎_elim
    (λ (is : e.seat ≡ 0). omega (arith, of_two es h.1, ap added (calls_by-hit 0 e es is), ap added (calls_by-miss 1 e es (λ not. let bad : zero ≡ suc zero = sym is ∙ not in omega arith))))
    (λ (is : e.seat ≡ 1). omega (arith, of_two es h.1, ap added (calls_by-hit 1 e es is), ap added (calls_by-miss 0 e es (λ not. let bad : suc zero ≡ zero = sym is ∙ not in omega arith)))) h.0

one_of_two : (p q : SeatView ℕ ℕ ℕ) (n : ℕ) → p.number ≡ 0 → q.number ≡ 1 → Any (λ x. x.number ≡ n) (p ∷ q ∷ []) → (n ≡ 0) ⊎ (n ≡ 1)
one_of_two p q n zeroth oneth (zero, x, low, is, num) = inl (sym num ∙ (ap (λ (y : SeatView ℕ ℕ ℕ). y.number) (sym is) ∙ zeroth))
one_of_two p q n zeroth oneth (suc zero, x, low, is, num) = inr (sym num ∙ (ap (λ (y : SeatView ℕ ℕ ℕ). y.number) (sym is) ∙ oneth))
one_of_two p q n zeroth oneth (suc (suc k), x, low, is, num) = absurd (omega arith)

pub two_popped : {X : Type 0} (xs : List X) (m n f s : X) → m ∷ n ∷ [] ≡ (xs ++ f ∷ []) ++ s ∷ [] → (xs ≡ []) × (f ≡ m) × (s ≡ n)
two_popped [] m n f s e = (refl, cc, cc)
two_popped (x ∷ []) m n f s e = absurd (let no : [] ≡ s ∷ [] = cc in cc)
two_popped (x ∷ y ∷ ys) m n f s e = absurd (let no : [] ≡ (ys ++ f ∷ []) ++ s ∷ [] = cc in none_left ys f s no) where
  none_left : {X : Type 0} (zs : List X) (f s : X) → [] ≡ (zs ++ f ∷ []) ++ s ∷ [] → ⊥
  none_left [] f s e = cc
  none_left (z ∷ zs) f s e = cc

module _ (may : ℕ → ℕ → List E → ℕ → Type 0) where
  -- at the end of a booth of two seats, the sum is what both added
  pub sum_of_both : (s : BoothView ℕ) (p q : SeatView ℕ ℕ ℕ) (sum a b : ℕ) → EndsBooth Adds may s (p ∷ q ∷ []) sum → s.opening ≡ 0 → p.number ≡ 0 → q.number ≡ 1 → added p.mine ≡ a → added q.mine ≡ b → a + b < 2 ^ 64 → sum ≡ a + b
  sum_of_both s p q sum a b ends opening zeroth oneth first second fits =
      let log : List E = ends.log in
      let callers = recursion_from_All (λ (e : E). Any (λ (x : SeatView ℕ ℕ ℕ). x.number ≡ e.seat) (p ∷ q ∷ [])) log ends.only in
      let two = of_two log (each_of (λ (e : E). Any (λ (x : SeatView ℕ ℕ ℕ). x.number ≡ e.seat) (p ∷ q ∷ [])) (λ (e : E). (e.seat ≡ 0) ⊎ (e.seat ≡ 1)) log (λ e any. one_of_two p q e.seat zeroth oneth any) callers) in
      let stands = recursion_from_All (SeatAgrees log) (p ∷ q ∷ []) ends.each in
      let first_own : calls_by p.number log ≡ p.mine = stands.0.own in
      let second_own : calls_by q.number log ≡ q.mine = stands.1.0.own in
      let mine : added (calls_by 0 log) ≡ a = ap (λ (n : ℕ). added (calls_by n log)) (sym zeroth) ∙ (ap added first_own ∙ first) in
      let theirs : added (calls_by 1 log) ≡ b = ap (λ (n : ℕ). added (calls_by n log)) (sym oneth) ∙ (ap added second_own ∙ second) in
      let last : meaning_after s.opening log ≡ sum = ends.last in
      let whole : meaning_after s.opening log ≡ s.opening + added log = sum_after s.opening log ends.history (omega arith) in
      omega arith
