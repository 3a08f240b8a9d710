-- Tests and lengths at the front of a text.
use Rattle.std.proofs.Common.{◌≡◌, ℕ, zero, suc, ◌+◌, ◌-◌, ◌<◌, ◌≤◌, min, max, ◌==◌, ◌&&◌, ◌||◌, nat_lt, Bool, true, false, cond, List, [], ◌∷◌, length, take, drop, refl, sym, ap, ◌∙◌, subst, ◌⊎◌, inl, inr, ⊎_elim, arith, length-take-le}
use Rattle.std.specs.List.{prefix_len}
use Rattle.std.proofs.lemmas.Bool.{lt-ltb, ltb-true, eq-eqb, eqb-true}
use Rattle.std.proofs.lemmas.List.{length-drop}
use Rattle.std.proofs.lemmas.List.Sums.{prefix_len-le-length}
use Rattle.std.proofs.str.Laws.{order}
use Rattle.idl_token.specs.Classes.{is_run}
use Rattle.idl_token.specs.Lengths.{with_front}

pub and_left : (a b : Bool) → (a && b) ≡ true → a ≡ true
and_left true b h = refl
and_left false b h = h

pub and_right : (a b : Bool) → (a && b) ≡ true → b ≡ true
and_right true b h = h
and_right false b h = absurd (cc)

pub both : (a b : Bool) → a ≡ true → b ≡ true → (a && b) ≡ true
both a b p q = rw (p, q) refl

pub either : (a b : Bool) → (a || b) ≡ true → (a ≡ true) ⊎ (b ≡ true)
either true b h = inl refl
either false b h = inr h

pub or_left : (a b : Bool) → a ≡ true → (a || b) ≡ true
or_left a b p = rw p refl

pub or_right : (a b : Bool) → b ≡ true → (a || b) ≡ true
or_right true b p = refl
or_right false b p = p

pub not_false : {b : Bool} → b ≡ true → b ≡ false → ⊥
not_false p q = let h : true ≡ false = sym p ∙ q in absurd (cc)

-- what isn't true is false
pub is_false : (b : Bool) → (b ≡ true → ⊥) → b ≡ false
is_false true h = absurd (h refl)
is_false false h = refl

take_none : (n : ℕ) → take {A = ℕ} n [] ≡ []
take_none zero = refl
take_none (suc n) = refl

pub drop-take_less : (k m : ℕ) (text : List ℕ) → drop k (take m text) ≡ take (m - k) (drop k text)
drop-take_less zero m text = let is : m ≡ m - 0 = omega arith in ap (λ n. take n text) is
drop-take_less (suc k) zero text = let is : 0 ≡ 0 - suc k = omega arith in ap (λ n. take n (drop (suc k) text)) is
drop-take_less (suc k) (suc m) [] = sym (take_none (suc m - suc k))
drop-take_less (suc k) (suc m) (b ∷ text) = let is : m - k ≡ suc m - suc k = omega arith in drop-take_less k m text ∙ ap (λ n. take n (drop k text)) is

min_step : (p : Bool) (m n : ℕ) → cond p (1 + min m n) 0 ≡ min (suc m) (cond p (1 + n) 0)
min_step true m n = omega arith
min_step false m n = omega arith

pub prefix_len-take : (p : ℕ → Bool) (m : ℕ) (text : List ℕ) → prefix_len p (take m text) ≡ min m (prefix_len p text)
prefix_len-take p zero text = omega arith
prefix_len-take p (suc m) [] = omega arith
prefix_len-take p (suc m) (b ∷ text) = ap (λ n. cond (p b) (1 + n) 0) (prefix_len-take p m text) ∙ min_step (p b) m (prefix_len p text)

-- the longest front of a text that passes a test has n bytes; none passes where n is 0
pub record Reach (is : List ℕ → Bool) (text : List ℕ) (n : ℕ) : Type 0 where
  pub within : n ≤ length text
  pub found : 0 < n → is (take n text) ≡ true
  pub longest : (m : ℕ) → m ≤ length text → is (take m text) ≡ true → m ≤ n

-- bytes that pass
pub run_reach : (p : ℕ → Bool) (text : List ℕ) → Reach (is_run p) text (prefix_len p text)
run_reach p text =
    let bound = prefix_len-le-length p text in
    let long = length-take-le (prefix_len p text) text bound in
    record {
      within = bound;
      found = λ some. both _ _ (lt-ltb _ _ (omega (arith, long))) (eq-eqb _ _ (prefix_len-take p (prefix_len p text) text ∙ omega (arith, long)));
      longest = λ m inside passes.
          let same = eqb-true (prefix_len p (take m text)) (length (take m text)) (and_right (nat_lt 0 (length (take m text))) (prefix_len p (take m text) == length (take m text)) passes) in
          omega (arith, same, prefix_len-take p m text, length-take-le m text inside);
    }

pub when : (g : Bool) (n : ℕ) → 0 < cond g n 0 → (g ≡ true) × (cond g n 0 ≡ n)
when true n some = (refl, refl)
when false n some = absurd (omega arith)

when_le : (g : Bool) (n : ℕ) → cond g n 0 ≤ n
when_le true n = omega arith
when_le false n = omega arith

-- a test in front that each front that passes has alike
pub guarded : (g is : List ℕ → Bool) (text : List ℕ) (n : ℕ) → ((m : ℕ) → is (take m text) ≡ true → g (take m text) ≡ g text) → Reach is text n → Reach (λ x. g x && is x) text (cond (g text) n 0)
guarded g is text n alike reach = record {
  within = omega (arith, when_le (g text) n, reach.within);
  found = λ some.
      let here = when (g text) n some in
      let passes = reach.found (omega (arith, here.1)) in
      subst (λ k. (g (take k text) && is (take k text)) ≡ true) (sym here.1) (both _ _ (alike n passes ∙ here.0) passes);
  longest = λ m inside passes.
      let second = and_right (g (take m text)) (is (take m text)) passes in
      let first : g text ≡ true = sym (alike m second) ∙ and_left (g (take m text)) (is (take m text)) passes in
      subst (λ b. m ≤ cond b n 0) (sym first) (reach.longest m inside second);
}

pub positive : (n : ℕ) → (n ≡ 0 → ⊥) → 0 < n
positive zero h = absurd (h refl)
positive (suc n) h = omega arith

behind_within : (k n : ℕ) (text : List ℕ) → n ≤ length (drop k text) → with_front k n ≤ length text
behind_within k zero text bound = omega arith
behind_within k (suc n) text bound =
    subst (λ b. cond b (k + suc n) 0 ≤ length text) (sym (lt-ltb 0 (suc n) (omega arith))) (omega (arith, length-drop k text))

-- a test of what stands behind the first k bytes
pub behind : (f : List ℕ → List ℕ) (is : List ℕ → Bool) (text : List ℕ) (k n : ℕ) → ((m : ℕ) → f (take m text) ≡ take (m - k) (drop k text)) → is [] ≡ false → Reach is (drop k text) n → Reach (λ x. is (f x)) text (with_front k n)
behind f is text k n commutes empty reach = record {
  within = behind_within k n text reach.within;
  found = λ some.
      let here = when (nat_lt 0 n) (k + n) some in
      let above = ltb-true 0 n here.0 in
      let back : k + n - k ≡ n = omega arith in
      subst (λ j. is (f (take j text)) ≡ true) (sym here.1)
      (ap is (commutes (k + n) ∙ ap (λ j. take j (drop k text)) back) ∙ reach.found above);
  longest = λ m inside passes.
      let passes_behind : is (take (m - k) (drop k text)) ≡ true = ap is (sym (commutes m)) ∙ passes in
      let short : m - k ≤ n = reach.longest (m - k) (omega (arith, length-drop k text)) passes_behind in
      let above : 0 < m - k = positive (m - k) (λ none. not_false (subst (λ j. is (take j (drop k text)) ≡ true) none passes_behind) empty) in
      subst (λ b. m ≤ cond b (k + n) 0) (sym (lt-ltb 0 n (omega arith))) (omega arith);
}

-- one test or the other
pub one_of_two : (is also : List ℕ → Bool) (text : List ℕ) (a b : ℕ) → Reach is text a → Reach also text b → Reach (λ x. is x || also x) text (max a b)
one_of_two is also text a b first second = record {
  within = omega (arith, first.within, second.within);
  found = λ some. ⊎_elim
      (λ less. let here : max a b ≡ b = omega (arith, less) in subst (λ k. (is (take k text) || also (take k text)) ≡ true) (sym here) (or_right _ _ (second.found (omega arith))))
      (λ more. let here : max a b ≡ a = omega (arith, more) in subst (λ k. (is (take k text) || also (take k text)) ≡ true) (sym here) (or_left _ _ (first.found (omega arith))))
      (order a b);
  longest = λ m inside passes. ⊎_elim
      (λ p. let q = first.longest m inside p in omega arith)
      (λ p. let q = second.longest m inside p in omega arith)
      (either (is (take m text)) (also (take m text)) passes);
}

-- another test with the same answers
pub same_reach : (is also : List ℕ → Bool) (text : List ℕ) (n : ℕ) → ((m : ℕ) → also (take m text) ≡ is (take m text)) → Reach is text n → Reach also text n
same_reach is also text n same reach = record {
  within = reach.within;
  found = λ some. same n ∙ reach.found some;
  longest = λ m inside passes. reach.longest m inside (sym (same m) ∙ passes);
}

-- a longer front doesn't pass
pub beyond : (is : List ℕ → Bool) (text : List ℕ) (n m : ℕ) → Reach is text n → n < m → m ≤ length text → is (take m text) ≡ false
beyond is text n m reach longer inside = is_false _ (λ passes. let short = reach.longest m inside passes in absurd (omega arith))

-- nor does another front that is as long or longer
pub not_reached : (is : List ℕ → Bool) (text : List ℕ) (n m : ℕ) → Reach is text n → n ≤ m → m ≤ length text → (n == m) ≡ false → is (take m text) ≡ false
not_reached is text n m reach up_to inside other =
    is_false _ (λ passes. let short = reach.longest m inside passes in not_false (eq-eqb n m (omega arith)) other)

pub reached : (is : List ℕ → Bool) (text : List ℕ) (n m : ℕ) → Reach is text n → 0 < m → (n == m) ≡ true → is (take m text) ≡ true
reached is text n m reach some same =
    let here = eqb-true n m same in subst (λ k. is (take k text) ≡ true) here (reach.found (omega arith))
