-- Numbers that come from some number on, each once: where they stand.
use Rattle.std.proofs.Common.{◌≡◌, ◌≢◌, ◌⊎◌, eqb, true, false, inl, inr, ◌≤◌, ◌<◌, ◌+◌, ℕ, zero, suc, List, [], ◌∷◌, slice_get, Option, None, Some, refl, ap, sym, ◌∙◌, arith}
use Rattle.std.proofs.lemmas.Bool.Decides.{eqb_tells}
use Rattle.std.specs.List.{filter_map, cons_option, range_with_len}

-- what a list that is a range begins with, and what is behind
first_of : (n : ℕ) (ns : List ℕ) (a count : ℕ) → n ∷ ns ≡ range_with_len a count → (c : ℕ) × (count ≡ suc c) × (n ≡ a) × (ns ≡ range_with_len (a + 1) c)
first_of n ns a zero e = absurd (let no : ⊥ = cc in no)
first_of n ns a (suc c) e = (c, refl, cc, cc)

same_some : {A : Type 0} (x y : A) → Some x ≡ Some y → x ≡ y
same_some x y e = cc

-- the least of them, or one behind it
pick : {P : Type 0} (k a : ℕ) → a ≤ k → (k ≡ a → P) → (a + 1 ≤ k → P) → P
pick {P} k a low here above = by (eqb_tells k a)
  where
    by : ((eqb k a ≡ true) × (k ≡ a)) ⊎ ((eqb k a ≡ false) × (k ≢ a)) → P
    by (inl (t, e)) = here e
    by (inr (t, n)) = above (omega arith)

module _ {X : Type 0} (f : X → Option ℕ) where
  pub at_least : (xs : List X) (a count q : ℕ) (t : X) (k : ℕ) → filter_map f xs ≡ range_with_len a count → slice_get xs q ≡ Some t → f t ≡ Some k → a ≤ k
  at_least [] a count q t k e there shown = absurd (let no : ⊥ = cc in no)
  at_least (x ∷ xs) a count zero t k e there shown =
      let here : f x ≡ Some k = ap f (same_some x t there) ∙ shown in
      let r = first_of k (filter_map f xs) a count (sym (ap (λ o. cons_option o (filter_map f xs)) here) ∙ e) in
      let same = r.2 in
      omega arith
  at_least (x ∷ xs) a count (suc q) t k e there shown = by (f x) refl (λ b c h. at_least xs b c q t k h there shown)
    where
      by : (o : Option ℕ) → f x ≡ o → ((b c : ℕ) → filter_map f xs ≡ range_with_len b c → b ≤ k) → a ≤ k
      by None is on = on a count (sym (ap (λ o. cons_option o (filter_map f xs)) is) ∙ e)
      by (Some n) is on =
          let r = first_of n (filter_map f xs) a count (sym (ap (λ o. cons_option o (filter_map f xs)) is) ∙ e) in
          let more = on (a + 1) r.0 r.3 in
          omega arith

  pub rising : (xs : List X) (a count p q : ℕ) (s t : X) (j k : ℕ) → filter_map f xs ≡ range_with_len a count → p < q → slice_get xs p ≡ Some s → slice_get xs q ≡ Some t
      → f s ≡ Some j → f t ≡ Some k → j < k
  rising [] a count p q s t j k e l there behind first second = absurd (let no : ⊥ = cc in no)
  rising (x ∷ xs) a count p zero s t j k e l there behind first second = absurd (omega arith)
  rising (x ∷ xs) a count zero (suc q) s t j k e l there behind first second =
      let here : f x ≡ Some j = ap f (same_some x s there) ∙ first in
      let r = first_of j (filter_map f xs) a count (sym (ap (λ o. cons_option o (filter_map f xs)) here) ∙ e) in
      let same = r.2 in
      let more = at_least xs (a + 1) r.0 q t k r.3 behind second in
      omega arith
  rising (x ∷ xs) a count (suc p) (suc q) s t j k e l there behind first second =
      by (f x) refl (λ b c h. rising xs b c p q s t j k h (omega arith) there behind first second)
    where
      by : (o : Option ℕ) → f x ≡ o → ((b c : ℕ) → filter_map f xs ≡ range_with_len b c → j < k) → j < k
      by None is on = on a count (sym (ap (λ o. cons_option o (filter_map f xs)) is) ∙ e)
      by (Some n) is on =
          let r = first_of n (filter_map f xs) a count (sym (ap (λ o. cons_option o (filter_map f xs)) is) ∙ e) in
          on (a + 1) r.0 r.3

  pub each_found : (xs : List X) (a count k : ℕ) → filter_map f xs ≡ range_with_len a count → a ≤ k → k < a + count → (p : ℕ) × (s : X) × (slice_get xs p ≡ Some s) × (f s ≡ Some k)
  each_found [] a zero k e low high = absurd (omega arith)
  each_found [] a (suc count) k e low high = absurd (let no : ⊥ = cc in no)
  each_found (x ∷ xs) a count k e low high =
      by (f x) refl (λ b c h l m. let r = each_found xs b c k h l m in (suc r.0, r.1, r.2, r.3))
    where
      by : (o : Option ℕ) → f x ≡ o
          → ((b c : ℕ) → filter_map f xs ≡ range_with_len b c → b ≤ k → k < b + c → (p : ℕ) × (s : X) × (slice_get (x ∷ xs) p ≡ Some s) × (f s ≡ Some k))
          → (p : ℕ) × (s : X) × (slice_get (x ∷ xs) p ≡ Some s) × (f s ≡ Some k)
      by None is on = on a count (sym (ap (λ o. cons_option o (filter_map f xs)) is) ∙ e) low high
      by (Some n) is on =
          let r = first_of n (filter_map f xs) a count (sym (ap (λ o. cons_option o (filter_map f xs)) is) ∙ e) in
          pick k a low (λ same. (0, x, refl, is ∙ ap Some (r.2 ∙ sym same)))
          (λ above. on (a + 1) r.0 r.3 above (let same = r.1 in omega arith))
