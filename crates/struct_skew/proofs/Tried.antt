-- Loops that try each item of a list, until one fails, or append what comes of each.
use Rattle.std.proofs.Common.{◌≡◌, ℕ, ◌+◌, ◌<◌, ◌≤◌, Bool, true, false, List, [], ◌∷◌, ◌++◌, length, drop, get_or, sym, ap, ◌∙◌, append_assoc, append-nil}
use Rattle.std.specs.Prelude.{◌&&◌}
use Rattle.std.proofs.lemmas.List.{at_drop_all}
use Rattle.struct_skew.proofs.Steps.{in_front}

module _ {A : Type 0} (all : List A → Bool) (test : A → Bool) (step : (x : A) (xs : List A) → all (x ∷ xs) ≡ (test x && all xs))
    (xs : List A) (i : ℕ) (x : A) (low : i < length xs) (here : x ≡ get_or xs i x) (kept : all (drop i xs) ≡ all xs) where
  -- the item, and those behind it
  tried : (test x && all (drop (i + 1) xs)) ≡ all xs
  tried = sym (ap all (in_front xs i x low here) ∙ step x (drop (i + 1) xs)) ∙ kept

  -- the item fails
  pub one_fails : false ≡ test x → false ≡ all xs
  one_fails fails = ap (λ b. b && all (drop (i + 1) xs)) fails ∙ tried

  -- the item passes
  pub one_passes : true ≡ test x → all (drop (i + 1) xs) ≡ all xs
  one_passes passes = ap (λ b. b && all (drop (i + 1) xs)) passes ∙ tried

-- at the end each has passed
pub all_pass : {A : Type 0} (all : List A → Bool) (xs : List A) (i : ℕ) → all [] ≡ true → length xs ≤ i → all (drop i xs) ≡ all xs → true ≡ all xs
all_pass all xs i none end kept = sym (sym kept ∙ at_drop_all all xs i end ∙ none)

-- what was appended, and what comes of those that are left, is the whole
module _ {A B : Type 0} (all : List A → List B) (made : A → B) (step : (x : A) (xs : List A) → all (x ∷ xs) ≡ made x ∷ all xs)
    (xs : List A) (old whole : List B) (i : ℕ) (kept : old ++ all (drop i xs) ≡ whole) where
  pub one_appended : (x : A) (new : List B) → i < length xs → x ≡ get_or xs i x → new ≡ old ++ made x ∷ [] → new ++ all (drop (i + 1) xs) ≡ whole
  one_appended x new low here put =
      ap (λ ys. ys ++ all (drop (i + 1) xs)) put ∙ append_assoc old (made x ∷ []) (all (drop (i + 1) xs))
      ∙ ap (λ ys. old ++ ys) (sym (ap all (in_front xs i x low here) ∙ step x (drop (i + 1) xs))) ∙ kept

  pub all_appended : all [] ≡ [] → length xs ≤ i → old ≡ whole
  all_appended none end = sym (append-nil old) ∙ ap (λ ys. old ++ ys) (sym (at_drop_all all xs i end ∙ none)) ∙ kept
