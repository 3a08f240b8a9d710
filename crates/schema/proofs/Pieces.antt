-- Texts that are written piece by piece, in a loop over what they are made of.
use Rattle.std.proofs.Common.{◌≡◌, ℕ, ◌+◌, ◌<◌, ◌≤◌, List, [], ◌∷◌, ◌++◌, length, get_or, drop, map, Some, None, Result, Ok, Err, OnOk, sym, ap, ◌∙◌, append_assoc}
use Rattle.std.specs.Bool.{if◌then◌else◌}
use Rattle.std.specs.List.{flat_map, slice_get}
use Rattle.std.specs.Option.{option_map}
use Rattle.std.specs.Prelude.{unwrap_or}
use Rattle.std.specs.Result.{is_ok}
use Rattle.std.proofs.lemmas.List.{append-nil, at_drop_more, at_drop_all}
use Rattle.std.proofs.lemmas.Option.{slice_get-map}
use Rattle.schema.specs.SchemaText.{text_at}
use Rattle.schema.specs.Shapes.{joined}

-- what is so where a piece found room, told as what holds then
pub put_on_ok : {A E B : Type 0} (r : Result A E) (longer all before : List B) → longer ≡ (if is_ok r then all else before) → OnOk r (longer ≡ all)
put_on_ok (Ok x) longer all before is = is
put_on_ok (Err e) longer all before is = tt

-- the text of what stands at a number, or of nothing
pub text_found : {A P : Type 0} (text : P → List ℕ) (plain : A → P) (items shown : List A) (n : ℕ) (x : A) → shown ≡ items → Some x ≡ slice_get shown n
    → text (plain x) ≡ text_at text (map plain items) n
text_found text plain items shown n x is found =
    sym (ap (λ o. unwrap_or (option_map text o) []) (slice_get-map plain items n ∙ ap (option_map plain) (ap (λ xs. slice_get xs n) (sym is) ∙ sym found)))

pub text_missed : {A P : Type 0} (text : P → List ℕ) (plain : A → P) (items shown : List A) (n : ℕ) (before : List ℕ) → shown ≡ items → None ≡ slice_get shown n
    → before ≡ before ++ text_at text (map plain items) n
text_missed text plain items shown n before is missed =
    sym (ap (λ o. before ++ unwrap_or (option_map text o) []) (slice_get-map plain items n ∙ ap (option_map plain) (ap (λ xs. slice_get xs n) (sym is) ∙ sym missed)) ∙ append-nil before)

module _ {A B : Type 0} (piece : A → List B) (text : List A → List B) (each : (x : A) (xs : List A) → text (x ∷ xs) ≡ piece x ++ text xs)
    (xs : List A) (i : ℕ) (all : List B) where
  -- one piece more was written
  pub one_more : (x : A) (so_far longer : List B) → i < length xs → x ≡ get_or xs i x → so_far ++ text (drop i xs) ≡ all → longer ≡ so_far ++ piece x
      → longer ++ text (drop (i + 1) xs) ≡ all
  one_more x so_far longer within is kept put =
      let left : text (drop i xs) ≡ text (x ∷ drop (i + 1) xs) = at_drop_more text xs i x within ∙ ap (λ y. text (y ∷ drop (i + 1) xs)) (sym is) in
      ap (λ t. t ++ text (drop (i + 1) xs)) put ∙ append_assoc so_far (piece x) (text (drop (i + 1) xs))
      ∙ ap (λ t. so_far ++ t) (sym (left ∙ each x (drop (i + 1) xs))) ∙ kept

  -- all were written
  pub all_written : (written : List B) → text [] ≡ [] → length xs ≤ i → written ++ text (drop i xs) ≡ all → written ≡ all
  all_written written none past kept =
      sym (append-nil written) ∙ ap (λ t. written ++ t) (sym (at_drop_all text xs i past ∙ none)) ∙ kept

module _ {A : Type 0} (separator : List ℕ) (texts : List A → List (List ℕ)) (piece : A → List ℕ) (each : (x : A) (xs : List A) → texts (x ∷ xs) ≡ piece x ∷ texts xs) where
  -- each behind a separator
  abbrev behind : List A → List ℕ
  behind xs = flat_map (λ y. separator ++ y) (texts xs)

  each_behind : (x : A) (xs : List A) → behind (x ∷ xs) ≡ (separator ++ piece x) ++ behind xs
  each_behind x xs = ap (flat_map (λ y. separator ++ y)) (each x xs)

  -- one more was written behind a separator
  pub one_more_behind : (xs : List A) (i : ℕ) (x : A) (so_far longer all : List ℕ) → i < length xs → x ≡ get_or xs i x
      → so_far ++ flat_map (λ y. separator ++ y) (texts (drop i xs)) ≡ all → longer ≡ so_far ++ (separator ++ piece x)
      → longer ++ flat_map (λ y. separator ++ y) (texts (drop (i + 1) xs)) ≡ all
  one_more_behind xs i x so_far longer all = one_more (λ y. separator ++ piece y) behind each_behind xs i all x so_far longer

  -- the first was written, and all others behind separators
  pub all_joined : (xs more : List A) (x : A) (i : ℕ) (before first written : List ℕ) → texts [] ≡ [] → xs ≡ x ∷ more → first ≡ before ++ piece x → length more ≤ i
      → written ++ flat_map (λ y. separator ++ y) (texts (drop i more)) ≡ first ++ flat_map (λ y. separator ++ y) (texts more)
      → written ≡ before ++ joined separator (texts xs)
  all_joined xs more x i before first written none cut put past kept =
      all_written (λ y. separator ++ piece y) behind each_behind more i (first ++ behind more) written (ap (flat_map (λ y. separator ++ y)) none) past kept
      ∙ ap (λ t. t ++ behind more) put ∙ append_assoc before (piece x) (behind more)
      ∙ ap (λ ts. before ++ joined separator ts) (sym (ap texts cut ∙ each x more))
