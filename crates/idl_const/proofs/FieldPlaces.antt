-- Fields by name.
use Rattle.std.proofs.Common.{◌≡◌, ℕ, zero, suc, ◌+◌, ◌≤◌, ◌<◌, Bool, true, false, cond, List, [], ◌∷◌, ◌++◌, map, length, get_or, take, slice_get, Option, Some, None, Bor, refl, sym, ap, ◌∙◌, arith, add-one, append_assoc, length-append}
use Rattle.std.proofs.Math.Seq.{take-suc}
use Rattle.std.proofs.lemmas.List.{length-take-le}
use Rattle.std.specs.Option.{option_map, option_or, option_and_then, option_copied}
use Rattle.std.specs.Slice.{IsItemAt}
use Rattle.std.specs.List.{find, position_from}
use Rattle.std.specs.Str.{bytes_eq}
use Rattle.schema.specs.declared.types.FieldDesc.{FieldDesc}
use Rattle.schema.specs.PlainSchema.{PlainField}
use Rattle.schema.specs.SchemaOf.{plain_field}
use Rattle.idl_names.specs.NameMaps.{NameMap, number_of_name, number_if, HasOneMore}
use Rattle.idl_names.proofs.Numbered.{position_one_more}

map_append : {A B : Type 0} (f : A → B) (xs ys : List A) → map f (xs ++ ys) ≡ map f xs ++ map f ys
map_append f [] ys = refl
map_append f (x ∷ xs) ys = ap (λ l. f x ∷ l) (map_append f xs ys)

map_length : {A B : Type 0} (f : A → B) (xs : List A) → length (map f xs) ≡ length xs
map_length f [] = refl
map_length f (x ∷ xs) = ap suc (map_length f xs)

-- one field more
pub noted_field : (fields : List FieldDesc) (n number : ℕ) (x : FieldDesc) (name : List ℕ) (old new : NameMap) → n < length fields → x ≡ get_or fields n x → number ≡ n → name ≡ (plain_field x).name
    → HasOneMore name number old new
    → ((other : List ℕ) → number_of_name old other ≡ position_from (λ (f : PlainField). bytes_eq f.name other) 0 (map plain_field (take n fields)))
    → (other : List ℕ) → number_of_name new other ≡ position_from (λ (f : PlainField). bytes_eq f.name other) 0 (map plain_field (take (n + 1) fields))
noted_field fields n number x name old new inside here counted named more so_far other =
    let test : PlainField → Bool = λ f. bytes_eq f.name other in
    let longer : map plain_field (take (n + 1) fields) ≡ map plain_field (take n fields) ++ plain_field x ∷ [] =
    ap (λ k. map plain_field (take k fields)) (add-one n) ∙ ap (map plain_field) (take-suc fields n x inside) ∙ ap (λ y. map plain_field (take n fields ++ y ∷ [])) (sym here)
    ∙ map_append plain_field (take n fields) (x ∷ []) in
    let place : number ≡ 0 + length (map plain_field (take n fields)) = omega (arith, counted, map_length plain_field (take n fields), length-take-le n fields (omega arith)) in
    more other
    ∙ ap (λ (o : Option ℕ). option_or o (number_if (bytes_eq name other) number)) (so_far other)
    ∙ ap (λ (t : List ℕ). option_or (position_from test 0 (map plain_field (take n fields))) (number_if (bytes_eq t other) number)) named
    ∙ ap (λ k. option_or (position_from test 0 (map plain_field (take n fields))) (number_if (test (plain_field x)) k)) place
    ∙ sym (position_one_more test 0 (map plain_field (take n fields)) (plain_field x))
    ∙ ap (position_from test 0) (sym longer)

there : (before : List PlainField) (x : PlainField) (xs : List PlainField) (i : ℕ) → length before ≡ i → slice_get (before ++ x ∷ xs) i ≡ Some x
there [] x xs zero size = refl
there [] x xs (suc i) size = absurd (omega (arith, size))
there (y ∷ before) x xs zero size = absurd (omega (arith, size))
there (y ∷ before) x xs (suc i) size = there before x xs i (omega (arith, size))

-- what is found stands at its place
found_by : (b : Bool) (test : PlainField → Bool) (x : PlainField) (xs : List PlainField) (i : ℕ) (before : List PlainField) → length before ≡ i
    → option_and_then (slice_get (before ++ x ∷ xs)) (position_from test (i + 1) xs) ≡ find test xs → option_and_then (slice_get (before ++ x ∷ xs)) (cond b (Some i) (position_from test (i + 1) xs)) ≡ cond b (Some x) (find test xs)
found_by true test x xs i before size rest = there before x xs i size
found_by false test x xs i before size rest = rest

find_at : (test : PlainField → Bool) (before xs : List PlainField) (i : ℕ) → length before ≡ i → option_and_then (slice_get (before ++ xs)) (position_from test i xs) ≡ find test xs
find_at test before [] i size = refl
find_at test before (x ∷ xs) i size =
    let longer : length (before ++ x ∷ []) ≡ i + 1 = omega (arith, length-append before (x ∷ []), size) in
    found_by (test x) test x xs i before size
    (ap (λ l. option_and_then (slice_get l) (position_from test (i + 1) xs)) (sym (append_assoc before (x ∷ []) xs)) ∙ find_at test (before ++ x ∷ []) xs (i + 1) longer)

get_mapped : {A B : Type 0} (f : A → B) (xs : List A) (i : ℕ) → slice_get (map f xs) i ≡ option_map f (slice_get xs i)
get_mapped f [] i = refl
get_mapped f (x ∷ xs) zero = refl
get_mapped f (x ∷ xs) (suc i) = get_mapped f xs i

there_get : {A : Type 0} (xs : List A) (i : ℕ) (d : A) → i < length xs → slice_get xs i ≡ Some (get_or xs i d)
there_get [] i d inside = absurd (omega (arith, inside))
there_get (x ∷ xs) zero d inside = refl
there_get (x ∷ xs) (suc i) d inside = there_get xs i d (omega (arith, inside))

none_get : {A : Type 0} (xs : List A) (i : ℕ) → length xs ≤ i → slice_get xs i ≡ None
none_get [] i past = refl
none_get (x ∷ xs) zero past = absurd (omega (arith, past))
none_get (x ∷ xs) (suc i) past = none_get xs i (omega (arith, past))

-- what `get` answers
pub got : {A : Type 0} (xs : List A) (i : ℕ) (r : Option (Bor A)) → IsItemAt xs i r → option_copied r ≡ slice_get xs i
got xs i None h = sym (none_get xs i h.3)
got xs i (Some x) h = sym (there_get xs i x.now h.3.0 ∙ ap Some (sym h.1))

module _ (fields : List FieldDesc) (name : List ℕ) where
  abbrev is_named : PlainField → Bool
  is_named f = bytes_eq f.name name

  pub some_field : (place : ℕ) (c : Option FieldDesc) → c ≡ slice_get fields place → Some place ≡ position_from is_named 0 (map plain_field fields)
      → option_map plain_field c ≡ find is_named (map plain_field fields)
  some_field place c is at =
      ap (option_map plain_field) is ∙ sym (get_mapped plain_field fields place)
      ∙ ap (λ o. option_and_then (slice_get (map plain_field fields)) o) at ∙ find_at is_named [] (map plain_field fields) 0 refl

  pub no_field : None ≡ position_from is_named 0 (map plain_field fields) → None ≡ find is_named (map plain_field fields)
  no_field none = ap (λ o. option_and_then (slice_get (map plain_field fields)) o) none ∙ find_at is_named [] (map plain_field fields) 0 refl
