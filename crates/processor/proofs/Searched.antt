-- What a search through a table finds.
use Rattle.std.proofs.Common.{◌≡◌, ℕ, zero, suc, ◌+◌, ◌<◌, true, false, cond, List, [], ◌∷◌, ◌++◌, length, map, get_or, Option, Some, None, Ordering, Less, Equal, Greater, nat_cmp, is_eq, refl, sym, ap, subst, ◌∙◌, ⊎_elim, arith, unwrap_or}
use Rattle.std.specs.Prelude.{option_and_then, ◌==◌, ◌≢◌}
use Rattle.std.specs.List.{slice_get, find, HoldsAt}
use Rattle.std.specs.List.Sorted.{IsNonDecreasingBy, IsPartitionPoint}
use Rattle.std.specs.Option.{option_map}
use Rattle.std.specs.Ordering.{ordering_index}
use Rattle.std.specs.Str.{bytes_eq}
use Rattle.std.specs.Cmp.Lexicographic.{slice_cmp}
use Rattle.std.proofs.lemmas.Bool.{cases_lt, eqb-true, false_from_ne_true}
use Rattle.std.proofs.lemmas.Cmp.{nat_list_cmp_total}
use Rattle.std.proofs.lemmas.List.{get_or-map, length-map, map-append, length-append}
use Rattle.std.proofs.lemmas.List.Elements.{All-get_or}
use Rattle.std.proofs.lemmas.List.Folds.{Any-from_list_any}
use Rattle.std.proofs.lemmas.List.Sorted.{searchable_from_sorted}
use Rattle.std.proofs.lemmas.Map.Lookups.{exact_bytes}
use Rattle.std.proofs.lemmas.Map.Text.{is_eq-slice_cmp}
use Rattle.std.proofs.lemmas.Option.{none-some, same_Some, get_or_from_slice_get, slice_get_within, slice_get-get_or}
use Rattle.std.proofs.lemmas.Slice.Eq.{bytes_eq-Decides}
use Rattle.schema.specs.Inherited.{own_functions, functions_of, parent_of}
use Rattle.schema.specs.LookUp.{is_named}
use Rattle.schema.specs.PlainSchema.{PlainFunction, PlainService, PlainSchema}
use Rattle.schema.specs.Sound.{AreDifferent, IsSound}
use Rattle.schema.proofs.Lines.{functions_from, own_and_inherited}
use Rattle.processor.specs.Tables.{name_at_place, is_table}
use Rattle.processor.proofs.Tabled.{table_each, table_within, table_sorted}

abbrev names_of : List PlainFunction → List (List ℕ)
names_of functions = map (λ (f : PlainFunction). f.name) functions

-- a function whose name no function in front has is the one that is found
found_at : (name : List ℕ) (fs : List PlainFunction) (i : ℕ) (f : PlainFunction) → AreDifferent (names_of fs) → slice_get fs i ≡ Some f → f.name ≡ name
    → find (is_named name) fs ≡ Some f
found_at name [] i f different at is = absurd (none-some f at)
found_at name (g ∷ gs) zero f different at is =
    let same : g ≡ f = same_Some g f at in
    let test : bytes_eq g.name name ≡ true = (bytes_eq-Decides g.name name).1 (ap (λ (h : PlainFunction). h.name) same ∙ is) in
    ap (λ b. cond b (Some g) (find (is_named name) gs)) test ∙ ap (λ h. Some h) same
found_at name (g ∷ gs) (suc i) f different at is =
    let within : i < length gs = slice_get_within gs i f at in
    let long : length (names_of gs) ≡ length gs = length-map gs (λ (h : PlainFunction). h.name) in
    let there : get_or (names_of gs) i name ≡ f.name =
    get_or-map (λ (h : PlainFunction). h.name) gs i f name within ∙ ap (λ (h : PlainFunction). h.name) (get_or_from_slice_get gs i f f at) in
    let other : g.name ≢ get_or (names_of gs) i name = different zero (suc i) name (omega arith) (omega (arith, long, within)) in
    let test : bytes_eq g.name name ≡ false =
    false_from_ne_true (bytes_eq g.name name) (λ t. other ((bytes_eq-Decides g.name name).0 t ∙ sym is ∙ sym there)) in
    ap (λ b. cond b (Some g) (find (is_named name) gs)) test
    ∙ found_at name gs i f (λ j k d p q. different (suc j) (suc k) d (omega (arith, p)) (omega (arith, q))) at is

-- no function, where each has another name
not_found : (name : List ℕ) (fs : List PlainFunction) → ((k : ℕ) (d : PlainFunction) → k < length fs → (get_or fs k d).name ≡ name → ⊥)
    → find (is_named name) fs ≡ None
not_found name [] others = refl
not_found name (f ∷ fs) others =
    let test : bytes_eq f.name name ≡ false = false_from_ne_true (bytes_eq f.name name) (λ t. others zero f (omega arith) ((bytes_eq-Decides f.name name).0 t)) in
    ap (λ b. cond b (Some f) (find (is_named name) fs)) test
    ∙ not_found name fs (λ k d p. others (suc k) d (omega (arith, p)))

-- what a list has at a place within it
something : {A : Type 0} (xs : List A) (i : ℕ) → i < length xs → slice_get xs i ≡ None → ⊥
something [] i within at = absurd (omega (arith, within))
something (x ∷ xs) i within at = none-some (get_or (x ∷ xs) i x) (sym at ∙ slice_get-get_or (x ∷ xs) i x within)

same_texts : (xs ys : List ℕ) → xs ≡ ys → slice_cmp nat_cmp xs ys ≡ Equal
same_texts xs ys same = is_equal (slice_cmp nat_cmp xs ys) (is_eq-slice_cmp xs ys ∙ (bytes_eq-Decides xs ys).1 same)
  where
    is_equal : (o : Ordering) → is_eq o ≡ true → o ≡ Equal
    is_equal Less h = absurd cc
    is_equal Equal h = refl
    is_equal Greater h = absurd cc

module _ (name : List ℕ) (fs : List PlainFunction) (places : List ℕ) (i : ℕ) (is : is_table fs places ≡ true) where
  -- a search ended at a place with the name
  pub search_found : AreDifferent (names_of fs) → i < length places → HoldsAt (λ place. slice_cmp nat_cmp (name_at_place fs place) name ≡ Equal) places i
      → option_and_then (slice_get fs) (slice_get places i) ≡ find (is_named name) fs
  search_found different within equal =
      let low : get_or places i 0 < length fs = All-get_or (λ place. place < length fs) places i 0 within (table_within fs places is) in
      ap (option_and_then (slice_get fs)) (slice_get-get_or places i 0 within)
      ∙ either (slice_get fs (get_or places i 0)) refl low (exact_bytes (name_at_place fs (get_or places i 0)) name (equal 0))
    where
      either : (o : Option PlainFunction) → slice_get fs (get_or places i 0) ≡ o → get_or places i 0 < length fs
          → name_at_place fs (get_or places i 0) ≡ name → slice_get fs (get_or places i 0) ≡ find (is_named name) fs
      either None e low same = absurd (something fs (get_or places i 0) low e)
      either (Some f) e low same =
          let own : f.name ≡ name = sym (ap (λ o. unwrap_or (option_map (λ (g : PlainFunction). g.name) o) []) e) ∙ same in
          e ∙ sym (found_at name fs (get_or places i 0) f different e own)

  -- a search ended between two places
  pub search_missed : (IsNonDecreasingBy (λ place. ordering_index (slice_cmp nat_cmp (name_at_place fs place) name)) places
      → IsPartitionPoint (λ place. slice_cmp nat_cmp (name_at_place fs place) name ≡ Less) (λ place. slice_cmp nat_cmp (name_at_place fs place) name ≡ Greater) places i)
      → find (is_named name) fs ≡ None
  search_missed parted =
      let sides = parted (searchable_from_sorted nat_list_cmp_total (name_at_place fs) places name (table_sorted fs places is)) in
      not_found name fs (λ k d low same.
      let there = Any-from_list_any (λ place. place == k) places (table_each fs places is k low) in
      let place : get_or places there.0 there.1 ≡ k = there.3 ∙ eqb-true there.1 k there.4 in
      let own : name_at_place fs k ≡ name = ap (λ o. unwrap_or (option_map (λ (g : PlainFunction). g.name) o) []) (slice_get-get_or fs k d low) ∙ same in
      let equal : slice_cmp nat_cmp (name_at_place fs (get_or places there.0 there.1)) name ≡ Equal =
      ap (λ p. slice_cmp nat_cmp (name_at_place fs p) name) place ∙ same_texts (name_at_place fs k) name own in
      ⊎_elim (λ below. not_less (slice_cmp nat_cmp (name_at_place fs (get_or places there.0 there.1)) name) equal (sides.0 there.0 there.1 (omega arith) below))
      (λ above. not_greater (slice_cmp nat_cmp (name_at_place fs (get_or places there.0 there.1)) name) equal (sides.1 there.0 there.1 above there.2))
      (cases_lt there.0 i))
    where
      not_less : (o : Ordering) → o ≡ Equal → o ≡ Less → ⊥
      not_less o equal less = cc

      not_greater : (o : Ordering) → o ≡ Equal → o ≡ Greater → ⊥
      not_greater o equal greater = cc

-- items in front of others are different where all are
different_in_front : (xs ys : List (List ℕ)) → AreDifferent (xs ++ ys) → AreDifferent xs
different_in_front xs ys different i j d low within =
    let long : length (xs ++ ys) ≡ length xs + length ys = length-append xs ys in
    let at_i : get_or (xs ++ ys) i d ≡ get_or xs i d = in_front xs ys i d (omega (arith, low, within)) in
    let at_j : get_or (xs ++ ys) j d ≡ get_or xs j d = in_front xs ys j d within in
    λ same. different i j d low (omega (arith, long, within)) (at_i ∙ same ∙ sym at_j)
  where
    in_front : (xs ys : List (List ℕ)) (k : ℕ) (d : List ℕ) → k < length xs → get_or (xs ++ ys) k d ≡ get_or xs k d
    in_front [] ys k d within = absurd (omega (arith, within))
    in_front (x ∷ xs) ys zero d within = refl
    in_front (x ∷ xs) ys (suc k) d within = in_front xs ys k d (omega (arith, within))

-- a service's own functions have different names
pub own_different : (s : PlainSchema) → IsSound s → (which : ℕ) → AreDifferent (names_of (own_functions s.services which))
own_different s sound which = either (slice_get s.services which) refl
  where
    more : (n : ℕ) → length s.services ≡ suc n → which < length s.services → AreDifferent (names_of (own_functions s.services which))
    more n count within =
        let all : AreDifferent (names_of (functions_of s.services which)) = sound.all_else.functions which within in
        let parts : names_of (functions_of s.services which) ≡ names_of (own_functions s.services which) ++ names_of (functions_from n s.services (parent_of s.services which)) =
        ap (λ m. names_of (functions_from m s.services (Some which))) count ∙ ap names_of (own_and_inherited n s.services which)
        ∙ map-append (λ (f : PlainFunction). f.name) (own_functions s.services which) (functions_from n s.services (parent_of s.services which)) in
        different_in_front (names_of (own_functions s.services which)) (names_of (functions_from n s.services (parent_of s.services which))) (subst AreDifferent parts all)

    counted : (n : ℕ) → length s.services ≡ n → which < length s.services → AreDifferent (names_of (own_functions s.services which))
    counted zero count within = absurd (omega (arith, count, within))
    counted (suc n) count within = more n count within

    either : (o : Option PlainService) → slice_get s.services which ≡ o → AreDifferent (names_of (own_functions s.services which))
    either None e = subst (λ o. AreDifferent (names_of (unwrap_or (option_map (λ (v : PlainService). v.functions) o) []))) (sym e) (λ i j d low within. absurd (omega (arith, within)))
    either (Some v) e = counted (length s.services) refl (slice_get_within s.services which v e)
