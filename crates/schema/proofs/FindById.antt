-- The field with an id among fields whose ids rise.
use Rattle.std.proofs.Common.{◌≡◌, ℕ, zero, suc, ◌+◌, ◌<◌, ◌≤◌, ℤ, Bool, true, false, cond, List, [], ◌∷◌, length, map, get_or, Option, Some, None, Ordering, Less, Equal, Greater, refl, sym, ap, subst, ◌∙◌, ⊎_elim, arith}
use Rattle.std.specs.Prelude.{◌<ℤ◌, AllPairs}
use Rattle.std.specs.List.{slice_get, HoldsAt}
use Rattle.std.specs.Option.{option_map}
use Rattle.std.specs.List.Sorted.{IsNonDecreasingBy, IsPartitionPoint}
use Rattle.std.specs.Ordering.{int_cmp, int_eq, is_lt, ordering_index}
use Rattle.std.specs.Cmp.{int_cmp_is}
use Rattle.std.proofs.lemmas.Bool.Decides.{Decides-int_eq}
use Rattle.std.proofs.lemmas.Cmp.{int_cmp_total}
use Rattle.std.proofs.lemmas.Bool.{cases_order}
use Rattle.std.proofs.lemmas.Int.{ints}
use Rattle.std.proofs.lemmas.List.{get_or-map, length-map}
use Rattle.std.proofs.lemmas.List.Sorted.{searchable_from_sorted}
use Rattle.std.proofs.lemmas.Map.Lookups.{exact_signed}
use Rattle.std.proofs.lemmas.Option.{none-some, same_Some, get_or_from_slice_get, slice_get_within, slice_get-get_or}
use Rattle.schema.specs.declared.types.FieldDesc.{FieldDesc}
use Rattle.schema.specs.PlainSchema.{PlainField}
use Rattle.schema.specs.SchemaOf.{plain_field}
use Rattle.schema.specs.WrittenAs.{field_with_id}

-- what holds of the ids of plain fields holds of those in memory
rising_ids : (fs : List FieldDesc) → AllPairs (λ (f g : PlainField). f.id <ℤ g.id) (map plain_field fs) → AllPairs (λ (f g : FieldDesc). f.id <ℤ g.id) fs
rising_ids fs rising i j d low within =
    let at_i = get_or-map plain_field fs i d (plain_field d) (omega arith) in
    let at_j = get_or-map plain_field fs j d (plain_field d) within in
    subst (λ (f : PlainField). f.id <ℤ (get_or fs j d).id) at_i
    (subst (λ (g : PlainField). (get_or (map plain_field fs) i (plain_field d)).id <ℤ g.id) at_j
    (rising i j (plain_field d) low (omega (arith, length-map fs plain_field))))

no_test : (b : Bool) → (b ≡ true → ⊥) → b ≡ false
no_test b never = elim b as (λ v. (v ≡ true → ⊥) → v ≡ false) [ true ↦ (λ fails. absurd (fails refl)) | false ↦ (λ fails. refl) ] never

-- another id
other_id : (x y : ℤ) → (x ≡ y → ⊥) → int_eq x y ≡ false
other_id x y other = no_test (int_eq x y) (λ h. other ((Decides-int_eq x y).0 h))

below_is_other : (x y : ℤ) → x <ℤ y → x ≡ y → ⊥
below_is_other x y low same = omega (arith, ints)

-- the field at a place, by its id
found_at : (id : ℤ) (fs : List FieldDesc) (i : ℕ) (x : FieldDesc) → AllPairs (λ (f g : FieldDesc). f.id <ℤ g.id) fs
    → slice_get fs i ≡ Some x → x.id ≡ id → field_with_id id (map plain_field fs) ≡ Some (plain_field x)
found_at id [] i x rising at is = absurd (none-some x at)
found_at id (f ∷ fs) zero x rising at is =
    let same = same_Some f x at in
    let test : int_eq f.id id ≡ true = (Decides-int_eq f.id id).1 (ap (λ (g : FieldDesc). g.id) same ∙ is) in
    ap (λ b. cond b (Some (plain_field f)) (field_with_id id (map plain_field fs))) test ∙ ap (λ g. Some (plain_field g)) same
found_at id (f ∷ fs) (suc i) x rising at is =
    let within : i < length fs = slice_get_within fs i x at in
    let low : f.id <ℤ (get_or fs i x).id = rising zero (suc i) x (omega arith) (omega arith) in
    let low_x : f.id <ℤ x.id = subst (λ (g : FieldDesc). f.id <ℤ g.id) (get_or_from_slice_get fs i x x at) low in
    let test : int_eq f.id id ≡ false = other_id f.id id (λ same. below_is_other f.id x.id low_x (same ∙ sym is)) in
    ap (λ b. cond b (Some (plain_field f)) (field_with_id id (map plain_field fs))) test
    ∙ found_at id fs i x (λ j k d p q. rising (suc j) (suc k) d (omega arith) (omega arith)) at is

-- no field, where each has another id
not_found : (id : ℤ) (fs : List FieldDesc) → ((k : ℕ) (d : FieldDesc) → k < length fs → (get_or fs k d).id ≡ id → ⊥)
    → field_with_id id (map plain_field fs) ≡ None
not_found id [] others = refl
not_found id (f ∷ fs) others =
    let test : int_eq f.id id ≡ false = other_id f.id id (others zero f (omega arith)) in
    ap (λ b. cond b (Some (plain_field f)) (field_with_id id (map plain_field fs))) test
    ∙ not_found id fs (λ k d p. others (suc k) d (omega arith))

-- what a list has at a place within it
something : (fs : List FieldDesc) (i : ℕ) → i < length fs → None ≡ slice_get fs i → ⊥
something [] i within at = omega arith
something (f ∷ fs) i within at = none-some (get_or (f ∷ fs) i f) (at ∙ slice_get-get_or (f ∷ fs) i f within)

-- a binary search for a key ended at a field
pub search_found : (id key : ℤ) → key ≡ id → (fs : List FieldDesc) (i : ℕ) (o : Option FieldDesc) → AllPairs (λ (f g : PlainField). f.id <ℤ g.id) (map plain_field fs)
    → HoldsAt (λ (y : FieldDesc). int_cmp y.id key ≡ Equal) fs i → i < length fs → o ≡ slice_get fs i → option_map plain_field o ≡ field_with_id id (map plain_field fs)
search_found id key is_key fs i None rising equal within at = absurd (something fs i within at)
search_found id key is_key fs i (Some x) rising equal within at =
    let is : (get_or fs i x).id ≡ id = exact_signed (get_or fs i x).id key (equal x) ∙ is_key in
    sym (found_at id fs i x (rising_ids fs rising) (sym at) (subst (λ (g : FieldDesc). g.id ≡ id) (get_or_from_slice_get fs i x x (sym at)) is))

-- a comparison in a list of rising ids
rising_search : (id : ℤ) (fs : List FieldDesc) → AllPairs (λ (f g : FieldDesc). f.id <ℤ g.id) fs
    → IsNonDecreasingBy (λ (y : FieldDesc). ordering_index (int_cmp y.id id)) fs
rising_search id fs rising =
    searchable_from_sorted int_cmp_total (λ (f : FieldDesc). f.id) fs id
    (λ k d low within. ap is_lt (sym (int_cmp_is (get_or fs (k + 1) d).id (get_or fs k d).id Greater (rising k (k + 1) d (omega arith) within))))

less_not_equal : (r : Ordering) → r ≡ Less → Equal ≡ r → ⊥
less_not_equal r less equal = cc

greater_not_equal : (r : Ordering) → r ≡ Greater → Equal ≡ r → ⊥
greater_not_equal r greater equal = cc

-- a binary search for a key ended between two fields
pub search_missed : (id key : ℤ) → key ≡ id → (fs : List FieldDesc) (i : ℕ) → AllPairs (λ (f g : PlainField). f.id <ℤ g.id) (map plain_field fs)
    → (IsNonDecreasingBy (λ (y : FieldDesc). ordering_index (int_cmp y.id key)) fs
    → IsPartitionPoint (λ (y : FieldDesc). int_cmp y.id key ≡ Less) (λ (y : FieldDesc). int_cmp y.id key ≡ Greater) fs i)
    → field_with_id id (map plain_field fs) ≡ None
search_missed id key is_key fs i rising parted =
    let parts = parted (rising_search key fs (rising_ids fs rising)) in
    not_found id fs (λ k d within same.
    let equal : Equal ≡ int_cmp (get_or fs k d).id key = int_cmp_is (get_or fs k d).id key Equal (same ∙ sym is_key) in
    let at_least : i ≤ k → ⊥ = λ high. greater_not_equal (int_cmp (get_or fs k d).id key) (parts.1 k d high within) equal in
    ⊎_elim (λ here. at_least (omega (arith, here)))
    (λ side. ⊎_elim (λ low. less_not_equal (int_cmp (get_or fs k d).id key) (parts.0 k d (omega arith) low) equal) (λ high. at_least (omega (arith, high))) side)
    (cases_order k i))
