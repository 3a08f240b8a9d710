-- The place of an id among fields whose ids rise.
use Rattle.std.proofs.Common.{◌≡◌, ℕ, zero, suc, ◌+◌, ◌<◌, ℤ, ⊎_elim, Bool, true, false, cond, List, [], ◌∷◌, length, map, get_or, Option, Some, None, Equal, refl, sym, ap, subst, ◌∙◌, arith}
use Rattle.std.specs.Prelude.{◌<ℤ◌, ◌==◌, ◌&&◌, AllPairs}
use Rattle.std.specs.List.{HoldsAt}
use Rattle.std.specs.Ordering.{int_cmp, int_eq}
use Rattle.std.proofs.lemmas.Bool.Decides.{Decides-int_eq, eqb_tells}
use Rattle.std.proofs.lemmas.Bool.{cases_order}
use Rattle.std.proofs.lemmas.Int.{ints}
use Rattle.std.proofs.lemmas.List.{get_or-map, length-map}
use Rattle.std.proofs.lemmas.Map.Lookups.{exact_signed}
use Rattle.thrift_value.specs.Tree.{Tree}
use Rattle.schema.specs.declared.types.FieldDesc.{FieldDesc}
use Rattle.schema.specs.PlainSchema.{PlainField}
use Rattle.schema.specs.SchemaOf.{plain_field}
use Rattle.schema.specs.WrittenAs.{field_with_id}
use Rattle.struct_skew.specs.Fits.{fits_kind}
use Rattle.struct_skew.specs.Offers.{is_sent_for}
use Rattle.struct_skew.specs.Plan.{AllAt, is_place, IsPlaceOfId}
use Rattle.struct_skew.proofs.PlanLaws.{AllAt-then, AllAt-both}

-- what holds at each place
pub AllAt-by_place : {A : Type 0} (P : ℕ → A → Type 0) (n : ℕ) (xs : List A) → ((k : ℕ) (d : A) → k < length xs → P (n + k) (get_or xs k d)) → AllAt P n xs
AllAt-by_place P n [] f = tt
AllAt-by_place P n (x ∷ xs) f =
    (subst (λ q. P q x) (omega arith) (f zero x (omega arith)), AllAt-by_place P (n + 1) xs (λ k d low. subst (λ q. P q (get_or xs k d)) (omega arith) (f (suc k) d (omega arith))))

no_test : (b : Bool) → (b ≡ true → ⊥) → b ≡ false
no_test true never = absurd (never refl)
no_test false never = refl

-- another id
other_id : (x y : ℤ) → (x ≡ y → ⊥) → int_eq x y ≡ false
other_id x y other = no_test (int_eq x y) (λ h. other ((Decides-int_eq x y).0 h))

below_is_other : (x y : ℤ) → x <ℤ y → x ≡ y → ⊥
below_is_other x y low same = omega (arith, ints)

-- the field at a place has the id, so no other has
only_here : (id : ℤ) (fs : List PlainField) (p q : ℕ) (d : PlainField) → AllPairs (λ (f g : PlainField). f.id <ℤ g.id) fs
    → p < length fs → q < length fs → (get_or fs p d).id ≡ id → int_eq (get_or fs q d).id id ≡ (p == q)
only_here id fs p q d rising p_in q_in here =
    ⊎_elim
    (λ same. (Decides-int_eq (get_or fs q d).id id).1 (ap (λ k. (get_or fs k d).id) (sym same.1) ∙ here) ∙ sym same.0)
    (λ other.
    let unequal : (get_or fs q d).id ≡ id → ⊥ =
    ⊎_elim (λ same. λ e. other.1 same)
    (λ rest. ⊎_elim (λ low. λ e. below_is_other (get_or fs p d).id (get_or fs q d).id (rising p q d low q_in) (here ∙ sym e))
    (λ high. λ e. below_is_other (get_or fs q d).id (get_or fs p d).id (rising q p d high p_in) (e ∙ sym here)) rest)
    (cases_order p q) in
    other_id (get_or fs q d).id id unequal ∙ sym other.0)
    (eqb_tells p q)

found_place : (id : ℤ) (fs : List FieldDesc) (p : ℕ) → AllPairs (λ (f g : PlainField). f.id <ℤ g.id) (map plain_field fs) → p < length fs
    → ((d : FieldDesc) → (get_or fs p d).id ≡ id) → IsPlaceOfId id (map plain_field fs) (Some p)
found_place id [] p rising within here = absurd (omega arith)
found_place id (f ∷ fs) p rising within here =
    let all : length (map plain_field (f ∷ fs)) ≡ length (f ∷ fs) = length-map (f ∷ fs) plain_field in record {
      own = AllAt-by_place (λ q g. int_eq g.id id ≡ (p == q)) 0 (map plain_field (f ∷ fs)) (λ k d low.
          subst (λ q. int_eq (get_or (map plain_field (f ∷ fs)) k d).id id ≡ (p == q)) (omega arith)
          (only_here id (map plain_field (f ∷ fs)) p k d rising (omega (arith, all)) low
          (ap (λ (g : PlainField). g.id) (get_or-map plain_field (f ∷ fs) p f d within) ∙ here f)));
      within = omega (arith, all);
    }

-- a binary search for a key ended at a field
pub place_found : (id key : ℤ) → key ≡ id → (fs : List FieldDesc) (p : ℕ) → AllPairs (λ (f g : PlainField). f.id <ℤ g.id) (map plain_field fs)
    → HoldsAt (λ (y : FieldDesc). int_cmp y.id key ≡ Equal) fs p → p < length fs → IsPlaceOfId id (map plain_field fs) (Some p)
place_found id key is_key fs p rising equal within =
    found_place id fs p rising within (λ d. exact_signed (get_or fs p d).id key (equal d) ∙ is_key)

-- no field has the id
none_has : (id : ℤ) (n : ℕ) (fs : List PlainField) → field_with_id id fs ≡ None → AllAt (λ q f. int_eq f.id id ≡ false) n fs
none_has id n [] none = tt
none_has id n (f ∷ fs) none =
    let parts = tested (int_eq f.id id) (field_with_id id fs) none in (parts.0, none_has id (n + 1) fs parts.1)
  where
    tested : (b : Bool) (rest : Option PlainField) → cond b (Some f) rest ≡ None → (b ≡ false) × (rest ≡ None)
    tested true rest e = absurd cc
    tested false rest e = (refl, e)

pub place_missed : (id : ℤ) (fs : List PlainField) → field_with_id id fs ≡ None → IsPlaceOfId id fs None
place_missed id fs none = record { own = none_has id 0 fs none; within = tt }

-- where no declared field has the id, nothing is sent for one
pub nowhere_sent : (id : ℤ) (value : Tree) (fs : List PlainField) (place : Option ℕ) → place ≡ None → IsPlaceOfId id fs place
    → AllAt (λ q f. is_sent_for f id value ≡ false) 0 fs
nowhere_sent id value fs place none is =
    AllAt-then (λ q f. int_eq f.id id ≡ is_place place q) (λ q f. is_sent_for f id value ≡ false)
    (λ q f e. ap (λ b. b && fits_kind f.kind value) (e ∙ ap (λ o. is_place o q) none)) 0 fs is.own

-- the declared field at a place
at_own_place : (n : ℕ) (fs : List PlainField) (p : ℕ) (g : PlainField) → ((d : PlainField) → p < length fs → get_or fs p d ≡ g)
    → AllAt (λ q f. (n + p ≡ q → f ≡ g)) n fs
at_own_place n fs p g at =
    AllAt-by_place (λ q f. (n + p ≡ q → f ≡ g)) n fs (λ k d low e.
    let same : k ≡ p = omega (arith, e) in ap (λ j. get_or fs j d) same ∙ at d (subst (λ j. j < length fs) same low))

-- the declared field at the place of the id takes the value, or doesn't
pub sent_here : (id : ℤ) (value : Tree) (fs : List PlainField) (p : ℕ) (g : PlainField) → IsPlaceOfId id fs (Some p) → ((d : PlainField) → p < length fs → get_or fs p d ≡ g)
    → AllAt (λ q f. is_sent_for f id value ≡ ((p == q) && fits_kind g.kind value)) 0 fs
sent_here id value fs p g is at =
    AllAt-both (λ q f. int_eq f.id id ≡ (p == q)) (λ q f. (0 + p ≡ q → f ≡ g)) (λ q f. is_sent_for f id value ≡ ((p == q) && fits_kind g.kind value))
    (λ q f own same. ⊎_elim
    (λ yes-it. ap (λ b. b && fits_kind f.kind value) own ∙ ap (λ (h : PlainField). (p == q) && fits_kind h.kind value) (same (omega (arith, yes-it.1))))
    (λ other. ap (λ b. b && fits_kind f.kind value) (own ∙ other.0) ∙ sym (ap (λ b. b && fits_kind g.kind value) other.0))
    (eqb_tells p q))
    0 fs is.own (at_own_place 0 fs p g at)

module _ (id : ℤ) (value : Tree) (ds : List FieldDesc) (p : ℕ) (g : FieldDesc) (is : IsPlaceOfId id (map plain_field ds) (Some p)) (at : g ≡ get_or ds p g) where
  at_place : (d : PlainField) → p < length (map plain_field ds) → get_or (map plain_field ds) p d ≡ plain_field g
  at_place d low = get_or-map plain_field ds p g d (omega (arith, length-map ds plain_field)) ∙ ap plain_field (sym at)

  -- where the value doesn't fit the type at the id's place, it is sent for no field
  pub sent_misfit : fits_kind (plain_field (get_or ds p g)).kind value ≡ false → AllAt (λ q f. is_sent_for f id value ≡ false) 0 (map plain_field ds)
  sent_misfit misfit =
      AllAt-then (λ q f. is_sent_for f id value ≡ ((p == q) && fits_kind (plain_field g).kind value)) (λ q f. is_sent_for f id value ≡ false)
      (λ q f e. e ∙ ap (λ b. (p == q) && b) (ap (λ (x : FieldDesc). fits_kind (plain_field x).kind value) at ∙ misfit) ∙ and_false (p == q)) 0 (map plain_field ds) (sent_here id value (map plain_field ds) p (plain_field g) is at_place)
    where
      and_false : (b : Bool) → (b && false) ≡ false
      and_false true = refl
      and_false false = refl

  -- where it fits, it is sent for the field there
  pub sent_fits : fits_kind (plain_field (get_or ds p g)).kind value ≡ true → AllAt (λ q f. is_sent_for f id value ≡ (p == q)) 0 (map plain_field ds)
  sent_fits fits =
      AllAt-then (λ q f. is_sent_for f id value ≡ ((p == q) && fits_kind (plain_field g).kind value)) (λ q f. is_sent_for f id value ≡ (p == q))
      (λ q f e. e ∙ ap (λ b. (p == q) && b) (ap (λ (x : FieldDesc). fits_kind (plain_field x).kind value) at ∙ fits) ∙ and_true (p == q)) 0 (map plain_field ds) (sent_here id value (map plain_field ds) p (plain_field g) is at_place)
    where
      and_true : (b : Bool) → (b && true) ≡ b
      and_true true = refl
      and_true false = refl
