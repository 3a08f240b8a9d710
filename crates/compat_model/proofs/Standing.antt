-- Which items stand in a list.
use Rattle.std.proofs.Common.{◌≡◌, inl, inr, ℕ, ℤ, zero, suc, ◌<◌, Bool, true, false, cond, List, [], ◌∷◌, ◌++◌, length, map, get_or, Option, Some, None, refl, sym, ap, subst, ◌∙◌, arith}
use Rattle.std.specs.Prelude.{◌⊎◌, Contains, flat_map}
use Rattle.std.specs.Option.{option_or}
use Rattle.std.specs.Ordering.{int_eq}
use Rattle.schema.specs.PlainSchema.{PlainField}
use Rattle.schema.specs.WrittenAs.{field_with_id}
use Rattle.struct_skew.proofs.Each.{Each}
use Rattle.compat_model.specs.InOrder.{first_answer}
use Rattle.compat_model.proofs.FoundIn.{same_some}

-- an item stands in a list
abbrev pub StandsIn : {A : Type 0} → A → List A → Type 0
StandsIn x [] = ⊥
StandsIn x (y ∷ ys) = (y ≡ x) ⊎ StandsIn x ys

pub stands : {A : Type 0} (xs : List A) (x : A) → Contains xs x → StandsIn x xs
stands [] x held = absurd (omega (arith, held.1))
stands (y ∷ ys) x held = at held.0 held.1 held.2 (λ k low is. stands ys x (k, low, is))
  where
    at : (k : ℕ) → k < length (y ∷ ys) → get_or (y ∷ ys) k x ≡ x → ((j : ℕ) → j < length ys → get_or ys j x ≡ x → StandsIn x ys) → (y ≡ x) ⊎ StandsIn x ys
    at zero low is rest = inl is
    at (suc j) low is rest = inr (rest j (omega arith) is)

pub stands_left : {A : Type 0} (x : A) (xs ys : List A) → StandsIn x xs → StandsIn x (xs ++ ys)
stands_left x [] ys held = absurd held
stands_left x (y ∷ more) ys (inl is) = inl is
stands_left x (y ∷ more) ys (inr behind) = inr (stands_left x more ys behind)

pub stands_right : {A : Type 0} (x : A) (xs ys : List A) → StandsIn x ys → StandsIn x (xs ++ ys)
stands_right x [] ys held = held
stands_right x (y ∷ more) ys held = inr (stands_right x more ys held)

pub stands_flat : {A B : Type 0} (f : A → List B) (xs : List A) (x : A) (y : B) → StandsIn x xs → StandsIn y (f x) → StandsIn y (flat_map f xs)
stands_flat f [] x y held of_it = absurd held
stands_flat f (z ∷ zs) x y (inl is) of_it = stands_left y (f z) (flat_map f zs) (subst (λ w. StandsIn y (f w)) (sym is) of_it)
stands_flat f (z ∷ zs) x y (inr behind) of_it = stands_right y (f z) (flat_map f zs) (stands_flat f zs x y behind of_it)

pub stands_mapped : {A B : Type 0} (f : A → B) (xs : List A) (x : A) → StandsIn x xs → StandsIn (f x) (map f xs)
stands_mapped f [] x held = absurd held
stands_mapped f (z ∷ zs) x (inl is) = inl (ap f is)
stands_mapped f (z ∷ zs) x (inr behind) = inr (stands_mapped f zs x behind)

-- what holds of whatever stands in a list holds of each
pub each_standing : {A : Type 0} (Q : A → Type 0) (xs : List A) → ((x : A) → StandsIn x xs → Q x) → Each Q xs
each_standing Q [] all = tt
each_standing Q (x ∷ xs) all = (all x (inl refl), each_standing Q xs (λ y behind. all y (inr behind)))

-- parts of what is none
pub both_none : {A : Type 0} (o p : Option A) → option_or o p ≡ None → (o ≡ None) × (p ≡ None)
both_none None p e = (refl, e)
both_none (Some x) p e = absurd cc

-- where none has an answer, each has none
pub none_answers : {A B : Type 0} (f : A → Option B) (xs : List A) (x : A) → first_answer f xs ≡ None → StandsIn x xs → f x ≡ None
none_answers f [] x none held = absurd held
none_answers f (y ∷ ys) x none (inl is) = ap f (sym is) ∙ (both_none (f y) (first_answer f ys) none).0
none_answers f (y ∷ ys) x none (inr behind) = none_answers f ys x (both_none (f y) (first_answer f ys) none).1 behind

-- a declared field that is found stands among the declared ones
pub found_stands : (id : ℤ) (fs : List PlainField) (f : PlainField) → field_with_id id fs ≡ Some f → StandsIn f fs
found_stands id [] f finds = absurd cc
found_stands id (g ∷ gs) f finds = by_test (int_eq g.id id) refl (found_stands id gs f)
  where
    by_test : (b : Bool) → int_eq g.id id ≡ b → (field_with_id id gs ≡ Some f → StandsIn f gs) → (g ≡ f) ⊎ StandsIn f gs
    by_test true on rest = inl (same_some g f (sym (ap (λ b. cond b (Some g) (field_with_id id gs)) on) ∙ finds))
    by_test false off rest = inr (rest (sym (ap (λ b. cond b (Some g) (field_with_id id gs)) off) ∙ finds))
