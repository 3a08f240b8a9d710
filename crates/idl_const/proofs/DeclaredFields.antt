-- Fields that a struct declares, found again by their ids.
use Rattle.std.proofs.Common.{◌≡◌, ℕ, zero, suc, ℤ, ◌<◌, ◌<ℤ◌, ◌⊎◌, inl, inr, Bool, true, false, cond, List, [], ◌∷◌, length, get_or, Option, Some, refl, sym, ap, ◌∙◌, subst, arith}
use Rattle.std.specs.Prelude.{⊤, AllPairs}
use Rattle.std.specs.List.{find, AllByRecursion}
use Rattle.std.specs.Ordering.{int_eq}
use Rattle.std.proofs.lemmas.Int.{ints}
use Rattle.std.proofs.lemmas.Bool.Decides.{Decides-int_eq}
use Rattle.schema.specs.PlainSchema.{PlainField, PlainSchema}
use Rattle.schema.specs.WrittenAs.{field_with_id}
use Rattle.schema.specs.Sound.{IsKindIn}

-- the field is one of some
abbrev pub IsAmong : PlainField → List PlainField → Type 0
IsAmong f [] = ⊥
IsAmong f (g ∷ more) = (f ≡ g) ⊎ IsAmong f more

-- an id is below those of some fields
abbrev pub IsBelowAll : ℤ → List PlainField → Type 0
IsBelowAll id [] = ⊤
IsBelowAll id (f ∷ more) = (id <ℤ f.id) × IsBelowAll id more

-- the ids rise
abbrev pub AreRising : List PlainField → Type 0
AreRising [] = ⊤
AreRising (f ∷ more) = IsBelowAll f.id more × AreRising more

below_from : (f : PlainField) (more : List PlainField) → ((k : ℕ) (d : PlainField) → k < length more → f.id <ℤ (get_or more k d).id) → IsBelowAll f.id more
below_from f [] h = tt
below_from f (g ∷ more) h = (h zero g (omega arith), below_from f more (λ k d inside. h (suc k) d (omega (arith, inside))))

pub rising_from : (fs : List PlainField) → AllPairs (λ (f g : PlainField). f.id <ℤ g.id) fs → AreRising fs
rising_from [] h = tt
rising_from (f ∷ more) h =
    (below_from f more (λ k d inside. h zero (suc k) d (omega arith) (omega (arith, inside))), rising_from more (λ i j d low high. h (suc i) (suc j) d (omega (arith, low)) (omega (arith, high))))

below_among : (id : ℤ) (fs : List PlainField) (f : PlainField) → IsBelowAll id fs → IsAmong f fs → id <ℤ f.id
below_among id [] f h m = elim m [ ]
below_among id (g ∷ more) f h (inl e) = subst (λ (g : PlainField). id <ℤ g.id) (sym e) h.0
below_among id (g ∷ more) f h (inr m) = below_among id more f h.1 m

pub same_id : (i : ℤ) → int_eq i i ≡ true
same_id i = (Decides-int_eq i i).1 refl

pub not_true : (b : Bool) → (b ≡ true → ⊥) → b ≡ false
not_true true h = absurd (h refl)
not_true false h = refl

pub other_id : (i j : ℤ) → i <ℤ j → int_eq i j ≡ false
other_id i j low = not_true (int_eq i j) (λ e. (let same = (Decides-int_eq i j).0 e in omega (arith, ints, same)))

-- a field is found by its id
pub found_again : (fs : List PlainField) (f : PlainField) → AreRising fs → IsAmong f fs → field_with_id f.id fs ≡ Some f
found_again [] f rising m = elim m [ ]
found_again (g ∷ more) f rising (inl e) =
    ap (λ b. cond b (Some g) (field_with_id f.id more)) (ap (λ (h : PlainField). int_eq g.id h.id) e ∙ same_id g.id) ∙ ap Some (sym e)
found_again (g ∷ more) f rising (inr m) =
    ap (λ b. cond b (Some g) (field_with_id f.id more)) (other_id g.id f.id (below_among g.id more f rising.0 m)) ∙ found_again more f rising.1 m

-- a field that a test finds is one of them
among_by : (b : Bool) (f g : PlainField) (more : List PlainField) (rest : Option PlainField) → (rest ≡ Some f → IsAmong f more) → cond b (Some g) rest ≡ Some f → (f ≡ g) ⊎ IsAmong f more
among_by true f g more rest on e = inl (cc)
among_by false f g more rest on e = inr (on e)

pub found_among : (p : PlainField → Bool) (fs : List PlainField) (f : PlainField) → find p fs ≡ Some f → IsAmong f fs
found_among p [] f e = cc
found_among p (g ∷ more) f e = among_by (p g) f g more (find p more) (found_among p more f) e

-- a field is found by its id, and its type names what is there
pub record IsDeclared (schema : PlainSchema) (items : List PlainField) (f : PlainField) : Type 0 where
  pub found : field_with_id f.id items ≡ Some f
  pub kind : IsKindIn schema f.kind

pub all_declared : (schema : PlainSchema) (items fs : List PlainField) → ((f : PlainField) → IsAmong f fs → IsDeclared schema items f) → AllByRecursion (IsDeclared schema items) fs
all_declared schema items [] h = tt
all_declared schema items (f ∷ more) h = (h f (inl refl), all_declared schema items more (λ g m. h g (inr m)))

pub each_among : (P : PlainField → Type 0) (fs : List PlainField) (f : PlainField) → AllByRecursion P fs → IsAmong f fs → P f
each_among P [] f h m = elim m [ ]
each_among P (g ∷ more) f h (inl e) = subst P (sym e) h.0
each_among P (g ∷ more) f h (inr m) = each_among P more f h.1 m
