-- Fields whose ids rise from one to the next.
use Rattle.std.proofs.Common.{◌≤◌, ◌<◌, ◌+◌, ℕ, zero, suc, List, [], ◌∷◌, map, length, get_or, subst, arith, add-one}
use Rattle.std.specs.Prelude.{◌<ℤ◌}
use Rattle.std.proofs.lemmas.Int.{ints}
use Rattle.std.proofs.lemmas.List.Kept.{AllPairs-cons}
use Rattle.schema.specs.declared.types.FieldDesc.{FieldDesc}
use Rattle.schema.specs.PlainSchema.{PlainField}
use Rattle.schema.specs.SchemaOf.{plain_field}
use Rattle.const_evaluator.specs.StructTables.{HaveRisingIds}

-- the ids of so many fields rise from one to the next
abbrev pub RiseBelow : List FieldDesc → ℕ → Type 0
RiseBelow fields n = (k : ℕ) (d : FieldDesc) → k + 1 < n → k + 1 < length fields → (get_or fields k d).id <ℤ (get_or fields (k + 1) d).id

abbrev RiseAll : List FieldDesc → Type 0
RiseAll fields = (k : ℕ) (d : FieldDesc) → suc k < length fields → (get_or fields k d).id <ℤ (get_or fields (suc k) d).id

behind : (f : FieldDesc) (fs : List FieldDesc) → RiseAll (f ∷ fs) → RiseAll fs
behind f fs h k d inside = h (suc k) d (omega (arith, inside))

below : (f : FieldDesc) (fs : List FieldDesc) → RiseAll (f ∷ fs) → (k : ℕ) (d : PlainField) → k < length (map plain_field fs) → f.id <ℤ (get_or (map plain_field fs) k d).id
below f [] h k d inside = absurd (omega (arith, inside))
below f (g ∷ fs) h zero d inside = h zero f (omega arith)
below f (g ∷ fs) h (suc k) d inside =
    let first : f.id <ℤ g.id = h zero f (omega arith) in
    let rest : g.id <ℤ (get_or (map plain_field fs) k d).id = below g fs (behind f (g ∷ fs) h) k d (omega (arith, inside)) in
    omega (arith, ints, first, rest)

rise_all : (fs : List FieldDesc) → RiseAll fs → HaveRisingIds (map plain_field fs)
rise_all [] h = λ i j d low inside. absurd (omega (arith, low, inside))
rise_all (f ∷ fs) h =
    AllPairs-cons (λ (x y : PlainField). x.id <ℤ y.id) (plain_field f) (map plain_field fs) (below f fs h) (rise_all fs (behind f fs h))

pub all_rise : (fs : List FieldDesc) (n : ℕ) → length fs ≤ n → RiseBelow fs n → HaveRisingIds (map plain_field fs)
all_rise fs n past h = rise_all fs (λ k d inside. subst (λ m. (get_or fs k d).id <ℤ (get_or fs m d).id) (add-one k) (h k d (omega (arith, past, inside)) (omega (arith, inside))))
