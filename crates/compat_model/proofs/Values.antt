-- The values under ids.
use Rattle.std.proofs.Common.{◌≡◌, ℤ, ◌<ℤ◌, Bool, true, false, true≢false, cond, Some, None, refl, sym, ap, ◌∙◌, ⊎_elim, arith}
use Rattle.std.specs.Prelude.{⊤}
use Rattle.std.specs.Ordering.{int_eq}
use Rattle.std.proofs.lemmas.Bool.Decides.{Decides-int_eq}
use Rattle.std.proofs.lemmas.Int.{ints}
use Rattle.thrift_value.specs.Tidy.{IsBelowIds, AreRisingFields}
use Rattle.thrift_value.specs.Tree.{Tree, FieldTrees, no_fields, field}
use Rattle.schema.specs.WrittenAs.{HasFieldTree}
use Rattle.compat_model.specs.KeptValues.{value_under_id}

-- ids that are the same, and ids that aren't
pub same_id : (x y : ℤ) → int_eq x y ≡ true → x ≡ y
same_id x y e = (Decides-int_eq x y).0 e

pub other_id : (x y : ℤ) → (x ≡ y → ⊥) → int_eq x y ≡ false
other_id x y other = no_test (int_eq x y) (λ e. other (same_id x y e))
  where
    no_test : (b : Bool) → (b ≡ true → ⊥) → b ≡ false
    no_test true never = absurd (never refl)
    no_test false never = refl

pub id_itself : (x : ℤ) → int_eq x x ≡ true
id_itself x = (Decides-int_eq x x).1 refl

pub ids_turned : (x y : ℤ) (b : Bool) → int_eq x y ≡ b → int_eq y x ≡ b
ids_turned x y true e = (Decides-int_eq y x).1 (sym (same_id x y e))
ids_turned x y false e = other_id y x (λ same. true≢false (sym ((Decides-int_eq x y).1 (sym same)) ∙ e))

pub low_id : (x y : ℤ) → x <ℤ y → int_eq x y ≡ false
low_id x y low = other_id x y (λ same. omega (arith, ints, same))

pub high_id : (x y : ℤ) → y <ℤ x → int_eq x y ≡ false
high_id x y high = other_id x y (λ same. omega (arith, ints, same))

-- an id below all has no value
pub no_value : (id : ℤ) (fields : FieldTrees) → IsBelowIds id fields → value_under_id id fields ≡ None
no_value id no_fields below = refl
no_value id (field next value more) below =
    ap (λ b. cond b (Some value) (value_under_id id more)) (high_id next id below.0) ∙ no_value id more below.1

-- what is there has a value
pub has_value : (id : ℤ) (fields : FieldTrees) → HasFieldTree id fields → value_under_id id fields ≡ None → ⊥
has_value id no_fields there none = there
has_value id (field next value more) there none = by_test (int_eq next id) refl (has_value id more)
  where
    by_test : (b : Bool) → int_eq next id ≡ b → (HasFieldTree id more → value_under_id id more ≡ None → ⊥) → ⊥
    by_test true e rest = let some : Some value ≡ None = sym (ap (λ t. cond t (Some value) (value_under_id id more)) e) ∙ none in absurd cc
    by_test false e rest =
        let lacks : value_under_id id more ≡ None = sym (ap (λ t. cond t (Some value) (value_under_id id more)) e) ∙ none in
        ⊎_elim (λ same. true≢false (sym ((Decides-int_eq next id).1 same) ∙ e)) (λ behind. rest behind lacks) there

-- each of some fields stands among others
abbrev pub AreAmong : FieldTrees → FieldTrees → Type 0
AreAmong all no_fields = ⊤
AreAmong all (field id value more) = (value_under_id id all ≡ Some value) × AreAmong all more

among_more : (first : ℤ) (value : Tree) (all rest : FieldTrees) → IsBelowIds first rest → AreAmong all rest → AreAmong (field first value all) rest
among_more first value all no_fields below among = tt
among_more first value all (field id v more) below among =
    (ap (λ b. cond b (Some value) (value_under_id id all)) (low_id first id below.0) ∙ among.0, among_more first value all more below.1 among.1)

pub among_themselves : (fields : FieldTrees) → AreRisingFields fields → AreAmong fields fields
among_themselves no_fields rising = tt
among_themselves (field id value more) rising = (
  ap (λ b. cond b (Some value) (value_under_id id more)) (id_itself id),
  among_more id value more more rising.0 (among_themselves more rising.1),
)
