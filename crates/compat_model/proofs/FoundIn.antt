-- What holds of a declared field that was found.
use Rattle.std.proofs.Common.{◌≡◌, ℤ, Bool, true, false, cond, List, [], ◌∷◌, Some, None, refl, sym, ap, subst, ◌∙◌}
use Rattle.std.specs.Prelude.{find}
use Rattle.std.specs.Ordering.{int_eq}
use Rattle.schema.specs.PlainSchema.{PlainField}
use Rattle.schema.specs.WrittenAs.{field_with_id}
use Rattle.struct_skew.proofs.Each.{Each}
use Rattle.compat_model.proofs.Values.{same_id}

pub same_some : {A : Type 0} (x y : A) → Some x ≡ Some y → x ≡ y
same_some x y e = cc

-- what holds of each holds of the one that is found
pub each_at : (Q : PlainField → Type 0) (id : ℤ) (fs : List PlainField) (f : PlainField) → Each Q fs → field_with_id id fs ≡ Some f → Q f
each_at Q id [] f each finds = absurd cc
each_at Q id (g ∷ gs) f each finds = by_test (int_eq g.id id) refl (each_at Q id gs f each.1)
  where
    by_test : (b : Bool) → int_eq g.id id ≡ b → (field_with_id id gs ≡ Some f → Q f) → Q f
    by_test true on rest = subst Q (same_some g f (sym (ap (λ b. cond b (Some g) (field_with_id id gs)) on) ∙ finds)) each.0
    by_test false off rest = rest (sym (ap (λ b. cond b (Some g) (field_with_id id gs)) off) ∙ finds)

-- it has the id
pub declared_id : (id : ℤ) (fs : List PlainField) (f : PlainField) → field_with_id id fs ≡ Some f → f.id ≡ id
declared_id id [] f finds = absurd cc
declared_id id (g ∷ gs) f finds = by_test (int_eq g.id id) refl (declared_id id gs f)
  where
    by_test : (b : Bool) → int_eq g.id id ≡ b → (field_with_id id gs ≡ Some f → f.id ≡ id) → f.id ≡ id
    by_test true on rest =
        let same : g ≡ f = same_some g f (sym (ap (λ b. cond b (Some g) (field_with_id id gs)) on) ∙ finds) in
        subst (λ (x : PlainField). x.id ≡ id) same (same_id g.id id on)
    by_test false off rest = rest (sym (ap (λ b. cond b (Some g) (field_with_id id gs)) off) ∙ finds)

-- it fails a test that none passes
pub fails_at : (test : PlainField → Bool) (id : ℤ) (fs : List PlainField) (f : PlainField) → find test fs ≡ None → field_with_id id fs ≡ Some f → test f ≡ false
fails_at test id [] f none finds = absurd cc
fails_at test id (g ∷ gs) f none finds = by_test (test g) refl (int_eq g.id id) refl (fails_at test id gs f)
  where
    by_test : (p : Bool) → test g ≡ p → (b : Bool) → int_eq g.id id ≡ b → (find test gs ≡ None → field_with_id id gs ≡ Some f → test f ≡ false) → test f ≡ false
    by_test true passes b is rest = let some : Some g ≡ None = sym (ap (λ c. cond c (Some g) (find test gs)) passes) ∙ none in absurd cc
    by_test false fails true on rest =
        let same : g ≡ f = same_some g f (sym (ap (λ b. cond b (Some g) (field_with_id id gs)) on) ∙ finds) in
        ap test (sym same) ∙ fails
    by_test false fails false off rest =
        rest (sym (ap (λ c. cond c (Some g) (find test gs)) fails) ∙ none) (sym (ap (λ b. cond b (Some g) (field_with_id id gs)) off) ∙ finds)
