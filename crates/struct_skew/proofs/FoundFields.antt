-- A field that was found has its id.
use Rattle.std.proofs.Common.{◌≡◌, ℕ, zero, suc, ◌<◌, ℤ, true, List, [], ◌∷◌, length, map, Some, Equal, refl, sym, ap, subst, ◌∙◌, arith}
use Rattle.std.specs.Prelude.{◌<ℤ◌, AllPairs}
use Rattle.std.specs.List.{HoldsAt, slice_get}
use Rattle.std.specs.Ordering.{int_cmp, int_eq}
use Rattle.std.proofs.lemmas.Bool.{or_left, or_right}
use Rattle.std.proofs.lemmas.Bool.Decides.{Decides-int_eq}
use Rattle.std.proofs.lemmas.Map.Lookups.{exact_signed}
use Rattle.std.proofs.lemmas.Cmp.{int_cmp_total, tied_itself}
use Rattle.std.proofs.lemmas.Option.{none-some, same_Some, get_or_from_slice_get, slice_get_within}
use Rattle.thrift_value.specs.declared.value.Value.{Value}
use Rattle.thrift_value.specs.TreeOf.{field_tree, field_trees}
use Rattle.schema.specs.declared.types.FieldDesc.{FieldDesc}
use Rattle.schema.specs.PlainSchema.{PlainField}
use Rattle.schema.specs.SchemaOf.{plain_field}
use Rattle.schema.specs.WrittenAs.{field_with_id}
use Rattle.schema.proofs.FindById.{search_found}
use Rattle.struct_skew.specs.WrittenTests.{has_field_tree}

pub found_field : (id : ℤ) (fields : List (ℤ × Value)) (p : ℕ) → HoldsAt (λ (f : ℤ × Value). int_cmp f.0 id ≡ Equal) fields p → p < length fields
    → has_field_tree id (field_trees (map field_tree fields)) ≡ true
found_field id [] p equal within = absurd (omega arith)
found_field id (f ∷ fs) zero equal within =
    or_left (int_eq f.0 id) (has_field_tree id (field_trees (map field_tree fs))) ((Decides-int_eq f.0 id).1 (exact_signed f.0 id (equal f)))
found_field id (f ∷ fs) (suc p) equal within =
    or_right (int_eq f.0 id) (has_field_tree id (field_trees (map field_tree fs))) (found_field id fs p equal (omega arith))

-- the same of a field at a place
pub field_there : (id : ℤ) (fields : List (ℤ × Value)) (p : ℕ) (f : ℤ × Value) → slice_get fields p ≡ Some f → int_eq f.0 id ≡ true
    → has_field_tree id (field_trees (map field_tree fields)) ≡ true
field_there id [] p f at is = absurd (none-some f at)
field_there id (g ∷ gs) zero f at is =
    or_left (int_eq g.0 id) (has_field_tree id (field_trees (map field_tree gs))) (subst (λ (x : ℤ × Value). int_eq x.0 id ≡ true) (sym (same_Some g f at)) is)
field_there id (g ∷ gs) (suc p) f at is =
    or_right (int_eq g.0 id) (has_field_tree id (field_trees (map field_tree gs))) (field_there id gs p f at is)

-- a declared field at a place, by its id
pub declared_there : (id : ℤ) (fs : List FieldDesc) (p : ℕ) (f : FieldDesc) → AllPairs (λ (f g : PlainField). f.id <ℤ g.id) (map plain_field fs)
    → Some f ≡ slice_get fs p → int_eq (plain_field f).id id ≡ true → Some (plain_field f) ≡ field_with_id id (map plain_field fs)
declared_there id fs p f rising at is =
    search_found id id refl fs p (Some f) rising
    (λ d. subst (λ (z : ℤ). int_cmp z id ≡ Equal) (sym (ap (λ (g : FieldDesc). g.id) (get_or_from_slice_get fs p f d (sym at)) ∙ (Decides-int_eq f.id id).0 is)) (tied_itself int_cmp_total id))
    (slice_get_within fs p f (sym at)) at
