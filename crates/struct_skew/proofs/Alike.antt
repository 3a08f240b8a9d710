-- What is sent in two ways comes to the same.
use Rattle.std.proofs.Common.{◌≡◌, ℕ, ◌+◌, Bool, true, false, true≢false, cond, List, [], ◌∷◌, Option, Some, None, Ok, Err, refl, sym, ap, ap₂, ◌∙◌}
use Rattle.std.specs.Prelude.{◌&&◌, ◌==◌, not, is_some}
use Rattle.std.proofs.lemmas.List.Sums.{sum_by-cons}
use Rattle.thrift_value.specs.Tree.{of_struct}
use Rattle.thrift_value.specs.TreeOf.{field_trees}
use Rattle.schema.specs.declared.types.FieldsKind.{FieldsKind}
use Rattle.schema.specs.PlainSchema.{PlainField, PlainStruct}
use Rattle.struct_skew.specs.declared.fault.SkewFault.TheVariants.{UnionFields}
use Rattle.struct_skew.specs.Offers.{Offer, last_offer}
use Rattle.struct_skew.specs.Projection.{is_union, field_value, field_values, sent_count, struct_value}
use Rattle.struct_skew.specs.Results.{with_value, and_if_ok, with_field_value}
use Rattle.struct_skew.proofs.Each.{Each}

-- two offers come to the same for a declared field
pub record AreAlike (f : PlainField) (one other : Option Offer) : Type 0 where
  pub value : (which : ℕ) (kind : FieldsKind) → field_value which kind f one ≡ field_value which kind f other
  pub there : is_some one ≡ is_some other

pub none_alike : (f : PlainField) → AreAlike f None None
none_alike f = record { value = λ which kind. refl; there = refl }

-- one offer more, which counts in both ways or in none
pub alike_on : (f : PlainField) (id b c : Bool) (one other : Option Offer) (x y : Offer) → AreAlike f one other → (id ≡ true → b ≡ c) → (id ≡ true → c ≡ true → x.meaning f.kind ≡ y.meaning f.kind)
    → AreAlike f (cond (id && b) (Some x) one) (cond (id && c) (Some y) other)
alike_on f false b c one other x y h is means = h
alike_on f true true true one other x y h is means = record { value = λ which kind. ap (with_value Some) (means refl refl); there = refl }
alike_on f true false false one other x y h is means = h
alike_on f true true false one other x y h is means = absurd (true≢false (is refl))
alike_on f true false true one other x y h is means = absurd (true≢false (sym (is refl)))

-- one offer more in the other way, which doesn't count
pub alike_past : (f : PlainField) (counts : Bool) (one other : Option Offer) (y : Offer) → AreAlike f one other → counts ≡ false → AreAlike f one (cond counts (Some y) other)
alike_past f true one other y h no_more = absurd (true≢false no_more)
alike_past f false one other y h no_more = h

-- the last offers of each declared field come to the same
abbrev pub AreAllAlike : List PlainField → List Offer → List Offer → Type 0
AreAllAlike fs one other = Each (λ (f : PlainField). AreAlike f (last_offer f one) (last_offer f other)) fs

-- fields that come to the same
values_alike : (which : ℕ) (kind : FieldsKind) (fs : List PlainField) (one other : List Offer) → AreAllAlike fs one other → field_values which kind fs one ≡ field_values which kind fs other
values_alike which kind [] one other same = refl
values_alike which kind (f ∷ fs) one other same = ap₂ (with_field_value f.id) (same.0.value which kind) (values_alike which kind fs one other same.1)

counts_alike : (fs : List PlainField) (one other : List Offer) → AreAllAlike fs one other → sent_count fs one ≡ sent_count fs other
counts_alike [] one other same = refl
counts_alike (f ∷ fs) one other same =
    sum_by-cons (λ g. cond (is_some (last_offer g one)) 1 0) f fs ∙ ap₂ (λ b n. cond b 1 0 + n) same.0.there (counts_alike fs one other same.1)
    ∙ sym (sum_by-cons (λ g. cond (is_some (last_offer g other)) 1 0) f fs)

-- the same struct comes of both
pub struct_alike : (which : ℕ) (s : PlainStruct) (one other : List Offer) → AreAllAlike s.fields one other → struct_value which (Some s) one ≡ struct_value which (Some s) other
struct_alike which s one other same =
    let values = values_alike which s.kind s.fields one other same in
    let count = counts_alike s.fields one other same in
    λ i. and_if_ok (values i) (λ fields. cond (is_union s.kind && not (count i == 1)) (Err (UnionFields which)) (Ok (of_struct (field_trees fields))))
