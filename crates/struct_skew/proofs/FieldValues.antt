-- What is found for the fields of a struct.
use Rattle.std.proofs.Common.{◌≡◌, ℕ, ◌+◌, ℤ, Bool, true, false, true≢false, cond, List, [], ◌∷◌, length, Option, Some, None, Result, Ok, Err, refl, sym, ap, ◌∙◌, arith}
use Rattle.std.specs.Prelude.{not, ◌&&◌, ◌==◌, is_some}
use Rattle.std.specs.List.{slice_get}
use Rattle.std.proofs.lemmas.List.Sums.{sum_by-cons}
use Rattle.thrift_value.specs.Tree.{Tree, of_struct}
use Rattle.thrift_value.specs.TreeOf.{field_trees}
use Rattle.schema.specs.declared.types.FieldsKind.{FieldsKind}
use Rattle.schema.specs.PlainSchema.{PlainField, PlainStruct}
use Rattle.struct_skew.specs.declared.fault.SkewFault.{SkewFault}
use Rattle.struct_skew.specs.declared.fault.SkewFault.TheVariants.{Missing, UnionFields}
use Rattle.struct_skew.specs.declared.plan.Choice.{Choice}
use Rattle.struct_skew.specs.Offers.{Offer, last_offer}
use Rattle.struct_skew.specs.Plan.{planned_fields, IsPlanFor}
use Rattle.struct_skew.specs.Projection.{is_required, is_union, counted_default, field_value, field_values, sent_count, checked_struct, struct_value}
use Rattle.struct_skew.specs.Results.{with_value, and_if_ok, with_field_value}
use Rattle.struct_skew.specs.Unions.{one_of_union}
use Rattle.struct_skew.proofs.PlannedFields.{plan_gives}

-- what a field's value and those behind it are, where all are there
record Parts (value : Result (Option Tree) SkewFault) (rest : Result (List (ℤ × Tree)) SkewFault) (all : List (ℤ × Tree)) : Type 0 where
  found : Option Tree
  more : List (ℤ × Tree)
  value_is : value ≡ Ok found
  rest_is : rest ≡ Ok more
  length_is : length all ≡ cond (is_some found) 1 0 + length more

parted : (id : ℤ) (value : Result (Option Tree) SkewFault) (rest : Result (List (ℤ × Tree)) SkewFault) (all : List (ℤ × Tree)) → with_field_value id value rest ≡ Ok all → Parts value rest all
parted id (Ok (Some v)) (Ok xs) all is =
    let same : all ≡ (id, v) ∷ xs = cc in record { found = Some v; more = xs; value_is = refl; rest_is = refl; length_is = omega (arith, ap length same) }
parted id (Ok (Some v)) (Err e) all is = absurd cc
parted id (Ok None) (Ok xs) all is =
    let same : all ≡ xs = cc in record { found = None; more = xs; value_is = refl; rest_is = refl; length_is = omega (arith, ap length same) }
parted id (Ok None) (Err e) all is = absurd cc
parted id (Err e) rest all is = absurd cc

-- a field of a union has a value exactly where one was sent
value_where_sent : (which : ℕ) (kind : FieldsKind) (f : PlainField) (o : Option Offer) (v : Option Tree) → is_union kind ≡ true → field_value which kind f o ≡ Ok v → is_some v ≡ is_some o
value_where_sent which kind f (Some o) v union is = sent (o.meaning f.kind) is
  where
    sent : (r : Result Tree SkewFault) → with_value Some r ≡ Ok v → is_some v ≡ true
    sent (Ok x) e = let same : v ≡ Some x = cc in ap is_some same
    sent (Err g) e = absurd cc
value_where_sent which kind f None v union is = unsent (is_required f.need) (counted_default kind f) (ap (λ b. cond b None f.default) union) is
  where
    unsent : (b : Bool) (d : Option Tree) → d ≡ None → cond b (Err (Missing which f.id)) (Ok d) ≡ Ok v → is_some v ≡ false
    unsent true d none e = absurd cc
    unsent false d none e = let same : v ≡ None = cc in ap is_some same

-- of a union as many fields have a value as were sent
counted : (which : ℕ) (kind : FieldsKind) (fs : List PlainField) (offers : List Offer) (found : List (ℤ × Tree)) → is_union kind ≡ true
    → field_values which kind fs offers ≡ Ok found → sent_count fs offers ≡ length found
counted which kind [] offers found union is = let same : [] ≡ found = cc in ap length same
counted which kind (f ∷ fs) offers found union is =
    let parts = parted f.id (field_value which kind f (last_offer f offers)) (field_values which kind fs offers) found is in
    let rest = counted which kind fs offers parts.more union parts.rest_is in
    let there = value_where_sent which kind f (last_offer f offers) parts.found union parts.value_is in
    sum_by-cons (λ g. cond (is_some (last_offer g offers)) 1 0) f fs
    ∙ sums (is_some (last_offer f offers)) (is_some parts.found) (sent_count fs offers) (length parts.more) (length found) there rest parts.length_is
  where
    sums : (b c : Bool) (m n all : ℕ) → c ≡ b → m ≡ n → all ≡ cond c 1 0 + n → (cond b 1 0 + m) ≡ all
    sums true true m n all same eq len = omega (arith, eq, len)
    sums false false m n all same eq len = omega (arith, eq, len)
    sums true false m n all same eq len = absurd (true≢false (sym same))
    sums false true m n all same eq len = absurd (true≢false same)

-- the fields of a struct, checked by how many there are
pub checked_alike : (which : ℕ) (s : PlainStruct) (offers : List Offer) (found : List (ℤ × Tree)) → field_values which s.kind s.fields offers ≡ Ok found
    → checked_struct which s offers found ≡ one_of_union which s.kind found
checked_alike which s offers found is = by_kind (is_union s.kind) refl
  where
    by_kind : (b : Bool) → is_union s.kind ≡ b → cond (b && not (sent_count s.fields offers == 1)) (Err (UnionFields which)) (Ok (of_struct (field_trees found)))
        ≡ cond (b && not (length found == 1)) (Err (UnionFields which)) (Ok (of_struct (field_trees found)))
    by_kind true union = ap (λ n. cond (not (n == 1)) (Err (UnionFields which)) (Ok (of_struct (field_trees found)))) (counted which s.kind s.fields offers found union is)
    by_kind false union = refl

-- a struct by the plan for it
pub struct_by_plan : (structs : List PlainStruct) (which : ℕ) (s : PlainStruct) (offers : List Offer) (plan : List Choice) → slice_get structs which ≡ Some s → IsPlanFor s.kind s.fields offers plan
    → struct_value which (slice_get structs which) offers ≡ and_if_ok (planned_fields which s.kind s.fields offers plan) (one_of_union which s.kind)
struct_by_plan structs which s offers plan here is =
    ap (λ d. struct_value which d offers) here
    ∙ same_checked (field_values which s.kind s.fields offers) refl
    ∙ ap (λ r. and_if_ok r (one_of_union which s.kind)) (sym (plan_gives which s.kind s.fields offers plan is))
  where
    same_checked : (r : Result (List (ℤ × Tree)) SkewFault) → field_values which s.kind s.fields offers ≡ r → and_if_ok r (checked_struct which s offers) ≡ and_if_ok r (one_of_union which s.kind)
    same_checked (Ok found) is = checked_alike which s offers found is
    same_checked (Err e) is = refl
