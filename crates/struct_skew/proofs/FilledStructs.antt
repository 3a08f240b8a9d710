-- The fields of a struct in which nothing is missing are found again.
use Rattle.std.proofs.Common.{◌≡◌, ℕ, ℤ, ◌<ℤ◌, Bool, true, false, true≢false, cond, List, [], ◌∷◌, Option, Some, None, Result, Ok, Err, refl, sym, ap, ap₂, subst, ◌∙◌, ⊎_elim, arith}
use Rattle.std.specs.Prelude.{⊤, MatchOption, ◌&&◌, is_some}
use Rattle.std.specs.Ordering.{int_eq}
use Rattle.std.proofs.lemmas.Bool.{false≢true, and_from}
use Rattle.std.proofs.lemmas.Bool.Decides.{Decides-int_eq}
use Rattle.std.proofs.lemmas.Int.{ints}
use Rattle.thrift_value.specs.Plain.{plain, plain_fields}
use Rattle.thrift_value.specs.Tidy.{IsBelowIds, AreRisingFields}
use Rattle.thrift_value.specs.Tree.{Tree, FieldTrees, no_fields, field}
use Rattle.thrift_value.specs.TreeOf.{field_trees}
use Rattle.schema.specs.declared.types.FieldNeed.TheVariants as need
use Rattle.schema.specs.declared.types.FieldsKind.{FieldsKind}
use Rattle.schema.specs.PlainSchema.{PlainField, PlainStruct}
use Rattle.schema.specs.WrittenAs.{field_with_id, HasFieldTree}
use Rattle.struct_skew.specs.declared.fault.SkewFault.{SkewFault}
use Rattle.struct_skew.specs.declared.fault.SkewFault.TheVariants.{Missing}
use Rattle.struct_skew.specs.Fits.{fits_kind}
use Rattle.struct_skew.specs.Offers.{Offer, last_offer, last_offer_behind}
use Rattle.struct_skew.specs.Projection.{is_required, counted_default, unsent_value, field_value, field_values, meaning_of, offers_of}
use Rattle.struct_skew.specs.Results.{with_value, with_field_value}
use Rattle.struct_skew.proofs.Deciding.{required_need}
use Rattle.struct_skew.proofs.Each.{Each}
use Rattle.struct_skew.proofs.Rightness.{IsBelowDeclared, AreRisingDeclared, put_field}

-- the value of the first field with an id
abbrev pub value_at : ℤ → FieldTrees → Option Tree
value_at id no_fields = None
value_at id (field next value more) = cond (int_eq next id) (Some value) (value_at id more)

-- fields as a list
abbrev pub field_list : FieldTrees → List (ℤ × Tree)
field_list no_fields = []
field_list (field id value more) = (id, value) ∷ field_list more

pub same_fields : (fields : FieldTrees) → field_trees (field_list fields) ≡ fields
same_fields no_fields = refl
same_fields (field id value more) = ap (field id value) (same_fields more)

-- the values of declared fields, as far as they have one
abbrev pub values_of : List PlainField → FieldTrees → List (ℤ × Tree)
values_of [] _ = []
values_of (f ∷ fs) fields = put_field f.id (value_at f.id fields) (values_of fs fields)

-- ids that are the same, and ids that aren't
same_id : (x y : ℤ) → int_eq x y ≡ true → x ≡ y
same_id x y e = (Decides-int_eq x y).0 e

unequal : (x y : ℤ) → (x ≡ y → ⊥) → int_eq x y ≡ false
unequal x y other = no_test (int_eq x y) (λ e. other (same_id x y e))
  where
    no_test : (b : Bool) → (b ≡ true → ⊥) → b ≡ false
    no_test true never = absurd (never refl)
    no_test false never = refl

not_above : (x y : ℤ) → x <ℤ y → y ≡ x → ⊥
not_above x y low same = omega (arith, ints)

not_below : (x y : ℤ) → x <ℤ y → x ≡ y → ⊥
not_below x y low same = omega (arith, ints)

below_both : (x y z : ℤ) → x <ℤ y → y <ℤ z → x <ℤ z
below_both x y z low high = omega (arith, ints)

-- an id below all has no value
below_ids : (i j : ℤ) (fields : FieldTrees) → i <ℤ j → IsBelowIds j fields → IsBelowIds i fields
below_ids i j no_fields low below = tt
below_ids i j (field id _ more) low below = (below_both i j id low below.0, below_ids i j more low below.1)

no_value : (id : ℤ) (fields : FieldTrees) → IsBelowIds id fields → value_at id fields ≡ None
no_value id no_fields below = refl
no_value id (field next value more) below =
    ap (λ b. cond b (Some value) (value_at id more)) (unequal next id (not_above id next below.0)) ∙ no_value id more below.1

-- what was found is there
no_field : (id : ℤ) (fields : FieldTrees) → HasFieldTree id fields → value_at id fields ≡ None → ⊥
no_field id no_fields there none = there
no_field id (field next value more) there none = by_test (int_eq next id) refl (no_field id more)
  where
    by_test : (b : Bool) → int_eq next id ≡ b → (HasFieldTree id more → value_at id more ≡ None → ⊥) → ⊥
    by_test true e rest = let some : Some value ≡ None = sym (ap (λ t. cond t (Some value) (value_at id more)) e) ∙ none in absurd cc
    by_test false e rest =
        let lacks : value_at id more ≡ None = sym (ap (λ t. cond t (Some value) (value_at id more)) e) ∙ none in
        ⊎_elim (λ same. true≢false (sym ((Decides-int_eq next id).1 same) ∙ e)) (λ behind. rest behind lacks) there

-- what is decided by a test
decided : (b : Bool) (r : Result (Option Tree) SkewFault) (v w : Option Tree) → (b ≡ true → r ≡ Ok v) → (b ≡ false → r ≡ Ok w) → r ≡ Ok (cond b v w)
decided true r v w one other = one refl
decided false r v w one other = other refl

put_by : (id : ℤ) (b : Bool) (v w : Option Tree) (rest all : List (ℤ × Tree)) → (b ≡ true → put_field id v rest ≡ all) → (b ≡ false → put_field id w rest ≡ all) → put_field id (cond b v w) rest ≡ all
put_by id true v w rest all one other = one refl
put_by id false v w rest all one other = other refl

-- the offer of a field in plain form
abbrev plain_offer : List PlainStruct → ℤ → Tree → Offer
plain_offer structs id v = record { id = id; value = plain v; meaning = meaning_of structs (plain v) }

-- each field fits the type that is declared for its id
abbrev pub FieldsFit : List PlainField → FieldTrees → Type 0
FieldsFit declared no_fields = ⊤
FieldsFit declared (field id value more) = MatchOption (field_with_id id declared) ⊥ (λ (f : PlainField). fits_kind f.kind (plain value) ≡ true) × FieldsFit declared more

-- each field means its value under that type
abbrev pub FieldsMean : List PlainStruct → List PlainField → FieldTrees → Type 0
FieldsMean structs declared no_fields = ⊤
FieldsMean structs declared (field id value more) =
    MatchOption (field_with_id id declared) ⊥ (λ (f : PlainField). meaning_of structs (plain value) f.kind ≡ Ok value) × FieldsMean structs declared more

module _ (structs : List PlainStruct) (f : PlainField) where
  -- no offer is of a field whose id is below all
  none_offered : (before : Option Offer) (fields : FieldTrees) → IsBelowIds f.id fields → last_offer_behind f before (offers_of structs (plain_fields fields)) ≡ before
  none_offered before no_fields below = refl
  none_offered before (field id value more) below =
      ap (λ b. last_offer_behind f (cond (b && fits_kind f.kind (plain value)) (Some (plain_offer structs id value)) before) (offers_of structs (plain_fields more)))
      (unequal f.id id (not_below f.id id below.0)) ∙ none_offered before more below.1

  -- the last offer of a field that is there
  here_offered : (declared : List PlainField) → field_with_id f.id declared ≡ Some f → (id : ℤ) (value : Tree) (more : FieldTrees) → int_eq id f.id ≡ true → IsBelowIds id more
      → MatchOption (field_with_id id declared) ⊥ (λ (g : PlainField). fits_kind g.kind (plain value) ≡ true)
      → MatchOption (field_with_id id declared) ⊥ (λ (g : PlainField). meaning_of structs (plain value) g.kind ≡ Ok value) → (which : ℕ) (kind : FieldsKind)
      → field_value which kind f (last_offer f (offers_of structs (plain_fields (field id value more)))) ≡ Ok (Some value)
  here_offered declared finds id value more same below fits means which kind =
      let is : id ≡ f.id = same_id id f.id same in
      let found : field_with_id id declared ≡ Some f = ap (λ i. field_with_id i declared) is ∙ finds in
      let fit : fits_kind f.kind (plain value) ≡ true = subst (λ o. MatchOption o ⊥ (λ (g : PlainField). fits_kind g.kind (plain value) ≡ true)) found fits in
      let mean : meaning_of structs (plain value) f.kind ≡ Ok value = subst (λ o. MatchOption o ⊥ (λ (g : PlainField). meaning_of structs (plain value) g.kind ≡ Ok value)) found means in
      let offer : Offer = plain_offer structs id value in
      let test : (int_eq f.id id && fits_kind f.kind (plain value)) ≡ true = and_from (int_eq f.id id) (fits_kind f.kind (plain value)) ((Decides-int_eq f.id id).1 (sym is)) fit in
      ap (λ b. field_value which kind f (last_offer_behind f (cond b (Some offer) None) (offers_of structs (plain_fields more)))) test
      ∙ ap (field_value which kind f) (none_offered (Some offer) more (subst (λ i. IsBelowIds i more) is below))
      ∙ ap (with_value Some) mean

  -- what the last offer of a declared field means
  pub offered : (declared : List PlainField) → field_with_id f.id declared ≡ Some f → (fields : FieldTrees) → AreRisingFields fields → FieldsFit declared fields → FieldsMean structs declared fields
      → (which : ℕ) (kind : FieldsKind) → (value_at f.id fields ≡ None → unsent_value which kind f ≡ Ok None)
      → field_value which kind f (last_offer f (offers_of structs (plain_fields fields))) ≡ Ok (value_at f.id fields)
  offered declared finds no_fields rising fit mean which kind unsent = unsent refl
  offered declared finds (field id value more) rising fit mean which kind unsent =
      decided (int_eq id f.id) (field_value which kind f (last_offer f (offers_of structs (plain_fields (field id value more))))) (Some value) (value_at f.id more)
      (λ e. here_offered declared finds id value more e rising.0 fit.0 mean.0 which kind)
      (λ e.
      ap (λ b. field_value which kind f (last_offer_behind f (cond (b && fits_kind f.kind (plain value)) (Some (plain_offer structs id value)) None) (offers_of structs (plain_fields more))))
      (unequal f.id id (λ same. true≢false (sym ((Decides-int_eq id f.id).1 (sym same)) ∙ e)))
      ∙ offered declared finds more rising.1 fit.1 mean.1 which kind (λ none. unsent (ap (λ b. cond b (Some value) (value_at f.id more)) e ∙ none)))

-- a field that isn't there needn't be
pub nothing_unsent : (which : ℕ) (kind : FieldsKind) (f : PlainField) (fields : FieldTrees) → (f.need ≡ need.Required → HasFieldTree f.id fields)
    → (is_some (counted_default kind f) ≡ true → HasFieldTree f.id fields) → value_at f.id fields ≡ None → unsent_value which kind f ≡ Ok None
nothing_unsent which kind f fields required defaulted none = by_need (is_required f.need) refl
  where
    by_default : (d : Option Tree) → counted_default kind f ≡ d → counted_default kind f ≡ None
    by_default None e = e
    by_default (Some v) e = absurd (no_field f.id fields (defaulted (ap is_some e)) none)

    by_need : (b : Bool) → is_required f.need ≡ b → cond b (Err (Missing which f.id)) (Ok (counted_default kind f)) ≡ Ok None
    by_need true e = absurd (no_field f.id fields (required ((required_need f.need).0 e)) none)
    by_need false e = ap Ok (by_default (counted_default kind f) refl)

-- the values of all declared fields
pub values_found : (which : ℕ) (kind : FieldsKind) (offers : List Offer) (fields : FieldTrees) (fs : List PlainField)
    → Each (λ (f : PlainField). field_value which kind f (last_offer f offers) ≡ Ok (value_at f.id fields)) fs → field_values which kind fs offers ≡ Ok (values_of fs fields)
values_found which kind offers _ [] each = refl
values_found which kind offers fields (f ∷ fs) each =
    ap₂ (with_field_value f.id) each.0 (values_found which kind offers fields fs each.1) ∙ put (value_at f.id fields)
  where
    put : (v : Option Tree) → with_field_value f.id (Ok v) (Ok (values_of fs fields)) ≡ Ok (put_field f.id v (values_of fs fields))
    put None = refl
    put (Some v) = refl

-- each field is declared
abbrev pub AreDeclared : List PlainField → FieldTrees → Type 0
AreDeclared fs no_fields = ⊤
AreDeclared fs (field id _ more) = (is_some (field_with_id id fs) ≡ true) × AreDeclared fs more

above_declared : (i id : ℤ) (fs : List PlainField) → IsBelowDeclared i fs → is_some (field_with_id id fs) ≡ true → i <ℤ id
above_declared i id [] below is = absurd (false≢true is)
above_declared i id (f ∷ fs) below is = by_test (int_eq f.id id) refl (above_declared i id fs below.1)
  where
    by_test : (b : Bool) → int_eq f.id id ≡ b → (is_some (field_with_id id fs) ≡ true → i <ℤ id) → i <ℤ id
    by_test true e rest = subst (λ j. i <ℤ j) (same_id f.id id e) below.0
    by_test false e rest = rest (sym (ap (λ b. is_some (cond b (Some f) (field_with_id id fs))) e) ∙ is)

still_declared : (f : PlainField) (fs : List PlainField) (fields : FieldTrees) → IsBelowIds f.id fields → AreDeclared (f ∷ fs) fields → AreDeclared fs fields
still_declared f fs no_fields below is = tt
still_declared f fs (field id _ more) below is =
    (sym (ap (λ b. is_some (cond b (Some f) (field_with_id id fs))) (unequal f.id id (not_below f.id id below.0))) ∙ is.0, still_declared f fs more below.1 is.1)

-- declared fields above an id have the values of what stands behind it
values_behind : (id : ℤ) (value : Tree) (more : FieldTrees) (fs : List PlainField) → IsBelowDeclared id fs → values_of fs (field id value more) ≡ values_of fs more
values_behind id value more [] below = refl
values_behind id value more (f ∷ fs) below =
    ap₂ (put_field f.id) (ap (λ b. cond b (Some value) (value_at f.id more)) (unequal id f.id (not_below id f.id below.0))) (values_behind id value more fs below.1)

-- the values of the declared fields are all
pub same_values : (fs : List PlainField) → AreRisingDeclared fs → (fields : FieldTrees) → AreRisingFields fields → AreDeclared fs fields → values_of fs fields ≡ field_list fields
same_values [] rising no_fields up is = refl
same_values [] rising (field _ _ _) up is = absurd (false≢true is.0)
same_values (f ∷ fs) rising no_fields up is = same_values fs rising.1 no_fields tt tt
same_values (f ∷ fs) rising (field id value more) up is =
    put_by f.id (int_eq id f.id) (Some value) (value_at f.id more) (values_of fs (field id value more)) (field_list (field id value more))
    (λ e.
    let same : id ≡ f.id = same_id id f.id e in
    let below : IsBelowIds f.id more = subst (λ i. IsBelowIds i more) same up.0 in
    ap₂ (λ i rest. put_field i (Some value) rest) (sym same)
    (values_behind id value more fs (subst (λ i. IsBelowDeclared i fs) (sym same) rising.0) ∙ same_values fs rising.1 more up.1 (still_declared f fs more below is.1)))
    (λ e.
    let other : int_eq f.id id ≡ false = unequal f.id id (λ same. true≢false (sym ((Decides-int_eq id f.id).1 (sym same)) ∙ e)) in
    let behind : is_some (field_with_id id fs) ≡ true = sym (ap (λ b. is_some (cond b (Some f) (field_with_id id fs))) other) ∙ is.0 in
    let low : f.id <ℤ id = above_declared f.id id fs rising.0 behind in
    let below : IsBelowIds f.id more = below_ids f.id id more low up.0 in
    ap (λ v. put_field f.id v (values_of fs (field id value more))) (no_value f.id more below)
    ∙ same_values fs rising.1 (field id value more) up (still_declared f fs (field id value more) (low, below) is))
