-- The loops that read what means itself.
use Rattle.std.proofs.Common.{◌≡◌, ℕ, suc, ℤ, pos, Bool, true, false, List, [], ◌∷◌, ◌++◌, length, Option, Some, None, Ok, refl, sym, subst, ◌∙◌, arith}
use Rattle.std.specs.Bool.{OnTrue}
use Rattle.std.specs.Prelude.{◌&&◌, ◌<ℤ◌, MatchOption, MatchResult, IfOk, OnOk, Result, Err}
use Rattle.std.specs.Result.{result_ok}
use Rattle.std.specs.List.{AllByRecursion}
use Rattle.std.proofs.lemmas.Bool.{and_parts}
use Rattle.std.proofs.lemmas.Int.{ints}
use Rattle.thrift_value.specs.declared.tag.Tag.{Tag}
use Rattle.thrift_value.specs.declared.value.Value.{Value}
use Rattle.thrift_value.specs.declared.value.Fields.{Fields}
use Rattle.thrift_value.specs.declared.value.Items.{Items}
use Rattle.thrift_value.specs.declared.value.Pairs.{Pairs}
use Rattle.thrift_value.specs.Tree.{of_bool}
use Rattle.thrift_value.specs.TreeOf.{tree_of, fields_of, items_of, pairs_of}
use Rattle.schema.specs.PlainKind.{PlainKind}
use Rattle.schema.specs.PlainSchema.{PlainField, PlainStruct}
use Rattle.schema.specs.WrittenAs.{field_with_id}
use Rattle.wire_model.specs.declared.one_pass.FieldHead.TheVariants.{Field}
use Rattle.wire_model.specs.AtPlace.{head_of}
use Rattle.wire_model.specs.Decoder.{Unread, count_value}
use Rattle.wire_model.specs.Reading.{value}
use Rattle.wire_model.specs.Wire.{Wire, stop}
use Rattle.wire_walk.proofs.Lists.{AreItemsRead, items_begin, items_step, items_end, ArePairsRead, pairs_begin, pairs_step, pairs_end, AreFieldsRead, fields_begin, field_step, flag_step, fields_end}
use Rattle.known_parts.specs.Parts.{are_same_tags, tag_of_kind}
use Rattle.struct_skew.specs.ReadSettled.{IsSettled, ReadsSettled, ReadsField, ReadsFields, ReadsItems, ReadsPairs, IsFieldSettled, IsPairSettled, AreIdsRising}
use Rattle.struct_skew.proofs.Deciding.{same_tag}

-- what a test tells that passes
pub on_true : (b : Bool) (P : Type 0) → (b ≡ true → P) → OnTrue b P
on_true true P f = f refl
on_true false P f = tt

-- what a call tells that went through, of which only the value is handed on
pub told : {A E : Type 0} (P : A → Type 0) (Q : E → Type 0) (r : Result A E) (x : A) → Some x ≡ result_ok r → MatchResult r P Q → P x
told P Q (Ok y) x is h = let same : y ≡ x = cc in subst P same h
told P Q (Err e) x is h = absurd cc

pub told_if : {A E : Type 0} (P : A → Type 0) (r : Result A E) (x : A) → Some x ≡ result_ok r → IfOk r P → P x
told_if P (Ok y) x is h = let same : y ≡ x = cc in subst P same h
told_if P (Err e) x is h = absurd cc

pub told_on : {A E : Type 0} {P : Type 0} (r : Result A E) (x : A) → Some x ≡ result_ok r → OnOk r P → P
told_on (Ok y) x is h = h
told_on (Err e) x is h = absurd cc

-- tags that were found to be those of two types
pub tags_agree : (k : Tag) (key : PlainKind) (t : Tag) (of : PlainKind) (b : Bool) → b ≡ true → b ≡ (are_same_tags k (tag_of_kind key) && are_same_tags t (tag_of_kind of))
    → (k ≡ tag_of_kind key) × (t ≡ tag_of_kind of)
tags_agree k key t of b e is =
    let both = and_parts (are_same_tags k (tag_of_kind key)) (are_same_tags t (tag_of_kind of)) (sym is ∙ e) in
    ((same_tag k (tag_of_kind key)).0 both.0, (same_tag t (tag_of_kind of)).0 both.1)

-- one more at the end
all_push : {A : Type 0} (P : A → Type 0) (xs : List A) (x : A) → AllByRecursion P xs → P x → AllByRecursion P (xs ++ x ∷ [])
all_push P [] x h p = (p, tt)
all_push P (y ∷ ys) x h p = (h.0, all_push P ys x h.1 p)

all_then : {A : Type 0} (P Q : A → Type 0) → ((x : A) → P x → Q x) → (xs : List A) → AllByRecursion P xs → AllByRecursion Q xs
all_then P Q f [] h = tt
all_then P Q f (x ∷ xs) h = (f x h.0, all_then P Q f xs h.1)

module _ (wire : Wire) (levels : ℕ) (structs : List PlainStruct) where
  -- items so far
  pub record ItemsKept (kind : PlainKind) (items : List Value) (count : ℕ) (rest : Unread) (all : ℕ) (start : Unread) : Type 0 where
    pub read : AreItemsRead wire levels (tag_of_kind kind) items count rest all start
    pub settled : AllByRecursion (λ v. IsSettled structs kind (tree_of v)) items

  module _ (kind : PlainKind) where
    pub items_kept_begin : (items : List Value) (count all : ℕ) (start : Unread) → items ≡ [] → count ≡ all → ItemsKept kind items count start all start
    items_kept_begin items count all start none same = record {
      read = items_begin wire levels (tag_of_kind kind) items count all start none same;
      settled = subst (λ (vs : List Value). AllByRecursion (λ v. IsSettled structs kind (tree_of v)) vs) (sym none) tt;
    }

    pub items_kept_step : (items new : List Value) (x : Value) (count left : ℕ) (rest behind : Unread) (all : ℕ) (start : Unread) → count ≡ suc left
        → ItemsKept kind items count rest all start → ReadsSettled wire levels structs kind rest (tree_of x) behind → new ≡ items ++ x ∷ [] → ItemsKept kind new left behind all start
    items_kept_step items new x count left rest behind all start more kept here is = record {
      read = items_step wire levels (tag_of_kind kind) items new x count left rest behind all start more kept.read here.read is;
      settled = subst (λ (vs : List Value). AllByRecursion (λ v. IsSettled structs kind (tree_of v)) vs) (sym is)
          (all_push (λ v. IsSettled structs kind (tree_of v)) items x kept.settled here.settled);
    }

    pub items_kept_end : (items : List Value) (made : Items) (count : ℕ) (rest : Unread) (all : ℕ) (start : Unread) → count ≡ 0
        → ItemsKept kind items count rest all start → items_of made ≡ items → ReadsItems wire levels structs kind all start made rest
    items_kept_end items made count rest all start none kept is = record {
      read = items_end wire levels (tag_of_kind kind) items made count rest all start none kept.read is;
      settled = subst (λ (vs : List Value). AllByRecursion (λ v. IsSettled structs kind (tree_of v)) vs) (sym is) kept.settled;
    }

  -- pairs so far
  pub record PairsKept (key value : PlainKind) (pairs : List (Value × Value)) (count : ℕ) (rest : Unread) (all : ℕ) (start : Unread) : Type 0 where
    pub read : ArePairsRead wire levels (tag_of_kind key) (tag_of_kind value) pairs count rest all start
    pub settled : AllByRecursion (IsPairSettled structs key value) pairs

  module _ (key value : PlainKind) where
    pub pairs_kept_begin : (pairs : List (Value × Value)) (count all : ℕ) (start : Unread) → pairs ≡ [] → count ≡ all → PairsKept key value pairs count start all start
    pairs_kept_begin pairs count all start none same = record {
      read = pairs_begin wire levels (tag_of_kind key) (tag_of_kind value) pairs count all start none same;
      settled = subst (λ (ps : List (Value × Value)). AllByRecursion (IsPairSettled structs key value) ps) (sym none) tt;
    }

    pub pairs_kept_step : (pairs new : List (Value × Value)) (k v : Value) (count left : ℕ) (rest between behind : Unread) (all : ℕ) (start : Unread) → count ≡ suc left
        → PairsKept key value pairs count rest all start → ReadsSettled wire levels structs key rest (tree_of k) between
        → ReadsSettled wire levels structs value between (tree_of v) behind → new ≡ pairs ++ (k, v) ∷ [] → PairsKept key value new left behind all start
    pairs_kept_step pairs new k v count left rest between behind all start more kept one other is = record {
      read = pairs_step wire levels (tag_of_kind key) (tag_of_kind value) pairs new (k, v) count left rest between behind all start more kept.read one.read other.read is;
      settled = subst (λ (ps : List (Value × Value)). AllByRecursion (IsPairSettled structs key value) ps) (sym is)
          (all_push (IsPairSettled structs key value) pairs (k, v) kept.settled (one.settled, other.settled));
    }

    pub pairs_kept_end : (pairs : List (Value × Value)) (made : Pairs) (count : ℕ) (rest : Unread) (all : ℕ) (start : Unread) → count ≡ 0
        → PairsKept key value pairs count rest all start → pairs_of made ≡ pairs → ReadsPairs wire levels structs key value all start made rest
    pairs_kept_end pairs made count rest all start none kept is = record {
      read = pairs_end wire levels (tag_of_kind key) (tag_of_kind value) pairs made count rest all start none kept.read is;
      settled = subst (λ (ps : List (Value × Value)). AllByRecursion (IsPairSettled structs key value) ps) (sym is) kept.settled;
    }

  -- fields so far, with ids up to the last
  pub record FieldsKept (declared : List PlainField) (fields : List (ℤ × Value)) (most : ℕ) (last : ℤ) (rest start : Unread) : Type 0 where
    pub read : AreFieldsRead wire levels fields most last rest start
    pub settled : AllByRecursion (IsFieldSettled structs declared) fields
    pub rising : AreIdsRising fields
    pub below : (id : ℤ) → last <ℤ id → AllByRecursion (λ (f : ℤ × Value). f.0 <ℤ id) fields

  -- the field's value, in front of the fields behind it
  field_put : (fields new : List (ℤ × Value)) (most left : ℕ) (last id : ℤ) (tag : Tag) (flag : Option Bool) (rest behind inside start : Unread) (x : Value) → most ≡ suc left
      → AreFieldsRead wire levels fields most last rest start → wire.field last rest ≡ Ok (head_of (Field id tag flag), behind)
      → MatchOption flag (value wire levels tag behind ≡ Ok (tree_of x, inside)) (λ b. (count_value behind ≡ Ok (tt, inside)) × (tree_of x ≡ of_bool b))
      → new ≡ fields ++ (id, x) ∷ [] → AreFieldsRead wire levels new left id inside start
  field_put fields new most left last id tag None rest behind inside start x more kept head found is =
      field_step wire levels fields new most left last rest behind inside start id tag x more kept head found is
  field_put fields new most left last id tag (Some b) rest behind inside start x more kept head found is =
      flag_step wire levels fields new most left last rest behind inside start id b x more kept head found.0 found.1 is

  rising_push : (fs : List (ℤ × Value)) (f : ℤ × Value) → AreIdsRising fs → AllByRecursion (λ (g : ℤ × Value). g.0 <ℤ f.0) fs → AreIdsRising (fs ++ f ∷ [])
  rising_push [] f rising below = (tt, tt)
  rising_push (g ∷ gs) f rising below = (all_push (λ (h : ℤ × Value). g.0 <ℤ h.0) gs f rising.0 below.0, rising_push gs f rising.1 below.1)

  declared_settled : (o : Option PlainField) (f : PlainField) (x : Value) → o ≡ Some f → IsSettled structs f.kind (tree_of x) → MatchOption o ⊥ (λ (d : PlainField). IsSettled structs d.kind (tree_of x))
  declared_settled o f x is h = subst (λ (p : Option PlainField). MatchOption p ⊥ (λ (d : PlainField). IsSettled structs d.kind (tree_of x))) (sym is) h

  -- each id is below one that is above the last, and below any where there is none
  all_below : (fields : List (ℤ × Value)) (last id : ℤ) → ((other : ℤ) → last <ℤ other → AllByRecursion (λ (f : ℤ × Value). f.0 <ℤ other) fields)
      → ((fields ≡ [] → ⊥) → last <ℤ id) → AllByRecursion (λ (f : ℤ × Value). f.0 <ℤ id) fields
  all_below [] last id below high = tt
  all_below (f ∷ fs) last id below high = below id (high (λ e. absurd cc))

  module _ (declared : List PlainField) where
    pub fields_kept_begin : (fields : List (ℤ × Value)) (most : ℕ) (start : Unread) → fields ≡ [] → most ≡ length start.bytes → FieldsKept declared fields most (pos 0) start start
    fields_kept_begin fields most start none same = record {
      read = fields_begin wire levels fields most start none same;
      settled = subst (λ (fs : List (ℤ × Value)). AllByRecursion (IsFieldSettled structs declared) fs) (sym none) tt;
      rising = subst AreIdsRising (sym none) tt;
      below = λ id low. subst (λ (fs : List (ℤ × Value)). AllByRecursion (λ (f : ℤ × Value). f.0 <ℤ id) fs) (sym none) tt;
    }

    pub fields_kept_step : (fields new : List (ℤ × Value)) (most left : ℕ) (last id : ℤ) (tag : Tag) (flag : Option Bool) (f : PlainField) (rest behind inside start : Unread) (x : Value) → most ≡ suc left
        → FieldsKept declared fields most last rest start → wire.field last rest ≡ Ok (head_of (Field id tag flag), behind) → ((fields ≡ [] → ⊥) → last <ℤ id) → field_with_id id declared ≡ Some f
        → ReadsField wire levels structs f.kind tag flag behind (tree_of x) inside → new ≡ fields ++ (id, x) ∷ [] → FieldsKept declared new left id inside start
    fields_kept_step fields new most left last id tag flag f rest behind inside start x more kept head high here found is = let under = all_below fields last id kept.below high in record {
      read = field_put fields new most left last id tag flag rest behind inside start x more kept.read head found.read is;
      settled = subst (λ (fs : List (ℤ × Value)). AllByRecursion (IsFieldSettled structs declared) fs) (sym is)
          (all_push (IsFieldSettled structs declared) fields (id, x) kept.settled (declared_settled (field_with_id id declared) f x here found.settled));
      rising = subst AreIdsRising (sym is) (rising_push fields (id, x) kept.rising under);
      below = λ other low. subst (λ (fs : List (ℤ × Value)). AllByRecursion (λ (g : ℤ × Value). g.0 <ℤ other) fs) (sym is)
          (all_push (λ (g : ℤ × Value). g.0 <ℤ other) fields (id, x)
          (all_then (λ (g : ℤ × Value). g.0 <ℤ id) (λ (g : ℤ × Value). g.0 <ℤ other) (λ g less. omega (arith, ints, less, low)) fields under) low);
    }

    pub fields_kept_end : (fields : List (ℤ × Value)) (made : Fields) (most left : ℕ) (last : ℤ) (rest behind start : Unread) → most ≡ suc left
        → FieldsKept declared fields most last rest start → wire.field last rest ≡ Ok (stop, behind) → fields_of made ≡ fields → ReadsFields wire levels structs declared start made behind
    fields_kept_end fields made most left last rest behind start more kept head is = record {
      read = fields_end wire levels fields made most left last rest behind start more kept.read head is;
      settled = subst (λ (fs : List (ℤ × Value)). AllByRecursion (IsFieldSettled structs declared) fs) (sym is) kept.settled;
      rising = subst AreIdsRising (sym is) kept.rising;
    }
