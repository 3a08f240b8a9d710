-- A value in which nothing is missing means itself.
use Rattle.std.proofs.Common.{◌≡◌, ℕ, Bool, true, false, cond, List, [], ◌∷◌, length, Option, Some, None, Ok, Err, refl, sym, ap, ap₂, ◌∙◌}
use Rattle.std.specs.Prelude.{⊤, ◌≤◌, nat_lt, All, MatchOption, not, ◌&&◌, ◌==◌, is_some}
use Rattle.std.specs.List.{slice_get}
use Rattle.std.proofs.lemmas.Bool.{and_from, le-ltb}
use Rattle.thrift_value.specs.declared.tag.Tag.{Tag}
use Rattle.thrift_value.specs.Measures.{count_of, depth_of}
use Rattle.thrift_value.specs.Order.{tree_cmp}
use Rattle.thrift_value.specs.Plain.{plain, plain_fields, plain_items, plain_pairs}
use Rattle.thrift_value.specs.Tidy.{IsTidy, AreTidyFields, AreTidyItems, AreTidyPairs, IsBelowItems, IsBelowKeys, AreRisingFields, AreRisingItems, AreRisingPairs}
use Rattle.thrift_value.specs.Tree.{Tree, of_bool, of_i8, of_i16, of_i32, of_i64, of_double, of_bytes, of_struct, of_map, of_set, of_list, of_uuid, FieldTrees, no_fields, field, ItemTrees, no_items, item, PairTrees, no_pairs, pair}
use Rattle.thrift_value.specs.TreeOf.{field_trees, item_trees, pair_trees}
use Rattle.schema.specs.declared.types.FieldNeed.TheVariants as need
use Rattle.schema.specs.PlainKind.{PlainKind, kind_bool, kind_i8, kind_i16, kind_i32, kind_i64, kind_double, kind_text, kind_binary, kind_uuid, kind_enum, kind_struct, kind_map, kind_set, kind_list}
use Rattle.schema.specs.PlainSchema.{PlainField, PlainStruct, PlainSchema}
use Rattle.schema.specs.Sound.{IsSoundStruct, IsSound}
use Rattle.schema.specs.WrittenAs.{field_with_id, HasFieldTree, HasItsFields, IsOneField, IsWrittenAs, AreFieldsWrittenAs, AreItemsWrittenAs, ArePairsWrittenAs}
use Rattle.struct_skew.specs.declared.fault.SkewFault.TheVariants.{UnionFields, TooDeep, TooMany}
use Rattle.struct_skew.specs.Filled.{HasItsDefaults, IsFilled, AreFieldsFilled, AreItemsFilled, ArePairsFilled}
use Rattle.struct_skew.specs.Fits.{each_item, each_pair, fits_kind}
use Rattle.known_parts.specs.Parts.{tag_of_kind}
use Rattle.struct_skew.specs.Latest.{latest_of_each, ComesBefore, IsRisingBy}
use Rattle.struct_skew.specs.Offers.{last_offer}
use Rattle.struct_skew.specs.Projection.{is_union, counted_default, field_value, field_values, checked_struct, struct_value, key_cmp, map_meaning, set_meaning, list_meaning, meaning_of, offers_of, item_meanings, pair_meanings, bounded, projection}
use Rattle.struct_skew.specs.Results.{with_value, and_if_ok, both_values, with_first}
use Rattle.struct_skew.specs.Unions.{one_of_union}
use Rattle.struct_skew.proofs.Deciding.{union_kind}
use Rattle.struct_skew.proofs.Each.{Each, from_all}
use Rattle.struct_skew.proofs.FieldValues.{checked_alike}
use Rattle.struct_skew.proofs.FilledStructs.{value_at, field_list, same_fields, FieldsFit, FieldsMean, offered, nothing_unsent, values_found, AreDeclared, same_values}
use Rattle.struct_skew.proofs.LatestLaws.{rising_stay}
use Rattle.struct_skew.proofs.Rightness.{rising_declared, each_found, AreRisingDeclared}
use Rattle.struct_skew.proofs.StructsAt.{All-at}

-- elements and pairs as lists
abbrev item_list : ItemTrees → List Tree
item_list no_items = []
item_list (item value more) = value ∷ item_list more

abbrev pair_list : PairTrees → List (Tree × Tree)
pair_list no_pairs = []
pair_list (pair key value more) = (key, value) ∷ pair_list more

same_items : (items : ItemTrees) → item_trees (item_list items) ≡ items
same_items no_items = refl
same_items (item value more) = ap (item value) (same_items more)

same_pairs : (pairs : PairTrees) → pair_trees (pair_list pairs) ≡ pairs
same_pairs no_pairs = refl
same_pairs (pair key value more) = ap (pair key value) (same_pairs more)

-- what rises in a tree rises as a list
items_before : (x : Tree) (items : ItemTrees) → IsBelowItems x items → ComesBefore tree_cmp x (item_list items)
items_before x no_items below = tt
items_before x (item _ more) below = (below.0, items_before x more below.1)

items_rise : (items : ItemTrees) → AreRisingItems items → IsRisingBy tree_cmp (item_list items)
items_rise no_items rising = tt
items_rise (item value more) rising = (items_before value more rising.0, items_rise more rising.1)

pairs_before : (key value : Tree) (pairs : PairTrees) → IsBelowKeys key pairs → ComesBefore key_cmp (key, value) (pair_list pairs)
pairs_before key value no_pairs below = tt
pairs_before key value (pair _ _ more) below = (below.0, pairs_before key value more below.1)

pairs_rise : (pairs : PairTrees) → AreRisingPairs pairs → IsRisingBy key_cmp (pair_list pairs)
pairs_rise no_pairs rising = tt
pairs_rise (pair key value more) rising = (pairs_before key value more rising.0, pairs_rise more rising.1)

-- containers of elements that mean themselves
set_itself : (kind : PlainKind) (t : Tag) (items : ItemTrees) → t ≡ tag_of_kind kind → AreRisingItems items → set_meaning kind (item_list items) ≡ of_set t items
set_itself kind t items tagged rising =
    ap₂ of_set (sym tagged) (ap item_trees (rising_stay tree_cmp (item_list items) (items_rise items rising)) ∙ same_items items)

list_itself : (kind : PlainKind) (t : Tag) (items : ItemTrees) → t ≡ tag_of_kind kind → list_meaning kind (item_list items) ≡ of_list t items
list_itself kind t items tagged = ap₂ of_list (sym tagged) (same_items items)

map_itself : (key value : PlainKind) (k t : Tag) (pairs : PairTrees) → k ≡ tag_of_kind key → t ≡ tag_of_kind value → AreRisingPairs pairs
    → map_meaning key value (pair_list pairs) ≡ of_map k t pairs
map_itself key value k t pairs key_tag value_tag rising =
    let inner : pair_trees (latest_of_each key_cmp (pair_list pairs)) ≡ pairs = ap pair_trees (rising_stay key_cmp (pair_list pairs) (pairs_rise pairs rising)) ∙ same_pairs pairs in
    λ i. of_map (sym key_tag i) (sym value_tag i) (inner i)

-- what is said of a declared field
of_declared : (o : Option PlainField) (P Q R : PlainField → Type 0) → MatchOption o ⊥ P → MatchOption o ⊤ Q → ((f : PlainField) → P f → Q f → R f) → MatchOption o ⊥ R
of_declared None P Q R p q on = p
of_declared (Some f) P Q R p q on = on f p q

it_is_declared : (o : Option PlainField) (P : PlainField → Type 0) → MatchOption o ⊥ P → is_some o ≡ true
it_is_declared None P p = absurd p
it_is_declared (Some f) P p = refl

module _ (structs : List PlainStruct) where
  are_declared : (declared : List PlainField) (fields : FieldTrees) → AreFieldsWrittenAs structs declared fields → AreDeclared declared fields
  are_declared declared no_fields typed = tt
  are_declared declared (field id value more) typed =
      (it_is_declared (field_with_id id declared) (λ (f : PlainField). IsWrittenAs structs f.kind value) typed.0, are_declared declared more typed.1)

  mutual
    -- a value of a type fits it
    pub fits_itself : (kind : PlainKind) (v : Tree) → IsWrittenAs structs kind v → fits_kind kind (plain v) ≡ true
    fits_itself kind_bool (of_bool _) typed = refl
    fits_itself kind_i8 (of_i8 _) typed = refl
    fits_itself kind_i16 (of_i16 _) typed = refl
    fits_itself kind_i32 (of_i32 _) typed = refl
    fits_itself kind_i64 (of_i64 _) typed = refl
    fits_itself kind_double (of_double _) typed = refl
    fits_itself kind_uuid (of_uuid _) typed = refl
    fits_itself kind_text (of_bytes _) typed = refl
    fits_itself kind_binary (of_bytes _) typed = refl
    fits_itself (kind_enum _) (of_i32 _) typed = refl
    fits_itself (kind_struct _) (of_struct _) typed = refl
    fits_itself (kind_map key value) (of_map _ _ no_pairs) typed = refl
    fits_itself (kind_map key value) (of_map _ _ (pair k v more)) typed =
        and_from (fits_kind key (plain k) && fits_kind value (plain v)) (each_pair (fits_kind key) (fits_kind value) (plain_pairs more))
        (and_from (fits_kind key (plain k)) (fits_kind value (plain v)) (fits_itself key k typed.0) (fits_itself value v typed.1)) (pairs_fit key value more typed.2)
    fits_itself (kind_set member) (of_set _ no_items) typed = refl
    fits_itself (kind_set member) (of_set _ (item v more)) typed =
        and_from (fits_kind member (plain v)) (each_item (fits_kind member) (plain_items more)) (fits_itself member v typed.0) (items_fit member more typed.1)
    fits_itself (kind_list element) (of_list _ no_items) typed = refl
    fits_itself (kind_list element) (of_list _ (item v more)) typed =
        and_from (fits_kind element (plain v)) (each_item (fits_kind element) (plain_items more)) (fits_itself element v typed.0) (items_fit element more typed.1)
    fits_itself _ _ typed = absurd typed

    items_fit : (kind : PlainKind) (items : ItemTrees) → AreItemsWrittenAs structs kind items → each_item (fits_kind kind) (plain_items items) ≡ true
    items_fit kind no_items typed = refl
    items_fit kind (item v more) typed =
        and_from (fits_kind kind (plain v)) (each_item (fits_kind kind) (plain_items more)) (fits_itself kind v typed.0) (items_fit kind more typed.1)

    pairs_fit : (key value : PlainKind) (pairs : PairTrees) → ArePairsWrittenAs structs key value pairs → each_pair (fits_kind key) (fits_kind value) (plain_pairs pairs) ≡ true
    pairs_fit key value no_pairs typed = refl
    pairs_fit key value (pair k v more) typed =
        and_from (fits_kind key (plain k) && fits_kind value (plain v)) (each_pair (fits_kind key) (fits_kind value) (plain_pairs more))
        (and_from (fits_kind key (plain k)) (fits_kind value (plain v)) (fits_itself key k typed.0) (fits_itself value v typed.1)) (pairs_fit key value more typed.2)

  fields_fit : (declared : List PlainField) (fields : FieldTrees) → AreFieldsWrittenAs structs declared fields → FieldsFit declared fields
  fields_fit declared no_fields typed = tt
  fields_fit declared (field id value more) typed = (
    of_declared (field_with_id id declared) (λ (f : PlainField). IsWrittenAs structs f.kind value) (λ _. ⊤) (λ (f : PlainField). fits_kind f.kind (plain value) ≡ true) typed.0
        (nothing (field_with_id id declared)) (λ f is _. fits_itself f.kind value is),
    fields_fit declared more typed.1,
  )
    where
      nothing : (o : Option PlainField) → MatchOption o ⊤ (λ _. ⊤)
      nothing None = tt
      nothing (Some f) = tt

-- a struct whose fields mean themselves
module _ (s : PlainSchema) (sound : All (IsSoundStruct s) s.structs) (which : ℕ) (d : PlainStruct) (here : slice_get s.structs which ≡ Some d) (fields : FieldTrees)
    (rises : AreRisingFields fields) (its : HasItsFields d fields) (typed : AreFieldsWrittenAs s.structs d.fields fields) (defaults : HasItsDefaults d fields)
    (mean : FieldsMean s.structs d.fields fields) where
  declared_rise : AreRisingDeclared d.fields
  declared_rise = rising_declared d.fields (All-at (IsSoundStruct s) s.structs which d sound here).fields.rising

  each_value : (fs : List PlainField) → Each (λ (f : PlainField). field_with_id f.id d.fields ≡ Some f) fs
      → Each (λ (f : PlainField). f.need ≡ need.Required → HasFieldTree f.id fields) fs → Each (λ (f : PlainField). is_some (counted_default d.kind f) ≡ true → HasFieldTree f.id fields) fs
      → Each (λ (f : PlainField). field_value which d.kind f (last_offer f (offers_of s.structs (plain_fields fields))) ≡ Ok (value_at f.id fields)) fs
  each_value [] finds required defaulted = tt
  each_value (f ∷ fs) finds required defaulted = (
    offered s.structs f d.fields finds.0 fields rises (fields_fit s.structs d.fields fields typed) mean which d.kind (nothing_unsent which d.kind f fields required.0 defaulted.0),
    each_value fs finds.1 required.1 defaulted.1,
  )

  all_values : field_values which d.kind d.fields (offers_of s.structs (plain_fields fields)) ≡ Ok (field_list fields)
  all_values =
      values_found which d.kind (offers_of s.structs (plain_fields fields)) fields d.fields
      (each_value d.fields (each_found d.fields declared_rise) (from_all (λ (f : PlainField). f.need ≡ need.Required → HasFieldTree f.id fields) d.fields its.required)
      (from_all (λ (f : PlainField). is_some (counted_default d.kind f) ≡ true → HasFieldTree f.id fields) d.fields defaults))
      ∙ ap Ok (same_values d.fields declared_rise fields rises (are_declared s.structs d.fields fields typed))

  one_of : one_of_union which d.kind (field_list fields) ≡ Ok (of_struct fields)
  one_of = by_kind (is_union d.kind) refl ∙ ap (λ fs. Ok (of_struct fs)) (same_fields fields)
    where
      single : (fs : FieldTrees) → IsOneField fs → (length (field_list fs) == 1) ≡ true
      single no_fields one = absurd one
      single (field _ _ no_fields) one = refl
      single (field _ _ (field _ _ _)) one = absurd one

      by_kind : (u : Bool) → is_union d.kind ≡ u
          → cond (u && not (length (field_list fields) == 1)) (Err (UnionFields which)) (Ok (of_struct (field_trees (field_list fields)))) ≡ Ok (of_struct (field_trees (field_list fields)))
      by_kind true e =
          ap (λ b. cond (not b) (Err (UnionFields which)) (Ok (of_struct (field_trees (field_list fields))))) (single fields (its.of_union ((union_kind d.kind).0 e)))
      by_kind false e = refl

  pub struct_itself : struct_value which (Some d) (offers_of s.structs (plain_fields fields)) ≡ Ok (of_struct fields)
  struct_itself =
      ap (λ r. and_if_ok r (checked_struct which d (offers_of s.structs (plain_fields fields)))) all_values
      ∙ checked_alike which d (offers_of s.structs (plain_fields fields)) (field_list fields) all_values ∙ one_of

module _ (s : PlainSchema) (sound : All (IsSoundStruct s) s.structs) where
  place_itself : (which : ℕ) (fields : FieldTrees) → AreRisingFields fields → (o : Option PlainStruct) → slice_get s.structs which ≡ o
      → MatchOption o ⊥ (λ (d : PlainStruct). HasItsFields d fields × AreFieldsWrittenAs s.structs d.fields fields)
      → MatchOption o ⊤ (λ (d : PlainStruct). HasItsDefaults d fields × AreFieldsFilled s.structs d.fields fields)
      → ((d : PlainStruct) → AreFieldsWrittenAs s.structs d.fields fields → AreFieldsFilled s.structs d.fields fields → FieldsMean s.structs d.fields fields)
      → struct_value which o (offers_of s.structs (plain_fields fields)) ≡ Ok (of_struct fields)
  place_itself which _ rises None here typed filled mean = absurd typed
  place_itself which fields rises (Some d) here typed filled mean = struct_itself s sound which d here fields rises typed.0 typed.1 filled.0 (mean d typed.1 filled.1)

  mutual
    pub itself : (kind : PlainKind) (v : Tree) → IsTidy v → IsWrittenAs s.structs kind v → IsFilled s.structs kind v → meaning_of s.structs (plain v) kind ≡ Ok v
    itself kind_bool (of_bool _) tidy typed filled = refl
    itself kind_i8 (of_i8 _) tidy typed filled = refl
    itself kind_i16 (of_i16 _) tidy typed filled = refl
    itself kind_i32 (of_i32 _) tidy typed filled = refl
    itself kind_i64 (of_i64 _) tidy typed filled = refl
    itself kind_double (of_double _) tidy typed filled = refl
    itself kind_uuid (of_uuid _) tidy typed filled = refl
    itself kind_text (of_bytes _) tidy typed filled = refl
    itself kind_binary (of_bytes _) tidy typed filled = refl
    itself (kind_enum _) (of_i32 _) tidy typed filled = refl
    itself (kind_struct which) (of_struct fields) tidy typed filled =
        place_itself which fields tidy.in_order.0 (slice_get s.structs which) refl typed filled (λ d is full. fields_mean d.fields fields (tidy.tagged, tidy.in_order.1) is full)
    itself (kind_map key value) (of_map k t no_pairs) tidy typed filled = ap Ok (map_itself key value k t no_pairs filled.0 filled.1 tt)
    itself (kind_map key value) (of_map k t (pair a b more)) tidy typed filled =
        ap (with_value (map_meaning key value)) (pairs_mean key value k t (pair a b more) (tidy.tagged, tidy.in_order.1) typed filled.2)
        ∙ ap Ok (map_itself key value k t (pair a b more) filled.0 filled.1 tidy.in_order.0)
    itself (kind_set member) (of_set t no_items) tidy typed filled = ap Ok (set_itself member t no_items filled.0 tt)
    itself (kind_set member) (of_set t (item v more)) tidy typed filled =
        ap (with_value (set_meaning member)) (items_mean member t (item v more) (tidy.tagged, tidy.in_order.1) typed filled.1)
        ∙ ap Ok (set_itself member t (item v more) filled.0 tidy.in_order.0)
    itself (kind_list element) (of_list t no_items) tidy typed filled = ap Ok (list_itself element t no_items filled.0)
    itself (kind_list element) (of_list t (item v more)) tidy typed filled =
        ap (with_value (list_meaning element)) (items_mean element t (item v more) (tidy.tagged, tidy.in_order) typed filled.1)
        ∙ ap Ok (list_itself element t (item v more) filled.0)
    itself _ _ tidy typed filled = absurd typed

    fields_mean : (declared : List PlainField) (fields : FieldTrees) → AreTidyFields fields → AreFieldsWrittenAs s.structs declared fields → AreFieldsFilled s.structs declared fields
        → FieldsMean s.structs declared fields
    fields_mean declared no_fields tidy typed filled = tt
    fields_mean declared (field id value more) tidy typed filled = (
      of_declared (field_with_id id declared) (λ (f : PlainField). IsWrittenAs s.structs f.kind value) (λ (f : PlainField). IsFilled s.structs f.kind value)
          (λ (f : PlainField). meaning_of s.structs (plain value) f.kind ≡ Ok value) typed.0 filled.0
          (λ f is full. itself f.kind value (record { tagged = tidy.0.0; in_order = tidy.1.0 }) is full),
      fields_mean declared more (tidy.0.1, tidy.1.1) typed.1 filled.1,
    )

    items_mean : (kind : PlainKind) (t : Tag) (items : ItemTrees) → AreTidyItems t items → AreItemsWrittenAs s.structs kind items → AreItemsFilled s.structs kind items
        → item_meanings s.structs (plain_items items) kind ≡ Ok (item_list items)
    items_mean kind t no_items tidy typed filled = refl
    items_mean kind t (item v more) tidy typed filled =
        ap₂ with_first (itself kind v (record { tagged = tidy.0.1; in_order = tidy.1.0 }) typed.0 filled.0) (items_mean kind t more (tidy.0.2, tidy.1.1) typed.1 filled.1)

    pairs_mean : (key value : PlainKind) (k t : Tag) (pairs : PairTrees) → AreTidyPairs k t pairs → ArePairsWrittenAs s.structs key value pairs → ArePairsFilled s.structs key value pairs
        → pair_meanings s.structs (plain_pairs pairs) key value ≡ Ok (pair_list pairs)
    pairs_mean key value k t no_pairs tidy typed filled = refl
    pairs_mean key value k t (pair a b more) tidy typed filled =
        ap₂ with_first
        (ap₂ both_values (itself key a (record { tagged = tidy.0.2; in_order = tidy.1.0 }) typed.0 filled.0) (itself value b (record { tagged = tidy.0.3; in_order = tidy.1.1 }) typed.1 filled.1))
        (pairs_mean key value k t more (tidy.0.4, tidy.1.2) typed.2 filled.2)

-- a value within its bounds
pub within_bounds : (v : Tree) → depth_of v ≤ 64 → count_of v ≤ 4000000 → bounded v ≡ Ok v
within_bounds v levels values =
    ap (λ b. cond b (Err TooDeep) (cond (nat_lt 4000000 (count_of v)) (Err TooMany) (Ok v))) (le-ltb 64 (depth_of v) levels)
    ∙ ap (λ b. cond b (Err TooMany) (Ok v)) (le-ltb 4000000 (count_of v) values)

pub filled_stays : (s : PlainSchema) (which : ℕ) (v : Tree) → IsSound s → IsTidy v → IsWrittenAs s.structs (kind_struct which) v → IsFilled s.structs (kind_struct which) v
    → depth_of v ≤ 64 → count_of v ≤ 4000000 → projection s which (plain v) ≡ Ok v
filled_stays s which v sound tidy typed filled levels values =
    ap (λ r. and_if_ok r bounded) (itself s sound.all_else.structs (kind_struct which) v tidy typed filled) ∙ within_bounds v levels values
