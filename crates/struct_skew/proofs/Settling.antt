-- A settled value means itself.
use Rattle.std.proofs.Common.{◌≡◌, ℕ, ◌≤◌, Bool, true, false, List, [], ◌∷◌, Option, Some, None, Ok, refl, sym, ap, ◌∙◌}
use Rattle.std.specs.Prelude.{⊤, ◌&&◌, ◌||◌, not, is_some, MatchOption}
use Rattle.std.specs.List.{slice_get}
use Rattle.std.proofs.lemmas.Bool.{false≢true}
use Rattle.thrift_value.specs.Measures.{count_of, depth_of}
use Rattle.thrift_value.specs.Tree.{Tree, of_bool, of_i8, of_i16, of_i32, of_i64, of_double, of_bytes, of_struct, of_map, of_set, of_list, of_uuid, FieldTrees, no_fields, field, ItemTrees, no_items, item, PairTrees, no_pairs, pair}
use Rattle.schema.specs.declared.types.FieldNeed.TheVariants as need
use Rattle.schema.specs.PlainKind.{PlainKind, kind_bool, kind_i8, kind_i16, kind_i32, kind_i64, kind_double, kind_text, kind_binary, kind_uuid, kind_enum, kind_struct, kind_map, kind_set, kind_list}
use Rattle.schema.specs.PlainSchema.{PlainField, PlainStruct, PlainSchema}
use Rattle.schema.specs.Sound.{IsSound}
use Rattle.schema.specs.WrittenAs.{field_with_id, HasFieldTree, HasItsFields, IsWrittenAs, AreFieldsWrittenAs, AreItemsWrittenAs, ArePairsWrittenAs}
use Rattle.known_parts.specs.Parts.{tag_of_kind, are_same_tags}
use Rattle.struct_skew.specs.Filled.{HasItsDefaults, IsFilled, AreFieldsFilled, AreItemsFilled, ArePairsFilled}
use Rattle.struct_skew.specs.FilledTests.{has_defaulted_fields, is_filled, are_fields_filled, are_items_filled, are_pairs_filled, is_settled}
use Rattle.struct_skew.specs.Fits.{fits_kind}
use Rattle.struct_skew.specs.Needs.{is_defaulted_field}
use Rattle.struct_skew.specs.Projection.{is_required, counted_default, meaning_of, bounded, projection}
use Rattle.struct_skew.specs.Results.{and_if_ok}
use Rattle.struct_skew.specs.TidyTests.{is_tidy}
use Rattle.struct_skew.specs.WrittenTests.{some_passes, has_field_tree, has_fields_where, is_written_as}
use Rattle.struct_skew.proofs.Deciding.{same_tag, has_field, required_need, decides_tidy, decides_type}
use Rattle.struct_skew.proofs.Each.{Each, from_all, to_all}
use Rattle.struct_skew.proofs.Filling.{fits_itself, itself, within_bounds}
use Rattle.struct_skew.proofs.PlainAlike.{both, fits_alike, means_alike}

-- a field with a default is there: where it has to be there, or by the test
module _ (d : PlainStruct) (fields : FieldTrees) where
  defaulted : (f : PlainField) → (f.need ≡ need.Required → HasFieldTree f.id fields) → (not (is_defaulted_field d.kind f) || has_field_tree f.id fields) ≡ true
      → is_some (counted_default d.kind f) ≡ true → HasFieldTree f.id fields
  defaulted f required tested default = by_need (is_required f.need) (is_some (counted_default d.kind f)) (has_field_tree f.id fields) (required_need f.need).0 (has_field f.id fields).0 tested default
    where
      by_need : (r e t : Bool) → (r ≡ true → f.need ≡ need.Required) → (t ≡ true → HasFieldTree f.id fields) → (not (not r && e) || t) ≡ true → e ≡ true → HasFieldTree f.id fields
      by_need true e t has there tested default = required (has refl)
      by_need false true t has there tested default = there tested
      by_need false false t has there tested default = absurd (false≢true default)

  each_defaulted : (fs : List PlainField) → Each (λ (f : PlainField). f.need ≡ need.Required → HasFieldTree f.id fields) fs → has_fields_where (is_defaulted_field d.kind) fs fields ≡ true
      → Each (λ (f : PlainField). is_some (counted_default d.kind f) ≡ true → HasFieldTree f.id fields) fs
  each_defaulted [] required tested = tt
  each_defaulted (f ∷ fs) required tested =
      let parts = both (not (is_defaulted_field d.kind f) || has_field_tree f.id fields) (has_fields_where (is_defaulted_field d.kind) fs fields) tested in
      (defaulted f required.0 parts.0, each_defaulted fs required.1 parts.1)

  pub has_defaults : HasItsFields d fields → has_defaulted_fields d fields ≡ true → HasItsDefaults d fields
  has_defaults its tested =
      to_all (λ (f : PlainField). is_some (counted_default d.kind f) ≡ true → HasFieldTree f.id fields) d.fields
      (each_defaulted d.fields (from_all (λ (f : PlainField). f.need ≡ need.Required → HasFieldTree f.id fields) d.fields its.required) tested)

module _ (structs : List PlainStruct) where
  struct_filled : (fields : FieldTrees) (o : Option PlainStruct) → MatchOption o ⊥ (λ (d : PlainStruct). HasItsFields d fields × AreFieldsWrittenAs structs d.fields fields)
      → some_passes o (λ d. has_defaulted_fields d fields && are_fields_filled structs d.fields fields) ≡ true
      → ((d : PlainStruct) → AreFieldsWrittenAs structs d.fields fields → are_fields_filled structs d.fields fields ≡ true → AreFieldsFilled structs d.fields fields)
      → MatchOption o ⊤ (λ (d : PlainStruct). HasItsDefaults d fields × AreFieldsFilled structs d.fields fields)
  struct_filled fields None typed e rest = tt
  struct_filled fields (Some d) typed e rest =
      let parts = both (has_defaulted_fields d fields) (are_fields_filled structs d.fields fields) e in
      (has_defaults d fields typed.0 parts.0, rest d typed.1 parts.1)

  field_filled : (value : Tree) (o : Option PlainField) → MatchOption o ⊥ (λ (f : PlainField). IsWrittenAs structs f.kind value)
      → some_passes o (λ f. is_filled structs f.kind value) ≡ true → ((kind : PlainKind) → IsWrittenAs structs kind value → is_filled structs kind value ≡ true → IsFilled structs kind value)
      → MatchOption o ⊤ (λ (f : PlainField). IsFilled structs f.kind value)
  field_filled value None typed e each = tt
  field_filled value (Some f) typed e each = each f.kind typed e

  mutual
    -- a value of a type that passes the test is filled
    filled_by : (kind : PlainKind) (v : Tree) → IsWrittenAs structs kind v → is_filled structs kind v ≡ true → IsFilled structs kind v
    filled_by kind_bool (of_bool _) typed e = tt
    filled_by kind_i8 (of_i8 _) typed e = tt
    filled_by kind_i16 (of_i16 _) typed e = tt
    filled_by kind_i32 (of_i32 _) typed e = tt
    filled_by kind_i64 (of_i64 _) typed e = tt
    filled_by kind_double (of_double _) typed e = tt
    filled_by kind_uuid (of_uuid _) typed e = tt
    filled_by kind_text (of_bytes _) typed e = tt
    filled_by kind_binary (of_bytes _) typed e = tt
    filled_by (kind_enum _) (of_i32 _) typed e = tt
    filled_by (kind_struct which) (of_struct fields) typed e =
        struct_filled fields (slice_get structs which) typed e (λ d is full. fields_filled d.fields fields is full)
    filled_by (kind_map key value) (of_map k v pairs) typed e =
        let parts = both (are_same_tags k (tag_of_kind key) && are_same_tags v (tag_of_kind value)) (are_pairs_filled structs key value pairs) e in
        let tags = both (are_same_tags k (tag_of_kind key)) (are_same_tags v (tag_of_kind value)) parts.0 in
        ((same_tag k (tag_of_kind key)).0 tags.0, (same_tag v (tag_of_kind value)).0 tags.1, pairs_filled key value pairs typed parts.1)
    filled_by (kind_set member) (of_set t items) typed e =
        let parts = both (are_same_tags t (tag_of_kind member)) (are_items_filled structs member items) e in
        ((same_tag t (tag_of_kind member)).0 parts.0, items_filled member items typed parts.1)
    filled_by (kind_list element) (of_list t items) typed e =
        let parts = both (are_same_tags t (tag_of_kind element)) (are_items_filled structs element items) e in
        ((same_tag t (tag_of_kind element)).0 parts.0, items_filled element items typed parts.1)
    filled_by _ _ typed e = absurd typed

    fields_filled : (declared : List PlainField) (fields : FieldTrees) → AreFieldsWrittenAs structs declared fields → are_fields_filled structs declared fields ≡ true
        → AreFieldsFilled structs declared fields
    fields_filled declared no_fields typed e = tt
    fields_filled declared (field id value more) typed e =
        let parts = both (some_passes (field_with_id id declared) (λ f. is_filled structs f.kind value)) (are_fields_filled structs declared more) e in
        (field_filled value (field_with_id id declared) typed.0 parts.0 (λ kind is full. filled_by kind value is full), fields_filled declared more typed.1 parts.1)

    items_filled : (kind : PlainKind) (items : ItemTrees) → AreItemsWrittenAs structs kind items → are_items_filled structs kind items ≡ true → AreItemsFilled structs kind items
    items_filled kind no_items typed e = tt
    items_filled kind (item value more) typed e =
        let parts = both (is_filled structs kind value) (are_items_filled structs kind more) e in
        (filled_by kind value typed.0 parts.0, items_filled kind more typed.1 parts.1)

    pairs_filled : (key value : PlainKind) (pairs : PairTrees) → ArePairsWrittenAs structs key value pairs → are_pairs_filled structs key value pairs ≡ true
        → ArePairsFilled structs key value pairs
    pairs_filled key value no_pairs typed e = tt
    pairs_filled key value (pair k v more) typed e =
        let parts = both (is_filled structs key k && is_filled structs value v) (are_pairs_filled structs key value more) e in
        let here = both (is_filled structs key k) (is_filled structs value v) parts.0 in
        (filled_by key k typed.0 here.0, filled_by value v typed.1 here.1, pairs_filled key value more typed.2 parts.1)

pub settled_itself : (s : PlainSchema) (kind : PlainKind) (v : Tree) → IsSound s → is_settled s.structs kind v ≡ true → meaning_of s.structs v kind ≡ Ok v
settled_itself s kind v sound settled =
    let parts = both (is_tidy v) (is_written_as s.structs kind v && is_filled s.structs kind v) settled in
    let rest = both (is_written_as s.structs kind v) (is_filled s.structs kind v) parts.1 in
    let typed : IsWrittenAs s.structs kind v = (decides_type s.structs kind v).0 rest.0 in
    let fit : fits_kind kind v ≡ true = sym (fits_alike kind v) ∙ fits_itself s.structs kind v typed in
    sym (means_alike s.structs kind v fit)
    ∙ itself s sound.all_else.structs kind v ((decides_tidy v).0 parts.0) typed (filled_by s.structs kind v typed rest.1)

pub settled_projected : (s : PlainSchema) (which : ℕ) (v : Tree) → IsSound s → is_settled s.structs (kind_struct which) v ≡ true → depth_of v ≤ 64 → count_of v ≤ 4000000
    → projection s which v ≡ Ok v
settled_projected s which v sound settled levels values =
    ap (λ r. and_if_ok r bounded) (settled_itself s (kind_struct which) v sound settled) ∙ within_bounds v levels values
