-- Values that may be written as a type, with what a container needs of each of its elements.
use Rattle.std.proofs.Common.{◌≡◌, ℕ, suc, ◌≤◌, ◌<◌, ◌^◌, refl, sym, subst, arith}
use Rattle.std.specs.Prelude.{⊤, MatchOption, Option, Some, List}
use Rattle.thrift_value.specs.Tags.{tag_of}
use Rattle.thrift_value.specs.Tree.{Tree, of_set, of_list, of_map, of_struct, FieldTrees, no_fields, field, ItemTrees, no_items, item, PairTrees, no_pairs, pair}
use Rattle.thrift_value.specs.Measures.{depth_of, fields_depth, items_depth, pairs_depth}
use Rattle.thrift_value.specs.Sizes.{HasSmallSizes, HaveFieldsSmallSizes, HaveItemsSmallSizes, HavePairsSmallSizes, items_len, pairs_len}
use Rattle.thrift_value.specs.Tidy.{IsWellTagged, AreWellTaggedFields, AreWellTaggedItems, AreWellTaggedPairs, IsInOrder, AreFieldsInOrder, AreItemsInOrder, ArePairsInOrder, AreRisingFields}
use Rattle.schema.specs.PlainKind.{PlainKind, kind_struct, kind_map, kind_set, kind_list}
use Rattle.schema.specs.PlainSchema.{PlainField, PlainStruct}
use Rattle.schema.specs.WrittenAs.{field_with_id, HasItsFields, IsWrittenAs, AreFieldsWrittenAs, AreItemsWrittenAs, ArePairsWrittenAs}
use Rattle.std.specs.List.{slice_get}
use Rattle.check_model.specs.TidyRows.{tidy_members, tidy_pairs}
use Rattle.check_model.specs.Evaluation.{kind_tag}
use Rattle.idl_const.proofs.TidyKept.{EachItem, EachPair, rising_members, each_member, members_len, rising_pairs, each_tidy_pair, pairs_len_tidy}

module _ (structs : List PlainStruct) where
  -- a value of a type, of at most so many levels
  pub record IsElement (kind : PlainKind) (levels : ℕ) (value : Tree) : Type 0 where
    pub written : IsWrittenAs structs kind value
    pub tag : tag_of value ≡ kind_tag kind
    pub tagged : IsWellTagged value
    pub ordered : IsInOrder value
    pub deep : depth_of value ≤ levels
    pub small : HasSmallSizes value

  -- each field's value is one of its field's type
  abbrev pub EachField : List PlainField → ℕ → FieldTrees → Type 0
  EachField items levels no_fields = ⊤
  EachField items levels (field id value more) =
      ((f : PlainField) × (field_with_id id items ≡ Some f) × IsElement f.kind levels value) × EachField items levels more

  -- items

  written_items : (kind : PlainKind) (levels : ℕ) (items : ItemTrees) → EachItem (IsElement kind levels) items → AreItemsWrittenAs structs kind items
  written_items kind levels no_items h = tt
  written_items kind levels (item x more) h = (h.0.written, written_items kind levels more h.1)

  tagged_items : (kind : PlainKind) (levels : ℕ) (items : ItemTrees) → EachItem (IsElement kind levels) items → AreWellTaggedItems (kind_tag kind) items
  tagged_items kind levels no_items h = tt
  tagged_items kind levels (item x more) h = (h.0.tag, h.0.tagged, tagged_items kind levels more h.1)

  ordered_items : (kind : PlainKind) (levels : ℕ) (items : ItemTrees) → EachItem (IsElement kind levels) items → AreItemsInOrder items
  ordered_items kind levels no_items h = tt
  ordered_items kind levels (item x more) h = (h.0.ordered, ordered_items kind levels more h.1)

  deep_items : (kind : PlainKind) (levels : ℕ) (items : ItemTrees) → EachItem (IsElement kind levels) items → items_depth items ≤ levels
  deep_items kind levels no_items h = omega arith
  deep_items kind levels (item x more) h = omega (arith, h.0.deep, deep_items kind levels more h.1)

  small_items : (kind : PlainKind) (levels : ℕ) (items : ItemTrees) → EachItem (IsElement kind levels) items → HaveItemsSmallSizes items
  small_items kind levels no_items h = tt
  small_items kind levels (item x more) h = (h.0.small, small_items kind levels more h.1)

  -- a list of such items
  pub list_element : (kind : PlainKind) (levels : ℕ) (items : ItemTrees) → EachItem (IsElement kind levels) items → items_len items < 2 ^ 31
      → IsElement (kind_list kind) (suc levels) (of_list (kind_tag kind) items)
  list_element kind levels items h few = record {
    written = written_items kind levels items h;
    tag = refl;
    tagged = tagged_items kind levels items h;
    ordered = ordered_items kind levels items h;
    deep = omega (arith, deep_items kind levels items h);
    small = (few, small_items kind levels items h);
  }

  -- a set of such members
  pub set_element : (kind : PlainKind) (levels : ℕ) (items : ItemTrees) → EachItem (IsElement kind levels) items → items_len items < 2 ^ 31
      → IsElement (kind_set kind) (suc levels) (of_set (kind_tag kind) (tidy_members items))
  set_element kind levels items h few =
      let members = tidy_members items in
      let each : EachItem (IsElement kind levels) members = each_member (IsElement kind levels) items h in
      record {
        written = written_items kind levels members each;
        tag = refl;
        tagged = tagged_items kind levels members each;
        ordered = (rising_members items, ordered_items kind levels members each);
        deep = omega (arith, deep_items kind levels members each);
        small = (omega (arith, few, members_len items), small_items kind levels members each);
      }

  -- pairs

  written_pairs : (key value : PlainKind) (levels : ℕ) (pairs : PairTrees) → EachPair (IsElement key levels) (IsElement value levels) pairs → ArePairsWrittenAs structs key value pairs
  written_pairs key value levels no_pairs h = tt
  written_pairs key value levels (pair k v more) h = (h.0.written, h.1.written, written_pairs key value levels more h.2)

  tagged_pairs : (key value : PlainKind) (levels : ℕ) (pairs : PairTrees) → EachPair (IsElement key levels) (IsElement value levels) pairs → AreWellTaggedPairs (kind_tag key) (kind_tag value) pairs
  tagged_pairs key value levels no_pairs h = tt
  tagged_pairs key value levels (pair k v more) h = (h.0.tag, h.1.tag, h.0.tagged, h.1.tagged, tagged_pairs key value levels more h.2)

  ordered_pairs : (key value : PlainKind) (levels : ℕ) (pairs : PairTrees) → EachPair (IsElement key levels) (IsElement value levels) pairs → ArePairsInOrder pairs
  ordered_pairs key value levels no_pairs h = tt
  ordered_pairs key value levels (pair k v more) h = (h.0.ordered, h.1.ordered, ordered_pairs key value levels more h.2)

  deep_pairs : (key value : PlainKind) (levels : ℕ) (pairs : PairTrees) → EachPair (IsElement key levels) (IsElement value levels) pairs → pairs_depth pairs ≤ levels
  deep_pairs key value levels no_pairs h = omega arith
  deep_pairs key value levels (pair k v more) h = omega (arith, h.0.deep, h.1.deep, deep_pairs key value levels more h.2)

  small_pairs : (key value : PlainKind) (levels : ℕ) (pairs : PairTrees) → EachPair (IsElement key levels) (IsElement value levels) pairs → HavePairsSmallSizes pairs
  small_pairs key value levels no_pairs h = tt
  small_pairs key value levels (pair k v more) h = (h.0.small, h.1.small, small_pairs key value levels more h.2)

  -- a map of such pairs
  pub map_element : (key value : PlainKind) (levels : ℕ) (made : PairTrees) → EachPair (IsElement key levels) (IsElement value levels) made → pairs_len made < 2 ^ 31
      → IsElement (kind_map key value) (suc levels) (of_map (kind_tag key) (kind_tag value) (tidy_pairs made))
  map_element key value levels made h few =
      let pairs = tidy_pairs made in
      let each : EachPair (IsElement key levels) (IsElement value levels) pairs = each_tidy_pair (IsElement key levels) (IsElement value levels) made h in
      record {
        written = written_pairs key value levels pairs each;
        tag = refl;
        tagged = tagged_pairs key value levels pairs each;
        ordered = (rising_pairs made, ordered_pairs key value levels pairs each);
        deep = omega (arith, deep_pairs key value levels pairs each);
        small = (omega (arith, few, pairs_len_tidy made), small_pairs key value levels pairs each);
      }

  -- fields

  found_written : (o : Option PlainField) (levels : ℕ) (value : Tree) (f : PlainField) → o ≡ Some f → IsElement f.kind levels value
      → MatchOption o ⊥ (λ g. IsWrittenAs structs g.kind value)
  found_written o levels value f is h = subst (λ o. MatchOption o ⊥ (λ (g : PlainField). IsWrittenAs structs g.kind value)) (sym is) h.written

  written_fields : (items : List PlainField) (levels : ℕ) (fields : FieldTrees) → EachField items levels fields → AreFieldsWrittenAs structs items fields
  written_fields items levels no_fields h = tt
  written_fields items levels (field id value more) h =
      (found_written (field_with_id id items) levels value h.0.0 h.0.1 h.0.2, written_fields items levels more h.1)

  tagged_fields : (items : List PlainField) (levels : ℕ) (fields : FieldTrees) → EachField items levels fields → AreWellTaggedFields fields
  tagged_fields items levels no_fields h = tt
  tagged_fields items levels (field id value more) h = (h.0.2.tagged, tagged_fields items levels more h.1)

  ordered_fields : (items : List PlainField) (levels : ℕ) (fields : FieldTrees) → EachField items levels fields → AreFieldsInOrder fields
  ordered_fields items levels no_fields h = tt
  ordered_fields items levels (field id value more) h = (h.0.2.ordered, ordered_fields items levels more h.1)

  deep_fields : (items : List PlainField) (levels : ℕ) (fields : FieldTrees) → EachField items levels fields → fields_depth fields ≤ levels
  deep_fields items levels no_fields h = omega arith
  deep_fields items levels (field id value more) h = omega (arith, h.0.2.deep, deep_fields items levels more h.1)

  small_fields : (items : List PlainField) (levels : ℕ) (fields : FieldTrees) → EachField items levels fields → HaveFieldsSmallSizes fields
  small_fields items levels no_fields h = tt
  small_fields items levels (field id value more) h = (h.0.2.small, small_fields items levels more h.1)

  -- a struct of such fields, of which each is there that has to be
  pub struct_element : (which : ℕ) (s : PlainStruct) (levels : ℕ) (fields : FieldTrees) → slice_get structs which ≡ Some s
      → EachField s.fields levels fields → AreRisingFields fields → HasItsFields s fields → IsElement (kind_struct which) (suc levels) (of_struct fields)
  struct_element which s levels fields is h rising its = record {
    written = subst (λ o. MatchOption o ⊥ (λ (s : PlainStruct). HasItsFields s fields × AreFieldsWrittenAs structs s.fields fields)) (sym is) (its, written_fields s.fields levels fields h);
    tag = refl;
    tagged = tagged_fields s.fields levels fields h;
    ordered = (rising, ordered_fields s.fields levels fields h);
    deep = omega (arith, deep_fields s.fields levels fields h);
    small = small_fields s.fields levels fields h;
  }
