-- Values that mean themselves are read, by what is read of their parts.
use Rattle.std.proofs.Common.{◌≡◌, ℕ, suc, ◌-◌, ◌≤◌, Bool, true, List, length, Option, Some, None, Ok, refl, sym, ap, subst, ◌∙◌, arith}
use Rattle.std.specs.Prelude.{MatchOption}
use Rattle.std.specs.List.{slice_get}
use Rattle.thrift_value.specs.declared.tag.Tag.{Tag}
use Rattle.thrift_value.specs.declared.tag.Tag.TheVariants as tags
use Rattle.thrift_value.specs.declared.value.Value as value_in
use Rattle.thrift_value.specs.declared.value.Fields.{Fields}
use Rattle.thrift_value.specs.declared.value.Items.{Items}
use Rattle.thrift_value.specs.declared.value.Pairs.{Pairs}
use Rattle.thrift_value.specs.Measures.{count_of, depth_of}
use Rattle.thrift_value.specs.Tags.{tag_of}
use Rattle.thrift_value.specs.Tree.{Tree, of_bool, of_bytes}
use Rattle.thrift_value.specs.TreeOf.{tree_of, items_of, pairs_of, fields_of, fields_tree, items_tree, pairs_tree}
use Rattle.thrift_value.proofs.Trees.{tree_of-Struct, tree_of-Map, tree_of-Set, tree_of-List}
use Rattle.schema.specs.PlainKind.{PlainKind, kind_struct, kind_map, kind_set, kind_list}
use Rattle.schema.specs.PlainSchema.{PlainStruct, PlainSchema}
use Rattle.schema.specs.Sound.{IsSound}
use Rattle.schema.specs.WrittenAs.{HasItsFields}
use Rattle.wire_num.specs.Encoded.{AreByteSized}
use Rattle.wire_model.specs.Decoder.{Unread, count_value}
use Rattle.wire_model.specs.Format.{Format}
use Rattle.wire_model.specs.Place.{TakenOff}
use Rattle.wire_model.specs.Reading.{value, item_list, pair_list}
use Rattle.wire_model.specs.Wire.{Wire, IsScalar}
use Rattle.wire_model.proofs.Answered.{front, placed_here}
use Rattle.wire_walk.proofs.Faults.{on_ok}
use Rattle.wire_walk.proofs.Opened.{bytes_is, struct_is, map_is, set_is, list_is, scalar_is}
use Rattle.known_parts.specs.Parts.{tag_of_kind, struct_of_kind, map_of_kind, set_of_kind, list_of_kind}
use Rattle.struct_skew.specs.Filled.{HasItsDefaults}
use Rattle.struct_skew.specs.Fits.{fits_kind}
use Rattle.struct_skew.specs.Latest.{IsRisingBy}
use Rattle.struct_skew.specs.Orders.{value_cmp, pair_cmp}
use Rattle.struct_skew.specs.Projection.{bounded, projection}
use Rattle.struct_skew.specs.ReadAs.{placed_projection, projected_read, read_then_projected}
use Rattle.struct_skew.specs.ReadSettled.{IsSettled, ReadsElements, ReadsField, ReadsLeaf, ReadsSettled, ReadsFields, ReadsItems, ReadsPairs}
use Rattle.struct_skew.specs.Results.{and_if_ok}
use Rattle.struct_skew.proofs.Filling.{fits_itself, itself, within_bounds}
use Rattle.struct_skew.proofs.PlainAlike.{fits_alike, means_alike}
use Rattle.struct_skew.proofs.SettledParts.{scalar_leaf, leaf_settled, list_settled, set_settled, map_settled, struct_settled}

module _ (wire : Wire) where
  -- a text, and a number or a bool
  pub text_read : (before counted after : Unread) (text : List ℕ) (x : Tree) → count_value before ≡ Ok (tt, counted) → wire.span counted ≡ Ok (text, after) → x ≡ of_bytes text
      → ReadsLeaf wire tags.Bytes before x after
  text_read before counted after text x one span is = record {
    read = λ levels. bytes_is wire levels tags.Bytes before counted one refl ∙ on_ok (wire.span counted) _ text after span ∙ ap (λ y. Ok (y, after)) (sym is);
    settled = λ structs kind tagged. subst (IsSettled structs kind) (sym is) (leaf_settled structs kind (of_bytes text) tt tagged);
  }

  pub number_read : (tag : Tag) (before counted after : Unread) (x : Tree) → IsScalar tag → count_value before ≡ Ok (tt, counted) → wire.scalar tag counted ≡ Ok (x, after)
      → (value wire 0 tag before ≡ Ok (x, after) → tag_of x ≡ tag) → ReadsLeaf wire tag before x after
  number_read tag before counted after x scalar one found tagged =
      let read : (levels : ℕ) → value wire levels tag before ≡ Ok (x, after) =
      λ levels. sym (scalar_is wire levels tag before counted one (λ e. subst IsScalar e scalar) (λ e. subst IsScalar e scalar) (λ e. subst IsScalar e scalar) (λ e. subst IsScalar e scalar) (λ e. subst IsScalar e scalar)) ∙ found in
      let has : tag_of x ≡ tag = tagged (read 0) in record {
        read = read;
        settled = λ structs kind is. leaf_settled structs kind x (scalar_leaf x (subst IsScalar (sym has) scalar)) (has ∙ is);
      }

  -- structs and containers
  module _ (levels n : ℕ) (structs : List PlainStruct) (before counted : Unread) (one : count_value before ≡ Ok (tt, counted)) (deep : levels ≡ suc n) where
    pub struct_read : (which : ℕ) (d : PlainStruct) (fields : Fields) (after : Unread) → slice_get structs which ≡ Some d → ReadsFields wire n structs d.fields counted fields after
        → HasItsFields d (fields_tree fields) → HasItsDefaults d (fields_tree fields)
        → ReadsSettled wire levels structs (kind_struct which) before (tree_of (value_in.Struct fields)) after
    struct_read which d fields after here h its defaults = record {
      read = struct_is wire levels n tags.Struct before counted one refl deep ∙ on_ok _ _ (fields_tree fields) after h.read ∙ ap (λ x. Ok (x, after)) (sym (tree_of-Struct fields));
      settled = subst (IsSettled structs (kind_struct which)) (sym (tree_of-Struct fields)) (struct_settled structs which d (fields_of fields) here h.settled h.rising its defaults);
    }

    module _ (tag : Tag) (count : ℕ) (inside after : Unread) (items : Items) (kind : PlainKind) (head : wire.items counted ≡ Ok ((tag, count), inside)) (is : tag ≡ tag_of_kind kind)
        (h : ReadsItems wire n structs kind count inside items after) where
      found : item_list (value wire n) tag count inside ≡ Ok (items_tree items, after)
      found = ap (λ t. item_list (value wire n) t count inside) is ∙ h.read

      pub elements_read : ReadsElements wire levels structs kind before tag items after
      elements_read = record {
        list = list_is wire levels n tags.List before counted one refl deep ∙ on_ok (wire.items counted) _ (tag, count) inside head ∙ on_ok _ _ (items_tree items) after found;
        set = set_is wire levels n tags.Set before counted one refl deep ∙ on_ok (wire.items counted) _ (tag, count) inside head ∙ on_ok _ _ (items_tree items) after found;
        tagged = is;
        settled = h.settled;
      }

    pub map_read : (k t : Tag) (count : ℕ) (inside after : Unread) (pairs : Pairs) (key_kind value_kind : PlainKind) → wire.pairs counted ≡ Ok ((k, t, count), inside)
        → k ≡ tag_of_kind key_kind → t ≡ tag_of_kind value_kind → ReadsPairs wire n structs key_kind value_kind count inside pairs after → IsRisingBy pair_cmp (pairs_of pairs)
        → ReadsSettled wire levels structs (kind_map key_kind value_kind) before (tree_of (value_in.Map k t pairs)) after
    map_read k t count inside after pairs key_kind value_kind head key_is value_is h rising =
        let found : pair_list (value wire n) k t count inside ≡ Ok (pairs_tree pairs, after) = (λ i. pair_list (value wire n) (key_is i) (value_is i) count inside) ∙ h.read in record {
          read =
              map_is wire levels n tags.Map before counted one refl deep ∙ on_ok (wire.pairs counted) _ (k, t, count) inside head ∙ on_ok _ _ (pairs_tree pairs) after found
              ∙ ap (λ x. Ok (x, after)) (sym (tree_of-Map k t pairs));
          settled =
              subst (IsSettled structs (kind_map key_kind value_kind)) (sym (tree_of-Map k t pairs)) (map_settled structs key_kind value_kind k t (pairs_of pairs) key_is value_is h.settled rising);
        }

  -- a list and a set of elements that were read
  module _ (levels : ℕ) (structs : List PlainStruct) (kind : PlainKind) (before : Unread) (tag : Tag) (items : Items) (after : Unread) (h : ReadsElements wire levels structs kind before tag items after) where
    pub list_read : ReadsSettled wire levels structs (kind_list kind) before (tree_of (value_in.List tag items)) after
    list_read = record {
      read = h.list ∙ ap (λ x. Ok (x, after)) (sym (tree_of-List tag items));
      settled = subst (IsSettled structs (kind_list kind)) (sym (tree_of-List tag items)) (list_settled structs kind tag (items_of items) h.tagged h.settled);
    }

    pub set_read : IsRisingBy value_cmp (items_of items) → ReadsSettled wire levels structs (kind_set kind) before (tree_of (value_in.Set tag items)) after
    set_read rising = record {
      read = h.set ∙ ap (λ x. Ok (x, after)) (sym (tree_of-Set tag items));
      settled = subst (IsSettled structs (kind_set kind)) (sym (tree_of-Set tag items)) (set_settled structs kind tag (items_of items) h.tagged h.settled rising);
    }

-- a type by the parts that it was found to have
pub kind_of_struct : (kind : PlainKind) (which : ℕ) → Some which ≡ struct_of_kind kind → kind_struct which ≡ kind
kind_of_struct (kind_struct n) which is = let same : which ≡ n = cc in ap (λ k. kind_struct k) same
kind_of_struct _ which is = absurd cc

pub kind_of_map : (kind : PlainKind) (p : PlainKind × PlainKind) → Some p ≡ map_of_kind kind → kind_map p.0 p.1 ≡ kind
kind_of_map (kind_map key value) p is = let same : p ≡ (key, value) = cc in ap (λ (q : PlainKind × PlainKind). kind_map q.0 q.1) same
kind_of_map _ p is = absurd cc

pub kind_of_set : (kind member : PlainKind) → Some member ≡ set_of_kind kind → kind_set member ≡ kind
kind_of_set (kind_set m) member is = let same : member ≡ m = cc in ap (λ k. kind_set k) same
kind_of_set _ member is = absurd cc

pub kind_of_list : (kind element : PlainKind) → Some element ≡ list_of_kind kind → kind_list element ≡ kind
kind_of_list (kind_list e) element is = let same : element ≡ e = cc in ap (λ k. kind_list k) same
kind_of_list _ element is = absurd cc

-- a number, a bool or a text under a type of its tag, and the value of a field
module _ (wire : Wire) (levels : ℕ) (structs : List PlainStruct) (kind : PlainKind) (tag : Tag) (before : Unread) (x : Tree) (after : Unread) where
  pub leaf_read : tag ≡ tag_of_kind kind → ReadsLeaf wire tag before x after → ReadsSettled wire levels structs kind before x after
  leaf_read is h = record { read = ap (λ t. value wire levels t before) (sym is) ∙ h.read levels; settled = h.settled structs kind is }

  pub field_by_tag : (flag : Option Bool) → flag ≡ None → tag ≡ tag_of_kind kind → ReadsSettled wire levels structs kind before x after → ReadsField wire levels structs kind tag flag before x after
  field_by_tag flag none is h = record {
    read = subst (λ (f : Option Bool). MatchOption f (value wire levels tag before ≡ Ok (x, after)) (λ b. (count_value before ≡ Ok (tt, after)) × (x ≡ of_bool b))) (sym none)
        (ap (λ t. value wire levels t before) is ∙ h.read);
    settled = h.settled;
  }

  pub field_by_flag : (flag : Option Bool) (b : Bool) → flag ≡ Some b → count_value before ≡ Ok (tt, after) → x ≡ of_bool b → tag_of_kind kind ≡ tags.Bool
      → ReadsField wire levels structs kind tag flag before x after
  field_by_flag flag b is one same tagged = record {
    read = subst (λ (f : Option Bool). MatchOption f (value wire levels tag before ≡ Ok (x, after)) (λ b. (count_value before ≡ Ok (tt, after)) × (x ≡ of_bool b))) (sym is) (one, same);
    settled = subst (IsSettled structs kind) (sym same) (leaf_settled structs kind (of_bool b) tt (sym tagged));
  }

-- a value that means itself is its own projection
settled_projects : (s : PlainSchema) (which : ℕ) (v : Tree) → IsSound s → IsSettled s.structs (kind_struct which) v → depth_of v ≤ 64 → count_of v ≤ 4000000 → projection s which v ≡ Ok v
settled_projects s which v sound h levels values =
    let kind = kind_struct which in
    let fit : fits_kind kind v ≡ true = sym (fits_alike kind v) ∙ fits_itself s.structs kind v h.typed in
    ap (λ r. and_if_ok r bounded) (sym (means_alike s.structs kind v fit) ∙ itself s sound.all_else.structs kind v h.tidy h.typed h.filled) ∙ within_bounds v levels values

-- so is the struct at a place
pub settled_at_place : (wire : Wire) (format : Format) (s : PlainSchema) (which : ℕ) (bytes : List ℕ) (at : ℕ) (x : Tree) (after : Unread) → IsSound s
    → ((levels : ℕ) (before after : Unread) (x : Tree) → AreByteSized before.bytes → value wire levels tags.Struct before ≡ Ok (x, after) → TakenOff format levels tags.Struct x before after)
    → AreByteSized (front bytes at).bytes → ReadsSettled wire 64 s.structs (kind_struct which) (front bytes at) x after
    → read_then_projected wire s which bytes at ≡ Ok (x, length bytes - length after.bytes)
settled_at_place wire format s which bytes at x after sound law fits h =
    let t = law 64 (front bytes at) after x fits h.read in
    ap (projected_read s which) (placed_here wire bytes at x after h.read)
    ∙ ap (placed_projection (length bytes - length after.bytes)) (settled_projects s which x sound h.settled t.depth (omega (arith, t.count)))
