-- Values of a type, under a type that is like it.
use Rattle.std.proofs.Common.{◌≡◌, ℕ, true, List, Equal, refl, sym, ap, ap₂, ◌∙◌}
use Rattle.std.specs.Prelude.{◌&&◌}
use Rattle.std.specs.Ordering.{ordering_then}
use Rattle.std.proofs.lemmas.Bool.{false≢true, and_from, and_parts}
use Rattle.std.proofs.lemmas.Cmp.{tied_itself}
use Rattle.thrift_value.specs.declared.tag.Tag.{Tag}
use Rattle.thrift_value.specs.Order.{tree_cmp, items_cmp, pairs_cmp}
use Rattle.thrift_value.specs.Plain.{plain, plain_items, plain_pairs}
use Rattle.thrift_value.specs.Tags.{tag_of}
use Rattle.thrift_value.specs.Tree.{Tree, of_bool, of_i8, of_i16, of_i32, of_i64, of_double, of_bytes, of_struct, of_map, of_set, of_list, of_uuid, ItemTrees, no_items, item, PairTrees, no_pairs, pair}
use Rattle.thrift_value.proofs.TotalOrder.{tree_cmp_total}
use Rattle.schema.specs.PlainKind.{PlainKind, kind_bool, kind_i8, kind_i16, kind_i32, kind_i64, kind_double, kind_text, kind_binary, kind_uuid, kind_enum, kind_struct, kind_map, kind_set, kind_list}
use Rattle.schema.specs.PlainSchema.{PlainStruct}
use Rattle.schema.specs.WrittenAs.{IsWrittenAs, AreItemsWrittenAs, ArePairsWrittenAs}
use Rattle.known_parts.specs.Parts.{tag_of_kind, are_same_tags}
use Rattle.struct_skew.specs.Fits.{each_item, each_pair, fits_kind}
use Rattle.struct_skew.proofs.Deciding.{same_tag}
use Rattle.struct_skew.proofs.Each.{Each}
use Rattle.struct_skew.proofs.Fitting.{fits_by_tag, IsNoContainer}
use Rattle.struct_skew.proofs.MeaningsOfKinds.{IsScalar}
use Rattle.compat_model.specs.KeptValues.{IsKeptUnder, AreItemsKeptUnder, ArePairsKeptUnder}
use Rattle.compat_model.specs.Likeness.{has_no_struct, are_like, struct_places}

-- a scalar is kept by itself
pub scalar_kept : (structs : List PlainStruct) (kind : PlainKind) (v : Tree) → IsScalar v → IsKeptUnder structs kind v v
scalar_kept structs (kind_struct _) (of_struct _) h = absurd h
scalar_kept structs (kind_map _ _) (of_map _ _ _) h = absurd h
scalar_kept structs (kind_list _) (of_list _ _) h = absurd h
scalar_kept structs _ v h = tied_itself tree_cmp_total v

-- without structs, what is kept is equal
mutual
  pub kept_equal : (structs : List PlainStruct) (kind : PlainKind) (v w : Tree) → has_no_struct kind ≡ true → IsKeptUnder structs kind v w → tree_cmp v w ≡ Equal
  kept_equal structs (kind_struct _) v w free kept = absurd (false≢true free)
  kept_equal structs (kind_map key value) (of_map _ _ pairs) (of_map _ _ others) free kept =
      pairs_equal structs value pairs others (and_parts (has_no_struct key) (has_no_struct value) free).1 kept
  kept_equal structs (kind_list kind) (of_list _ items) (of_list _ others) free kept = items_equal structs kind items others free kept
  kept_equal structs _ v w free kept = kept

  pub items_equal : (structs : List PlainStruct) (kind : PlainKind) (items others : ItemTrees) → has_no_struct kind ≡ true → AreItemsKeptUnder structs kind items others
      → items_cmp items others ≡ Equal
  items_equal structs kind no_items no_items free kept = refl
  items_equal structs kind (item v more) (item w others) free kept =
      ap₂ ordering_then (kept_equal structs kind v w free kept.0) (items_equal structs kind more others free kept.1)
  items_equal structs kind no_items (item _ _) free kept = absurd kept
  items_equal structs kind (item _ _) no_items free kept = absurd kept

  pub pairs_equal : (structs : List PlainStruct) (kind : PlainKind) (pairs others : PairTrees) → has_no_struct kind ≡ true → ArePairsKeptUnder structs kind pairs others
      → pairs_cmp pairs others ≡ Equal
  pairs_equal structs kind no_pairs no_pairs free kept = refl
  pairs_equal structs kind (pair k v more) (pair l w others) free kept =
      ap₂ ordering_then kept.0 (ap₂ ordering_then (kept_equal structs kind v w free kept.1) (pairs_equal structs kind more others free kept.2))
  pairs_equal structs kind no_pairs (pair _ _ _) free kept = absurd kept
  pairs_equal structs kind (pair _ _ _) no_pairs free kept = absurd kept

tags_turned : (a b : Tag) → are_same_tags a b ≡ true → are_same_tags b a ≡ true
tags_turned a b e = (same_tag b a).1 (sym ((same_tag a b).0 e))

-- the structs at like places are pairs of P; where the rule of keys counts, no struct stands in a key or a member
module _ (P : ℕ → ℕ → Type 0) (Strict : Type 0) where
  abbrev pub AreLikeIn : PlainKind → PlainKind → Type 0
  AreLikeIn (kind_struct which) (kind_struct other) = P which other
  AreLikeIn (kind_map key value) (kind_map other_key other_value) = (Strict → has_no_struct other_key ≡ true) × AreLikeIn key other_key × AreLikeIn value other_value
  AreLikeIn (kind_set member) (kind_set other) = (Strict → has_no_struct other ≡ true) × AreLikeIn member other
  AreLikeIn (kind_list element) (kind_list other) = AreLikeIn element other
  AreLikeIn kind other = are_same_tags (tag_of_kind kind) (tag_of_kind other) ≡ true

  -- types without structs are like each other whatever the pairs
  like_free : (k l : PlainKind) → are_like k l ≡ true → has_no_struct k ≡ true → AreLikeIn k l
  like_free (kind_struct a) _ like free = absurd (false≢true free)
  like_free (kind_map key value) (kind_map other_key other_value) like free =
      let both = and_parts ((has_no_struct key && has_no_struct other_key) && are_like key other_key) (are_like value other_value) like in
      let keys = and_parts (has_no_struct key && has_no_struct other_key) (are_like key other_key) both.0 in
      let frees = and_parts (has_no_struct key) (has_no_struct other_key) keys.0 in
      ((λ _. frees.1), like_free key other_key keys.1 frees.0, like_free value other_value both.1 (and_parts (has_no_struct key) (has_no_struct value) free).1)
  like_free (kind_set member) (kind_set other) like free =
      let both = and_parts (has_no_struct member && has_no_struct other) (are_like member other) like in
      let frees = and_parts (has_no_struct member) (has_no_struct other) both.0 in
      ((λ _. frees.1), like_free member other both.1 frees.0)
  like_free (kind_list element) (kind_list other) like free = like_free element other like free
  like_free _ _ like free = like

  -- like types whose structs at like places are such pairs
  pub like_in : (k l : PlainKind) → are_like k l ≡ true → Each (λ (p : ℕ × ℕ). P p.0 p.1) (struct_places k l) → AreLikeIn k l
  like_in (kind_struct a) (kind_struct b) like each = each.0
  like_in (kind_map key value) (kind_map other_key other_value) like each =
      let both = and_parts ((has_no_struct key && has_no_struct other_key) && are_like key other_key) (are_like value other_value) like in
      let keys = and_parts (has_no_struct key && has_no_struct other_key) (are_like key other_key) both.0 in
      let frees = and_parts (has_no_struct key) (has_no_struct other_key) keys.0 in
      ((λ _. frees.1), like_free key other_key keys.1 frees.0, like_in value other_value both.1 each)
  like_in (kind_set member) (kind_set other) like each =
      let both = and_parts (has_no_struct member && has_no_struct other) (are_like member other) like in
      let frees = and_parts (has_no_struct member) (has_no_struct other) both.0 in
      ((λ _. frees.1), like_free member other both.1 frees.0)
  like_in (kind_list element) (kind_list other) like each = like_in element other like each
  like_in _ _ like each = like

  module _ (structs : List PlainStruct) where
    scalar_fits : (l : PlainKind) (v : Tree) (t : Tag) → IsNoContainer v → tag_of v ≡ t → are_same_tags t (tag_of_kind l) ≡ true → fits_kind l v ≡ true
    scalar_fits l v t h is like = fits_by_tag l v h ∙ tags_turned (tag_of v) (tag_of_kind l) (ap (λ u. are_same_tags u (tag_of_kind l)) is ∙ like)

    mutual
      -- a value of a type fits a type that is like it
      pub like_fits : (k l : PlainKind) (v : Tree) → AreLikeIn k l → IsWrittenAs structs k v → fits_kind l (plain v) ≡ true
      like_fits kind_bool l (of_bool b) like typed = scalar_fits l (of_bool b) (tag_of_kind kind_bool) tt refl like
      like_fits kind_i8 l (of_i8 n) like typed = scalar_fits l (of_i8 n) (tag_of_kind kind_i8) tt refl like
      like_fits kind_i16 l (of_i16 n) like typed = scalar_fits l (of_i16 n) (tag_of_kind kind_i16) tt refl like
      like_fits kind_i32 l (of_i32 n) like typed = scalar_fits l (of_i32 n) (tag_of_kind kind_i32) tt refl like
      like_fits kind_i64 l (of_i64 n) like typed = scalar_fits l (of_i64 n) (tag_of_kind kind_i64) tt refl like
      like_fits kind_double l (of_double n) like typed = scalar_fits l (of_double n) (tag_of_kind kind_double) tt refl like
      like_fits kind_uuid l (of_uuid n) like typed = scalar_fits l (of_uuid n) (tag_of_kind kind_uuid) tt refl like
      like_fits kind_text l (of_bytes b) like typed = scalar_fits l (of_bytes b) (tag_of_kind kind_text) tt refl like
      like_fits kind_binary l (of_bytes b) like typed = scalar_fits l (of_bytes b) (tag_of_kind kind_binary) tt refl like
      like_fits (kind_enum e) l (of_i32 n) like typed = scalar_fits l (of_i32 n) (tag_of_kind (kind_enum e)) tt refl like
      like_fits (kind_struct _) (kind_struct _) (of_struct _) like typed = refl
      like_fits (kind_struct _) _ (of_struct _) like typed = absurd (false≢true like)
      like_fits (kind_map key value) (kind_map other_key other_value) (of_map _ _ no_pairs) like typed = refl
      like_fits (kind_map key value) (kind_map other_key other_value) (of_map _ _ (pair a b more)) like typed =
          and_from (fits_kind other_key (plain a) && fits_kind other_value (plain b)) (each_pair (fits_kind other_key) (fits_kind other_value) (plain_pairs more))
          (and_from (fits_kind other_key (plain a)) (fits_kind other_value (plain b)) (like_fits key other_key a like.1 typed.0) (like_fits value other_value b like.2 typed.1))
          (like_pairs key other_key value other_value more like.1 like.2 typed.2)
      like_fits (kind_map _ _) _ (of_map _ _ no_pairs) like typed = absurd (false≢true like)
      like_fits (kind_map _ _) _ (of_map _ _ (pair _ _ _)) like typed = absurd (false≢true like)
      like_fits (kind_set member) (kind_set other) (of_set _ no_items) like typed = refl
      like_fits (kind_set member) (kind_set other) (of_set _ (item v more)) like typed =
          and_from (fits_kind other (plain v)) (each_item (fits_kind other) (plain_items more)) (like_fits member other v like.1 typed.0) (like_items member other more like.1 typed.1)
      like_fits (kind_set _) _ (of_set _ no_items) like typed = absurd (false≢true like)
      like_fits (kind_set _) _ (of_set _ (item _ _)) like typed = absurd (false≢true like)
      like_fits (kind_list element) (kind_list other) (of_list _ no_items) like typed = refl
      like_fits (kind_list element) (kind_list other) (of_list _ (item v more)) like typed =
          and_from (fits_kind other (plain v)) (each_item (fits_kind other) (plain_items more)) (like_fits element other v like typed.0) (like_items element other more like typed.1)
      like_fits (kind_list _) _ (of_list _ no_items) like typed = absurd (false≢true like)
      like_fits (kind_list _) _ (of_list _ (item _ _)) like typed = absurd (false≢true like)
      like_fits _ _ _ like typed = absurd typed

      like_items : (k l : PlainKind) (items : ItemTrees) → AreLikeIn k l → AreItemsWrittenAs structs k items → each_item (fits_kind l) (plain_items items) ≡ true
      like_items k l no_items like typed = refl
      like_items k l (item v more) like typed =
          and_from (fits_kind l (plain v)) (each_item (fits_kind l) (plain_items more)) (like_fits k l v like typed.0) (like_items k l more like typed.1)

      like_pairs : (j k l m : PlainKind) (pairs : PairTrees) → AreLikeIn j k → AreLikeIn l m → ArePairsWrittenAs structs j l pairs
          → each_pair (fits_kind k) (fits_kind m) (plain_pairs pairs) ≡ true
      like_pairs j k l m no_pairs keys values typed = refl
      like_pairs j k l m (pair a b more) keys values typed =
          and_from (fits_kind k (plain a) && fits_kind m (plain b)) (each_pair (fits_kind k) (fits_kind m) (plain_pairs more))
          (and_from (fits_kind k (plain a)) (fits_kind m (plain b)) (like_fits j k a keys typed.0) (like_fits l m b values typed.1)) (like_pairs j k l m more keys values typed.2)
