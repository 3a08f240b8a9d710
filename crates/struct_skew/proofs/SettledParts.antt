-- Values that mean themselves, by parts that do.
use Rattle.std.proofs.Common.{◌≡◌, ℕ, ℤ, true, List, [], ◌∷◌, map, Option, Some, None, sym, subst}
use Rattle.std.specs.Prelude.{◌<ℤ◌, ⊤, MatchOption}
use Rattle.std.specs.List.{AllByRecursion, slice_get}
use Rattle.std.proofs.lemmas.Bool.{false≢true}
use Rattle.thrift_value.specs.declared.tag.Tag.{Tag}
use Rattle.thrift_value.specs.declared.value.Value.{Value}
use Rattle.thrift_value.specs.Tags.{tag_of}
use Rattle.thrift_value.specs.Tidy.{IsTidy, AreWellTaggedFields, AreWellTaggedItems, AreWellTaggedPairs, AreFieldsInOrder, AreItemsInOrder, ArePairsInOrder, IsBelowIds, IsBelowItems, IsBelowKeys, AreRisingFields, AreRisingItems, AreRisingPairs}
use Rattle.thrift_value.specs.Tree.{Tree, of_bool, of_i8, of_i16, of_i32, of_i64, of_double, of_bytes, of_struct, of_map, of_set, of_list, of_uuid}
use Rattle.thrift_value.specs.TreeOf.{tree_of, field_tree, pair_tree, field_trees, item_trees, pair_trees}
use Rattle.schema.specs.PlainKind.{PlainKind, kind_bool, kind_i8, kind_i16, kind_i32, kind_i64, kind_double, kind_text, kind_binary, kind_uuid, kind_enum, kind_struct, kind_map, kind_set, kind_list}
use Rattle.schema.specs.PlainSchema.{PlainField, PlainStruct}
use Rattle.schema.specs.WrittenAs.{field_with_id, HasItsFields, IsWrittenAs, AreFieldsWrittenAs, AreItemsWrittenAs, ArePairsWrittenAs}
use Rattle.wire_model.specs.Wire.{IsScalar}
use Rattle.known_parts.specs.Parts.{tag_of_kind, are_same_tags}
use Rattle.struct_skew.specs.Filled.{HasItsDefaults, IsFilled, AreFieldsFilled, AreItemsFilled, ArePairsFilled}
use Rattle.struct_skew.specs.Latest.{ComesBefore, IsRisingBy}
use Rattle.struct_skew.specs.Orders.{value_cmp, pair_cmp}
use Rattle.struct_skew.specs.ReadSettled.{IsSettled, IsFieldSettled, IsPairSettled, AreIdsRising}
use Rattle.struct_skew.proofs.Deciding.{same_tag}
use Rattle.struct_skew.proofs.Rightness.{written_tag}

-- a value that holds no others
abbrev pub IsLeaf : Tree → Type 0
IsLeaf (of_struct _) = ⊥
IsLeaf (of_map _ _ _) = ⊥
IsLeaf (of_set _ _) = ⊥
IsLeaf (of_list _ _) = ⊥
IsLeaf _ = ⊤

pub scalar_leaf : (x : Tree) → IsScalar (tag_of x) → IsLeaf x
scalar_leaf (of_struct _) h = h
scalar_leaf (of_map _ _ _) h = h
scalar_leaf (of_set _ _) h = h
scalar_leaf (of_list _ _) h = h
scalar_leaf _ h = tt

module _ (structs : List PlainStruct) where
  leaf : (kind : PlainKind) (x : Tree) → IsLeaf x → are_same_tags (tag_of x) (tag_of_kind kind) ≡ true → IsWrittenAs structs kind x × IsFilled structs kind x × IsTidy x
  leaf kind_bool (of_bool _) l e = (tt, tt, record { tagged = tt; in_order = tt })
  leaf kind_i8 (of_i8 _) l e = (tt, tt, record { tagged = tt; in_order = tt })
  leaf kind_i16 (of_i16 _) l e = (tt, tt, record { tagged = tt; in_order = tt })
  leaf kind_i32 (of_i32 _) l e = (tt, tt, record { tagged = tt; in_order = tt })
  leaf kind_i64 (of_i64 _) l e = (tt, tt, record { tagged = tt; in_order = tt })
  leaf kind_double (of_double _) l e = (tt, tt, record { tagged = tt; in_order = tt })
  leaf kind_uuid (of_uuid _) l e = (tt, tt, record { tagged = tt; in_order = tt })
  leaf kind_text (of_bytes _) l e = (tt, tt, record { tagged = tt; in_order = tt })
  leaf kind_binary (of_bytes _) l e = (tt, tt, record { tagged = tt; in_order = tt })
  leaf (kind_enum _) (of_i32 _) l e = (tt, tt, record { tagged = tt; in_order = tt })
  leaf (kind_struct _) (of_struct _) l e = absurd l
  leaf (kind_map _ _) (of_map _ _ _) l e = absurd l
  leaf (kind_set _) (of_set _ _) l e = absurd l
  leaf (kind_list _) (of_list _ _) l e = absurd l
  leaf _ _ l e = absurd (false≢true e)

  -- a value that holds no others means itself under each type of its tag
  pub leaf_settled : (kind : PlainKind) (x : Tree) → IsLeaf x → tag_of x ≡ tag_of_kind kind → IsSettled structs kind x
  leaf_settled kind x l is =
      let parts = leaf kind x l ((same_tag (tag_of x) (tag_of_kind kind)).1 is) in
      record { tidy = parts.2; typed = parts.0; filled = parts.1 }

  -- elements
  abbrev pub AreSettled : PlainKind → List Value → Type 0
  AreSettled kind vs = AllByRecursion (λ v. IsSettled structs kind (tree_of v)) vs

  items_tagged : (kind : PlainKind) (vs : List Value) → AreSettled kind vs → AreWellTaggedItems (tag_of_kind kind) (item_trees (map tree_of vs))
  items_tagged kind [] h = tt
  items_tagged kind (v ∷ vs) h = (written_tag structs kind (tree_of v) h.0.typed, h.0.tidy.tagged, items_tagged kind vs h.1)

  items_ordered : (kind : PlainKind) (vs : List Value) → AreSettled kind vs → AreItemsInOrder (item_trees (map tree_of vs))
  items_ordered kind [] h = tt
  items_ordered kind (v ∷ vs) h = (h.0.tidy.in_order, items_ordered kind vs h.1)

  items_typed : (kind : PlainKind) (vs : List Value) → AreSettled kind vs → AreItemsWrittenAs structs kind (item_trees (map tree_of vs))
  items_typed kind [] h = tt
  items_typed kind (v ∷ vs) h = (h.0.typed, items_typed kind vs h.1)

  items_filled : (kind : PlainKind) (vs : List Value) → AreSettled kind vs → AreItemsFilled structs kind (item_trees (map tree_of vs))
  items_filled kind [] h = tt
  items_filled kind (v ∷ vs) h = (h.0.filled, items_filled kind vs h.1)

  items_rise : (vs : List Value) → IsRisingBy value_cmp vs → AreRisingItems (item_trees (map tree_of vs))
  items_rise [] rising = tt
  items_rise (v ∷ vs) rising = (before v vs rising.0, items_rise vs rising.1)
    where
      before : (v : Value) (ws : List Value) → ComesBefore value_cmp v ws → IsBelowItems (tree_of v) (item_trees (map tree_of ws))
      before v [] h = tt
      before v (w ∷ ws) h = (h.0, before v ws h.1)

  pub list_settled : (kind : PlainKind) (t : Tag) (vs : List Value) → t ≡ tag_of_kind kind → AreSettled kind vs → IsSettled structs (kind_list kind) (of_list t (item_trees (map tree_of vs)))
  list_settled kind t vs is h = record {
    tidy = record { tagged = subst (λ u. AreWellTaggedItems u (item_trees (map tree_of vs))) (sym is) (items_tagged kind vs h); in_order = items_ordered kind vs h };
    typed = items_typed kind vs h;
    filled = (is, items_filled kind vs h);
  }

  pub set_settled : (kind : PlainKind) (t : Tag) (vs : List Value) → t ≡ tag_of_kind kind → AreSettled kind vs → IsRisingBy value_cmp vs
      → IsSettled structs (kind_set kind) (of_set t (item_trees (map tree_of vs)))
  set_settled kind t vs is h rising = record {
    tidy = record { tagged = subst (λ u. AreWellTaggedItems u (item_trees (map tree_of vs))) (sym is) (items_tagged kind vs h); in_order = (items_rise vs rising, items_ordered kind vs h) };
    typed = items_typed kind vs h;
    filled = (is, items_filled kind vs h);
  }

  -- pairs
  abbrev pub ArePairsSettled : PlainKind → PlainKind → List (Value × Value) → Type 0
  ArePairsSettled key value ps = AllByRecursion (IsPairSettled structs key value) ps

  pairs_tagged : (key value : PlainKind) (ps : List (Value × Value)) → ArePairsSettled key value ps → AreWellTaggedPairs (tag_of_kind key) (tag_of_kind value) (pair_trees (map pair_tree ps))
  pairs_tagged key value [] h = tt
  pairs_tagged key value (p ∷ ps) h =
      (written_tag structs key (tree_of p.0) h.0.0.typed, written_tag structs value (tree_of p.1) h.0.1.typed, h.0.0.tidy.tagged, h.0.1.tidy.tagged, pairs_tagged key value ps h.1)

  pairs_ordered : (key value : PlainKind) (ps : List (Value × Value)) → ArePairsSettled key value ps → ArePairsInOrder (pair_trees (map pair_tree ps))
  pairs_ordered key value [] h = tt
  pairs_ordered key value (p ∷ ps) h = (h.0.0.tidy.in_order, h.0.1.tidy.in_order, pairs_ordered key value ps h.1)

  pairs_typed : (key value : PlainKind) (ps : List (Value × Value)) → ArePairsSettled key value ps → ArePairsWrittenAs structs key value (pair_trees (map pair_tree ps))
  pairs_typed key value [] h = tt
  pairs_typed key value (p ∷ ps) h = (h.0.0.typed, h.0.1.typed, pairs_typed key value ps h.1)

  pairs_filled : (key value : PlainKind) (ps : List (Value × Value)) → ArePairsSettled key value ps → ArePairsFilled structs key value (pair_trees (map pair_tree ps))
  pairs_filled key value [] h = tt
  pairs_filled key value (p ∷ ps) h = (h.0.0.filled, h.0.1.filled, pairs_filled key value ps h.1)

  pairs_rise : (ps : List (Value × Value)) → IsRisingBy pair_cmp ps → AreRisingPairs (pair_trees (map pair_tree ps))
  pairs_rise [] rising = tt
  pairs_rise (p ∷ ps) rising = (before p ps rising.0, pairs_rise ps rising.1)
    where
      before : (p : Value × Value) (qs : List (Value × Value)) → ComesBefore pair_cmp p qs → IsBelowKeys (tree_of p.0) (pair_trees (map pair_tree qs))
      before p [] h = tt
      before p (q ∷ qs) h = (h.0, before p qs h.1)

  pub map_settled : (key value : PlainKind) (k t : Tag) (ps : List (Value × Value)) → k ≡ tag_of_kind key → t ≡ tag_of_kind value → ArePairsSettled key value ps → IsRisingBy pair_cmp ps
      → IsSettled structs (kind_map key value) (of_map k t (pair_trees (map pair_tree ps)))
  map_settled key value k t ps key_is value_is h rising = record {
    tidy = record {
      tagged =
          subst (λ u. AreWellTaggedPairs u t (pair_trees (map pair_tree ps))) (sym key_is)
          (subst (λ u. AreWellTaggedPairs (tag_of_kind key) u (pair_trees (map pair_tree ps))) (sym value_is) (pairs_tagged key value ps h));
      in_order = (pairs_rise ps rising, pairs_ordered key value ps h);
    };
    typed = pairs_typed key value ps h;
    filled = (key_is, value_is, pairs_filled key value ps h);
  }

  -- fields
  field_tidy : (v : Tree) (o : Option PlainField) → MatchOption o ⊥ (λ (d : PlainField). IsSettled structs d.kind v) → IsTidy v
  field_tidy v None h = absurd h
  field_tidy v (Some d) h = h.tidy

  field_typed : (v : Tree) (o : Option PlainField) → MatchOption o ⊥ (λ (d : PlainField). IsSettled structs d.kind v) → MatchOption o ⊥ (λ (d : PlainField). IsWrittenAs structs d.kind v)
  field_typed v None h = absurd h
  field_typed v (Some d) h = h.typed

  field_filled : (v : Tree) (o : Option PlainField) → MatchOption o ⊥ (λ (d : PlainField). IsSettled structs d.kind v) → MatchOption o ⊤ (λ (d : PlainField). IsFilled structs d.kind v)
  field_filled v None h = tt
  field_filled v (Some d) h = h.filled

  module _ (declared : List PlainField) where
    abbrev pub AreFieldsSettled : List (ℤ × Value) → Type 0
    AreFieldsSettled fs = AllByRecursion (IsFieldSettled structs declared) fs

    fields_tagged : (fs : List (ℤ × Value)) → AreFieldsSettled fs → AreWellTaggedFields (field_trees (map field_tree fs))
    fields_tagged [] h = tt
    fields_tagged (f ∷ fs) h = let tidy = field_tidy (tree_of f.1) (field_with_id f.0 declared) h.0 in (tidy.tagged, fields_tagged fs h.1)

    fields_ordered : (fs : List (ℤ × Value)) → AreFieldsSettled fs → AreFieldsInOrder (field_trees (map field_tree fs))
    fields_ordered [] h = tt
    fields_ordered (f ∷ fs) h = let tidy = field_tidy (tree_of f.1) (field_with_id f.0 declared) h.0 in (tidy.in_order, fields_ordered fs h.1)

    fields_typed : (fs : List (ℤ × Value)) → AreFieldsSettled fs → AreFieldsWrittenAs structs declared (field_trees (map field_tree fs))
    fields_typed [] h = tt
    fields_typed (f ∷ fs) h = (field_typed (tree_of f.1) (field_with_id f.0 declared) h.0, fields_typed fs h.1)

    fields_filled : (fs : List (ℤ × Value)) → AreFieldsSettled fs → AreFieldsFilled structs declared (field_trees (map field_tree fs))
    fields_filled [] h = tt
    fields_filled (f ∷ fs) h = (field_filled (tree_of f.1) (field_with_id f.0 declared) h.0, fields_filled fs h.1)

  fields_rise : (fs : List (ℤ × Value)) → AreIdsRising fs → AreRisingFields (field_trees (map field_tree fs))
  fields_rise [] rising = tt
  fields_rise (f ∷ fs) rising = (below f.0 fs rising.0, fields_rise fs rising.1)
    where
      below : (id : ℤ) (gs : List (ℤ × Value)) → AllByRecursion (λ (g : ℤ × Value). id <ℤ g.0) gs → IsBelowIds id (field_trees (map field_tree gs))
      below id [] h = tt
      below id (g ∷ gs) h = (h.0, below id gs h.1)

  pub struct_settled : (which : ℕ) (d : PlainStruct) (fs : List (ℤ × Value)) → slice_get structs which ≡ Some d → AreFieldsSettled d.fields fs → AreIdsRising fs
      → HasItsFields d (field_trees (map field_tree fs)) → HasItsDefaults d (field_trees (map field_tree fs))
      → IsSettled structs (kind_struct which) (of_struct (field_trees (map field_tree fs)))
  struct_settled which d fs here h rising its defaults =
      let fields = field_trees (map field_tree fs) in record {
        tidy = record { tagged = fields_tagged d.fields fs h; in_order = (fields_rise fs rising, fields_ordered d.fields fs h) };
        typed = subst (λ (o : Option PlainStruct). MatchOption o ⊥ (λ s. HasItsFields s fields × AreFieldsWrittenAs structs s.fields fields)) (sym here) (its, fields_typed d.fields fs h);
        filled = subst (λ (o : Option PlainStruct). MatchOption o ⊤ (λ s. HasItsDefaults s fields × AreFieldsFilled structs s.fields fields)) (sym here) (defaults, fields_filled d.fields fs h);
      }
