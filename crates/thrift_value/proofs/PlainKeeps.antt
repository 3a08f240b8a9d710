-- What a value's plain form keeps: its tag, depth and count, and that it is well tagged, in order and in range.
use Rattle.std.proofs.Common.{◌≡◌, ◌≤◌, ℤ, Less, refl, sym, ap, ◌∙◌, arith}
use Rattle.std.specs.Ordering.{ordering_reverse}
use Rattle.thrift_value.specs.declared.tag.Tag.{Tag}
use Rattle.thrift_value.specs.Tree.{Tree, of_struct, of_map, of_set, of_list, FieldTrees, no_fields, field, ItemTrees, no_items, item, PairTrees, no_pairs, pair}
use Rattle.thrift_value.specs.Tags.{tag_of}
use Rattle.thrift_value.specs.Order.{tree_cmp}
use Rattle.thrift_value.specs.Tidy.{IsWellTagged, AreWellTaggedFields, AreWellTaggedItems, AreWellTaggedPairs, IsInOrder, AreFieldsInOrder, AreItemsInOrder, ArePairsInOrder, IsBelowIds, IsBelowItems, IsBelowKeys, AreRisingFields, AreRisingItems, AreRisingPairs, IsTidy}
use Rattle.thrift_value.specs.Ranges.{IsInRange, AreFieldsInRange, AreItemsInRange, ArePairsInRange}
use Rattle.thrift_value.specs.Plain.{plain, plain_fields, plain_items, plain_pairs, HasMeasuresOf}
use Rattle.thrift_value.specs.Measures.{depth_of, fields_depth, items_depth, pairs_depth, count_of, fields_count, items_count, pairs_count}
use Rattle.thrift_value.proofs.PlainLaws.{tree_cmp-plain}
use Rattle.thrift_value.proofs.TotalOrder.{tree_cmp_total}

tag_of-plain : (x : Tree) → tag_of (plain x) ≡ tag_of x
tag_of-plain (of_map _ _ no_pairs) = refl
tag_of-plain (of_map _ _ (pair _ _ _)) = refl
tag_of-plain (of_set _ no_items) = refl
tag_of-plain (of_set _ (item _ _)) = refl
tag_of-plain (of_list _ no_items) = refl
tag_of-plain (of_list _ (item _ _)) = refl
tag_of-plain x = refl

mutual
  depth_of-plain : (x : Tree) → depth_of (plain x) ≡ depth_of x
  depth_of-plain (of_struct fs) = rw (fields_depth-plain fs) refl
  depth_of-plain (of_map _ _ no_pairs) = refl
  depth_of-plain (of_map _ _ (pair k x xs)) = rw (depth_of-plain k, depth_of-plain x, pairs_depth-plain xs) refl
  depth_of-plain (of_set _ no_items) = refl
  depth_of-plain (of_set _ (item x xs)) = rw (depth_of-plain x, items_depth-plain xs) refl
  depth_of-plain (of_list _ no_items) = refl
  depth_of-plain (of_list _ (item x xs)) = rw (depth_of-plain x, items_depth-plain xs) refl
  depth_of-plain x = refl

  fields_depth-plain : (fs : FieldTrees) → fields_depth (plain_fields fs) ≡ fields_depth fs
  fields_depth-plain no_fields = refl
  fields_depth-plain (field _ x xs) = rw (depth_of-plain x, fields_depth-plain xs) refl

  items_depth-plain : (xs : ItemTrees) → items_depth (plain_items xs) ≡ items_depth xs
  items_depth-plain no_items = refl
  items_depth-plain (item x xs) = rw (depth_of-plain x, items_depth-plain xs) refl

  pairs_depth-plain : (ps : PairTrees) → pairs_depth (plain_pairs ps) ≡ pairs_depth ps
  pairs_depth-plain no_pairs = refl
  pairs_depth-plain (pair k x xs) = rw (depth_of-plain k, depth_of-plain x, pairs_depth-plain xs) refl

mutual
  count_of-plain : (x : Tree) → count_of (plain x) ≡ count_of x
  count_of-plain (of_struct fs) = rw (fields_count-plain fs) refl
  count_of-plain (of_map _ _ no_pairs) = refl
  count_of-plain (of_map _ _ (pair k x xs)) = rw (count_of-plain k, count_of-plain x, pairs_count-plain xs) refl
  count_of-plain (of_set _ no_items) = refl
  count_of-plain (of_set _ (item x xs)) = rw (count_of-plain x, items_count-plain xs) refl
  count_of-plain (of_list _ no_items) = refl
  count_of-plain (of_list _ (item x xs)) = rw (count_of-plain x, items_count-plain xs) refl
  count_of-plain x = refl

  fields_count-plain : (fs : FieldTrees) → fields_count (plain_fields fs) ≡ fields_count fs
  fields_count-plain no_fields = refl
  fields_count-plain (field _ x xs) = rw (count_of-plain x, fields_count-plain xs) refl

  items_count-plain : (xs : ItemTrees) → items_count (plain_items xs) ≡ items_count xs
  items_count-plain no_items = refl
  items_count-plain (item x xs) = rw (count_of-plain x, items_count-plain xs) refl

  pairs_count-plain : (ps : PairTrees) → pairs_count (plain_pairs ps) ≡ pairs_count ps
  pairs_count-plain no_pairs = refl
  pairs_count-plain (pair k x xs) = rw (count_of-plain k, count_of-plain x, pairs_count-plain xs) refl

mutual
  IsWellTagged-plain : (x : Tree) → IsWellTagged x → IsWellTagged (plain x)
  IsWellTagged-plain (of_struct fs) h = AreWellTaggedFields-plain fs h
  IsWellTagged-plain (of_map _ _ no_pairs) h = h
  IsWellTagged-plain (of_map t u (pair k x xs)) h =
      (tag_of-plain k ∙ h.0, tag_of-plain x ∙ h.1, IsWellTagged-plain k h.2, IsWellTagged-plain x h.3, AreWellTaggedPairs-plain t u xs h.4)
  IsWellTagged-plain (of_set _ no_items) h = h
  IsWellTagged-plain (of_set t (item x xs)) h = (tag_of-plain x ∙ h.0, IsWellTagged-plain x h.1, AreWellTaggedItems-plain t xs h.2)
  IsWellTagged-plain (of_list _ no_items) h = h
  IsWellTagged-plain (of_list t (item x xs)) h = (tag_of-plain x ∙ h.0, IsWellTagged-plain x h.1, AreWellTaggedItems-plain t xs h.2)
  IsWellTagged-plain x h = h

  AreWellTaggedFields-plain : (fs : FieldTrees) → AreWellTaggedFields fs → AreWellTaggedFields (plain_fields fs)
  AreWellTaggedFields-plain no_fields h = h
  AreWellTaggedFields-plain (field _ x xs) h = (IsWellTagged-plain x h.0, AreWellTaggedFields-plain xs h.1)

  AreWellTaggedItems-plain : (t : Tag) (xs : ItemTrees) → AreWellTaggedItems t xs → AreWellTaggedItems t (plain_items xs)
  AreWellTaggedItems-plain t no_items h = h
  AreWellTaggedItems-plain t (item x xs) h = (tag_of-plain x ∙ h.0, IsWellTagged-plain x h.1, AreWellTaggedItems-plain t xs h.2)

  AreWellTaggedPairs-plain : (t u : Tag) (ps : PairTrees) → AreWellTaggedPairs t u ps → AreWellTaggedPairs t u (plain_pairs ps)
  AreWellTaggedPairs-plain t u no_pairs h = h
  AreWellTaggedPairs-plain t u (pair k x xs) h =
      (tag_of-plain k ∙ h.0, tag_of-plain x ∙ h.1, IsWellTagged-plain k h.2, IsWellTagged-plain x h.3, AreWellTaggedPairs-plain t u xs h.4)

-- both sides of the order may be plain
tree_cmp-plain_both : (x y : Tree) → tree_cmp x y ≡ Less → tree_cmp (plain x) (plain y) ≡ Less
tree_cmp-plain_both x y h =
    tree_cmp-plain x (plain y) ∙ tree_cmp_total.antisymm x (plain y) ∙ ap ordering_reverse (tree_cmp-plain y x) ∙ sym (tree_cmp_total.antisymm x y) ∙ h

IsBelowIds-plain : (id : ℤ) (fs : FieldTrees) → IsBelowIds id fs → IsBelowIds id (plain_fields fs)
IsBelowIds-plain id no_fields h = h
IsBelowIds-plain id (field _ _ xs) h = (h.0, IsBelowIds-plain id xs h.1)

IsBelowItems-plain : (x : Tree) (xs : ItemTrees) → IsBelowItems x xs → IsBelowItems (plain x) (plain_items xs)
IsBelowItems-plain x no_items h = h
IsBelowItems-plain x (item y ys) h = (tree_cmp-plain_both x y h.0, IsBelowItems-plain x ys h.1)

IsBelowKeys-plain : (x : Tree) (ps : PairTrees) → IsBelowKeys x ps → IsBelowKeys (plain x) (plain_pairs ps)
IsBelowKeys-plain x no_pairs h = h
IsBelowKeys-plain x (pair y _ ys) h = (tree_cmp-plain_both x y h.0, IsBelowKeys-plain x ys h.1)

AreRisingFields-plain : (fs : FieldTrees) → AreRisingFields fs → AreRisingFields (plain_fields fs)
AreRisingFields-plain no_fields h = h
AreRisingFields-plain (field id _ xs) h = (IsBelowIds-plain id xs h.0, AreRisingFields-plain xs h.1)

AreRisingItems-plain : (xs : ItemTrees) → AreRisingItems xs → AreRisingItems (plain_items xs)
AreRisingItems-plain no_items h = h
AreRisingItems-plain (item x xs) h = (IsBelowItems-plain x xs h.0, AreRisingItems-plain xs h.1)

AreRisingPairs-plain : (ps : PairTrees) → AreRisingPairs ps → AreRisingPairs (plain_pairs ps)
AreRisingPairs-plain no_pairs h = h
AreRisingPairs-plain (pair k _ xs) h = (IsBelowKeys-plain k xs h.0, AreRisingPairs-plain xs h.1)

mutual
  IsInOrder-plain : (x : Tree) → IsInOrder x → IsInOrder (plain x)
  IsInOrder-plain (of_struct fs) h = (AreRisingFields-plain fs h.0, AreFieldsInOrder-plain fs h.1)
  IsInOrder-plain (of_map _ _ no_pairs) h = h
  IsInOrder-plain (of_map _ _ (pair k x xs)) h = (AreRisingPairs-plain (pair k x xs) h.0, (IsInOrder-plain k h.1.0, IsInOrder-plain x h.1.1, ArePairsInOrder-plain xs h.1.2))
  IsInOrder-plain (of_set _ no_items) h = h
  IsInOrder-plain (of_set _ (item x xs)) h = (AreRisingItems-plain (item x xs) h.0, (IsInOrder-plain x h.1.0, AreItemsInOrder-plain xs h.1.1))
  IsInOrder-plain (of_list _ no_items) h = h
  IsInOrder-plain (of_list _ (item x xs)) h = (IsInOrder-plain x h.0, AreItemsInOrder-plain xs h.1)
  IsInOrder-plain x h = h

  AreFieldsInOrder-plain : (fs : FieldTrees) → AreFieldsInOrder fs → AreFieldsInOrder (plain_fields fs)
  AreFieldsInOrder-plain no_fields h = h
  AreFieldsInOrder-plain (field _ x xs) h = (IsInOrder-plain x h.0, AreFieldsInOrder-plain xs h.1)

  AreItemsInOrder-plain : (xs : ItemTrees) → AreItemsInOrder xs → AreItemsInOrder (plain_items xs)
  AreItemsInOrder-plain no_items h = h
  AreItemsInOrder-plain (item x xs) h = (IsInOrder-plain x h.0, AreItemsInOrder-plain xs h.1)

  ArePairsInOrder-plain : (ps : PairTrees) → ArePairsInOrder ps → ArePairsInOrder (plain_pairs ps)
  ArePairsInOrder-plain no_pairs h = h
  ArePairsInOrder-plain (pair k x xs) h = (IsInOrder-plain k h.0, IsInOrder-plain x h.1, ArePairsInOrder-plain xs h.2)

mutual
  IsInRange-plain : (x : Tree) → IsInRange x → IsInRange (plain x)
  IsInRange-plain (of_struct fs) h = AreFieldsInRange-plain fs h
  IsInRange-plain (of_map _ _ no_pairs) h = h
  IsInRange-plain (of_map _ _ (pair k x xs)) h = (IsInRange-plain k h.0, IsInRange-plain x h.1, ArePairsInRange-plain xs h.2)
  IsInRange-plain (of_set _ no_items) h = h
  IsInRange-plain (of_set _ (item x xs)) h = (IsInRange-plain x h.0, AreItemsInRange-plain xs h.1)
  IsInRange-plain (of_list _ no_items) h = h
  IsInRange-plain (of_list _ (item x xs)) h = (IsInRange-plain x h.0, AreItemsInRange-plain xs h.1)
  IsInRange-plain x h = h

  AreFieldsInRange-plain : (fs : FieldTrees) → AreFieldsInRange fs → AreFieldsInRange (plain_fields fs)
  AreFieldsInRange-plain no_fields h = h
  AreFieldsInRange-plain (field _ x xs) h = (h.0, IsInRange-plain x h.1, AreFieldsInRange-plain xs h.2)

  AreItemsInRange-plain : (xs : ItemTrees) → AreItemsInRange xs → AreItemsInRange (plain_items xs)
  AreItemsInRange-plain no_items h = h
  AreItemsInRange-plain (item x xs) h = (IsInRange-plain x h.0, AreItemsInRange-plain xs h.1)

  ArePairsInRange-plain : (ps : PairTrees) → ArePairsInRange ps → ArePairsInRange (plain_pairs ps)
  ArePairsInRange-plain no_pairs h = h
  ArePairsInRange-plain (pair k x xs) h = (IsInRange-plain k h.0, IsInRange-plain x h.1, ArePairsInRange-plain xs h.2)

-- the plain form has the tag, the depth and the count of the value
pub measures_of_plain : (x : Tree) → HasMeasuresOf x (plain x)
measures_of_plain x = record { tag = tag_of-plain x; depth = depth_of-plain x; count = count_of-plain x }

-- it is tidy and in range where the value is
pub tidy_plain : (x : Tree) → IsTidy x → IsTidy (plain x)
tidy_plain x h = record { tagged = IsWellTagged-plain x h.tagged; in_order = IsInOrder-plain x h.in_order }

pub in_range_plain : (x : Tree) → IsInRange x → IsInRange (plain x)
in_range_plain x h = IsInRange-plain x h

-- there is a value in each tree
pub one_or_more : (x : Tree) → 1 ≤ count_of x
one_or_more (of_struct fs) = omega arith
one_or_more (of_map _ _ ps) = omega arith
one_or_more (of_set _ xs) = omega arith
one_or_more (of_list _ xs) = omega arith
one_or_more x = omega arith
