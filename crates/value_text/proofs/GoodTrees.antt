-- Values that have a text, and what holds of the entries of one.
use Rattle.std.proofs.Common.{◌≡◌, ℕ, ◌≤◌, ◌<ℤ◌, Bool, true, false, T, ℤ, List, [], ◌∷◌, Option, Some, None, Less, refl, ap, arith}
use Rattle.std.specs.Prelude.{FitsSigned}
use Rattle.std.specs.Int.{w16}
use Rattle.std.specs.Ordering.{is_lt}
use Rattle.std.specs.Bool.{passes}
use Rattle.std.specs.declared.cmp.Ordering.{Ordering}
use Rattle.std.specs.declared.cmp.Ordering.TheVariants as order
use Rattle.std.proofs.lemmas.Int.{ints}
use Rattle.thrift_value.specs.declared.tag.Tag.{Tag}
use Rattle.thrift_value.specs.Tree.{Tree, FieldTrees, no_fields, field, ItemTrees, no_items, item, PairTrees, no_pairs, pair}
use Rattle.thrift_value.specs.Tags.{tag_of}
use Rattle.thrift_value.specs.Order.{tree_cmp}
use Rattle.thrift_value.specs.Tidy.{IsWellTagged, IsInOrder, AreWellTaggedFields, AreWellTaggedItems, AreWellTaggedPairs, AreFieldsInOrder, AreItemsInOrder, ArePairsInOrder, IsBelowIds, IsBelowItems, IsBelowKeys, AreRisingFields, AreRisingItems, AreRisingPairs}
use Rattle.thrift_value.specs.Measures.{depth_of, fields_depth, items_depth, pairs_depth}
use Rattle.thrift_value.specs.Ranges.{IsInRange, AreFieldsInRange, AreItemsInRange, ArePairsInRange}
use Rattle.thrift_value.specs.TreeOf.{field_trees, item_trees, pair_trees}
use Rattle.thrift_value.proofs.TotalOrder.{tree_cmp_total}
use Rattle.value_text.specs.Reading.{id_comes_behind, comes_behind, last_key}
use Rattle.value_text.proofs.RowLaws.{AreChained}

-- a tidy value of so many levels
pub record IsGood (levels : ℕ) (x : Tree) : Type 0 where
  pub tagged : IsWellTagged x
  pub in_order : IsInOrder x
  pub in_range : IsInRange x
  pub depth : depth_of x ≤ levels

-- a field, an element and a pair that may stand behind a last one
pub record FieldFits (levels : ℕ) (last : Option (ℤ × Tree)) (f : ℤ × Tree) : Type 0 where
  pub rises : id_comes_behind last f.0 ≡ true
  pub id : FitsSigned w16 f.0
  pub good : IsGood levels f.1

pub record ItemFits (rising : Bool) (tag : Tag) (levels : ℕ) (last : Option Tree) (x : Tree) : Type 0 where
  pub rises : rising ≡ true → comes_behind last x ≡ true
  pub kind : tag_of x ≡ tag
  pub good : IsGood levels x

pub record PairFits (key tag : Tag) (levels : ℕ) (last : Option (Tree × Tree)) (p : Tree × Tree) : Type 0 where
  pub rises : comes_behind (last_key last) p.0 ≡ true
  pub key_kind : tag_of p.0 ≡ key
  pub kind : tag_of p.1 ≡ tag
  pub key_good : IsGood levels p.0
  pub good : IsGood levels p.1

-- tests and what they tell
passed : (b : Bool) → T b → b ≡ true
passed true h = refl
passed false h = absurd h

less_is : (o : Ordering) → is_lt o ≡ true → o ≡ Less
less_is order.Less e = refl
less_is order.Equal e = absurd cc
less_is order.Greater e = absurd cc

less_tells : (o : Ordering) → o ≡ Less → is_lt o ≡ true
less_tells o e = ap is_lt e

-- what is below an id, a value or a key is below all that it is below
ids_lower : (i j : ℤ) (more : FieldTrees) → i <ℤ j → IsBelowIds j more → IsBelowIds i more
ids_lower i j no_fields low below = tt
ids_lower i j (field k _ more) low below = (omega (arith, ints, low, below.0), ids_lower i j more low below.1)

items_lower : (x y : Tree) (more : ItemTrees) → tree_cmp x y ≡ Less → IsBelowItems y more → IsBelowItems x more
items_lower x y no_items low below = tt
items_lower x y (item z more) low below = (tree_cmp_total.trans x y z low below.0, items_lower x y more low below.1)

keys_lower : (x y : Tree) (more : PairTrees) → tree_cmp x y ≡ Less → IsBelowKeys y more → IsBelowKeys x more
keys_lower x y no_pairs low below = tt
keys_lower x y (pair z _ more) low below = (tree_cmp_total.trans x y z low below.0, keys_lower x y more low below.1)

-- ---- fields

abbrev pub AboveId : Option (ℤ × Tree) → FieldTrees → Type 0
AboveId None fields = Unit {0}
AboveId (Some f) fields = IsBelowIds f.0 fields

-- what holds of fields behind a last one
pub record AreGoodFields (levels : ℕ) (last : Option (ℤ × Tree)) (fields : FieldTrees) : Type 0 where
  pub above : AboveId last fields
  pub rising : AreRisingFields fields
  pub tagged : AreWellTaggedFields fields
  pub in_order : AreFieldsInOrder fields
  pub in_range : AreFieldsInRange fields
  pub depth : fields_depth fields ≤ levels

above_id : (last : Option (ℤ × Tree)) (id : ℤ) (x : Tree) (more : FieldTrees) → id_comes_behind last id ≡ true → IsBelowIds id more → AboveId last (field id x more)
above_id None id x more rises below = tt
above_id (Some f) id x more rises below =
    let low : f.0 <ℤ id = record { lt = passes _ rises } in
    (low, ids_lower f.0 id more low below)

behind_id : (last : Option (ℤ × Tree)) (id : ℤ) (x : Tree) (more : FieldTrees) → AboveId last (field id x more) → id_comes_behind last id ≡ true
behind_id None id x more above = refl
behind_id (Some f) id x more above = passed _ above.0.lt

pub good_fields : (levels : ℕ) (last : Option (ℤ × Tree)) (fs : List (ℤ × Tree)) → AreChained (FieldFits levels) last fs → AreGoodFields levels last (field_trees fs)
good_fields levels None [] h = record { above = tt; rising = tt; tagged = tt; in_order = tt; in_range = tt; depth = omega arith }
good_fields levels (Some f) [] h = record { above = tt; rising = tt; tagged = tt; in_order = tt; in_range = tt; depth = omega arith }
good_fields levels last (f ∷ fs) h =
    let more = good_fields levels (Some f) fs h.1 in
    record {
      above = above_id last f.0 f.1 (field_trees fs) h.0.rises more.above;
      rising = (more.above, more.rising);
      tagged = (h.0.good.tagged, more.tagged);
      in_order = (h.0.good.in_order, more.in_order);
      in_range = (h.0.id, h.0.good.in_range, more.in_range);
      depth = omega (arith, h.0.good.depth, more.depth);
    }

pub chained_fields : (levels : ℕ) (last : Option (ℤ × Tree)) (fs : List (ℤ × Tree)) → AreGoodFields levels last (field_trees fs) → AreChained (FieldFits levels) last fs
chained_fields levels last [] h = tt
chained_fields levels last (f ∷ fs) h = (
  record {
    rises = behind_id last f.0 f.1 (field_trees fs) h.above;
    id = h.in_range.0;
    good = record { tagged = h.tagged.0; in_order = h.in_order.0; in_range = h.in_range.1; depth = omega (arith, h.depth) };
  },
  chained_fields levels (Some f) fs (record { above = h.rising.0; rising = h.rising.1; tagged = h.tagged.1; in_order = h.in_order.1; in_range = h.in_range.2; depth = omega (arith, h.depth) }),
)

-- ---- elements

abbrev pub AboveItem : Option Tree → ItemTrees → Type 0
AboveItem None items = Unit {0}
AboveItem (Some x) items = IsBelowItems x items

-- what holds of elements behind a last one
pub record AreGoodItems (rising : Bool) (tag : Tag) (levels : ℕ) (last : Option Tree) (items : ItemTrees) : Type 0 where
  pub above : rising ≡ true → AboveItem last items
  pub rise : rising ≡ true → AreRisingItems items
  pub tagged : AreWellTaggedItems tag items
  pub in_order : AreItemsInOrder items
  pub in_range : AreItemsInRange items
  pub depth : items_depth items ≤ levels

above_item : (last : Option Tree) (x : Tree) (more : ItemTrees) → comes_behind last x ≡ true → IsBelowItems x more → AboveItem last (item x more)
above_item None x more rises below = tt
above_item (Some y) x more rises below =
    let low = less_is (tree_cmp y x) rises in
    (low, items_lower y x more low below)

behind_item : (last : Option Tree) (x : Tree) (more : ItemTrees) → AboveItem last (item x more) → comes_behind last x ≡ true
behind_item None x more above = refl
behind_item (Some y) x more above = less_tells (tree_cmp y x) above.0

nothing_above : (last : Option Tree) → AboveItem last no_items
nothing_above None = tt
nothing_above (Some x) = tt

pub good_items : (rising : Bool) (tag : Tag) (levels : ℕ) (last : Option Tree) (xs : List Tree) → AreChained (ItemFits rising tag levels) last xs → AreGoodItems rising tag levels last (item_trees xs)
good_items rising tag levels last [] h = record { above = λ _. nothing_above last; rise = λ _. tt; tagged = tt; in_order = tt; in_range = tt; depth = omega arith }
good_items rising tag levels last (x ∷ xs) h =
    let more = good_items rising tag levels (Some x) xs h.1 in
    record {
      above = λ so. above_item last x (item_trees xs) (h.0.rises so) (more.above so);
      rise = λ so. (more.above so, more.rise so);
      tagged = (h.0.kind, h.0.good.tagged, more.tagged);
      in_order = (h.0.good.in_order, more.in_order);
      in_range = (h.0.good.in_range, more.in_range);
      depth = omega (arith, h.0.good.depth, more.depth);
    }

pub chained_items : (rising : Bool) (tag : Tag) (levels : ℕ) (last : Option Tree) (xs : List Tree) → AreGoodItems rising tag levels last (item_trees xs) → AreChained (ItemFits rising tag levels) last xs
chained_items rising tag levels last [] h = tt
chained_items rising tag levels last (x ∷ xs) h = (
  record {
    rises = λ so. behind_item last x (item_trees xs) (h.above so);
    kind = h.tagged.0;
    good = record { tagged = h.tagged.1; in_order = h.in_order.0; in_range = h.in_range.0; depth = omega (arith, h.depth) };
  },
  chained_items rising tag levels (Some x) xs (record { above = λ so. (h.rise so).0; rise = λ so. (h.rise so).1; tagged = h.tagged.2; in_order = h.in_order.1; in_range = h.in_range.1; depth = omega (arith, h.depth) }),
)

-- ---- pairs

abbrev pub AboveKey : Option (Tree × Tree) → PairTrees → Type 0
AboveKey None pairs = Unit {0}
AboveKey (Some p) pairs = IsBelowKeys p.0 pairs

-- what holds of pairs behind a last one
pub record AreGoodPairs (key tag : Tag) (levels : ℕ) (last : Option (Tree × Tree)) (pairs : PairTrees) : Type 0 where
  pub above : AboveKey last pairs
  pub rising : AreRisingPairs pairs
  pub tagged : AreWellTaggedPairs key tag pairs
  pub in_order : ArePairsInOrder pairs
  pub in_range : ArePairsInRange pairs
  pub depth : pairs_depth pairs ≤ levels

above_key : (last : Option (Tree × Tree)) (k x : Tree) (more : PairTrees) → comes_behind (last_key last) k ≡ true → IsBelowKeys k more → AboveKey last (pair k x more)
above_key None k x more rises below = tt
above_key (Some p) k x more rises below =
    let low = less_is (tree_cmp p.0 k) rises in
    (low, keys_lower p.0 k more low below)

behind_key : (last : Option (Tree × Tree)) (k x : Tree) (more : PairTrees) → AboveKey last (pair k x more) → comes_behind (last_key last) k ≡ true
behind_key None k x more above = refl
behind_key (Some p) k x more above = less_tells (tree_cmp p.0 k) above.0

pub good_pairs : (key tag : Tag) (levels : ℕ) (last : Option (Tree × Tree)) (ps : List (Tree × Tree)) → AreChained (PairFits key tag levels) last ps → AreGoodPairs key tag levels last (pair_trees ps)
good_pairs key tag levels None [] h = record { above = tt; rising = tt; tagged = tt; in_order = tt; in_range = tt; depth = omega arith }
good_pairs key tag levels (Some p) [] h = record { above = tt; rising = tt; tagged = tt; in_order = tt; in_range = tt; depth = omega arith }
good_pairs key tag levels last (p ∷ ps) h =
    let more = good_pairs key tag levels (Some p) ps h.1 in
    record {
      above = above_key last p.0 p.1 (pair_trees ps) h.0.rises more.above;
      rising = (more.above, more.rising);
      tagged = (h.0.key_kind, h.0.kind, h.0.key_good.tagged, h.0.good.tagged, more.tagged);
      in_order = (h.0.key_good.in_order, h.0.good.in_order, more.in_order);
      in_range = (h.0.key_good.in_range, h.0.good.in_range, more.in_range);
      depth = omega (arith, h.0.key_good.depth, h.0.good.depth, more.depth);
    }

pub chained_pairs : (key tag : Tag) (levels : ℕ) (last : Option (Tree × Tree)) (ps : List (Tree × Tree)) → AreGoodPairs key tag levels last (pair_trees ps) → AreChained (PairFits key tag levels) last ps
chained_pairs key tag levels last [] h = tt
chained_pairs key tag levels last (p ∷ ps) h = (
  record {
    rises = behind_key last p.0 p.1 (pair_trees ps) h.above;
    key_kind = h.tagged.0;
    kind = h.tagged.1;
    key_good = record { tagged = h.tagged.2; in_order = h.in_order.0; in_range = h.in_range.0; depth = omega (arith, h.depth) };
    good = record { tagged = h.tagged.3; in_order = h.in_order.1; in_range = h.in_range.1; depth = omega (arith, h.depth) };
  },
  chained_pairs key tag levels (Some p) ps (record { above = h.rising.0; rising = h.rising.1; tagged = h.tagged.4; in_order = h.in_order.2; in_range = h.in_range.2; depth = omega (arith, h.depth) }),
)
