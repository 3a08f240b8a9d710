-- The order of values: by tag, and values of one tag by what they hold. Element tags don't count.
use Rattle.std.specs.declared.cmp.Ordering.{Ordering}
use Rattle.std.specs.declared.cmp.Ordering.TheVariants.{Less, Equal, Greater}
use Rattle.std.specs.Ordering.{ordering_then, nat_cmp, int_cmp, bool_cmp}
use Rattle.std.specs.Cmp.Lexicographic.{slice_cmp}
use Rattle.thrift_value.specs.Tree.{Tree, of_bool, of_i8, of_i16, of_i32, of_i64, of_double, of_bytes, of_struct, of_map, of_set, of_list, of_uuid, FieldTrees, no_fields, field, ItemTrees, no_items, item, PairTrees, no_pairs, pair}
use Rattle.thrift_value.specs.Tags.{tag_of, rank}

abbrev mutual
  -- the order of two values: false before true, numbers and uuids by size, doubles by the number of their bits
  pub tree_cmp : Tree → Tree → Ordering
  tree_cmp (of_bool a) (of_bool b) = bool_cmp a b
  tree_cmp (of_i8 a) (of_i8 b) = int_cmp a b
  tree_cmp (of_i16 a) (of_i16 b) = int_cmp a b
  tree_cmp (of_i32 a) (of_i32 b) = int_cmp a b
  tree_cmp (of_i64 a) (of_i64 b) = int_cmp a b
  tree_cmp (of_double a) (of_double b) = nat_cmp a b
  tree_cmp (of_bytes a) (of_bytes b) = slice_cmp nat_cmp a b
  tree_cmp (of_struct a) (of_struct b) = fields_cmp a b
  tree_cmp (of_map _ _ a) (of_map _ _ b) = pairs_cmp a b
  tree_cmp (of_set _ a) (of_set _ b) = items_cmp a b
  tree_cmp (of_list _ a) (of_list _ b) = items_cmp a b
  tree_cmp (of_uuid a) (of_uuid b) = nat_cmp a b
  tree_cmp x y = nat_cmp (rank (tag_of x)) (rank (tag_of y))

  -- fields one by one, the id before the value; a prefix comes first
  pub fields_cmp : FieldTrees → FieldTrees → Ordering
  fields_cmp no_fields no_fields = Equal
  fields_cmp no_fields (field _ _ _) = Less
  fields_cmp (field _ _ _) no_fields = Greater
  fields_cmp (field i x xs) (field j y ys) =
      ordering_then (int_cmp i j) (ordering_then (tree_cmp x y) (fields_cmp xs ys))

  -- elements one by one; a prefix comes first
  pub items_cmp : ItemTrees → ItemTrees → Ordering
  items_cmp no_items no_items = Equal
  items_cmp no_items (item _ _) = Less
  items_cmp (item _ _) no_items = Greater
  items_cmp (item x xs) (item y ys) = ordering_then (tree_cmp x y) (items_cmp xs ys)

  -- pairs one by one, the key before its value; a prefix comes first
  pub pairs_cmp : PairTrees → PairTrees → Ordering
  pairs_cmp no_pairs no_pairs = Equal
  pairs_cmp no_pairs (pair _ _ _) = Less
  pairs_cmp (pair _ _ _) no_pairs = Greater
  pairs_cmp (pair j x xs) (pair k y ys) =
      ordering_then (tree_cmp j k) (ordering_then (tree_cmp x y) (pairs_cmp xs ys))
