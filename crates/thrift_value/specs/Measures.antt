-- How deep and how large a value is.
use Rattle.std.specs.Prelude.{ℕ, ◌+◌, max}
use Rattle.thrift_value.specs.Tree.{Tree, of_struct, of_map, of_set, of_list, FieldTrees, no_fields, field, ItemTrees, no_items, item, PairTrees, no_pairs, pair}

abbrev mutual
  -- how many structs and containers stand in one another; 0 for a number, a bool or bytes
  pub depth_of : Tree → ℕ
  depth_of (of_struct fields) = fields_depth fields + 1
  depth_of (of_map _ _ pairs) = pairs_depth pairs + 1
  depth_of (of_set _ items) = items_depth items + 1
  depth_of (of_list _ items) = items_depth items + 1
  depth_of _ = 0

  -- the depth of the deepest value in the fields, 0 where there is none
  pub fields_depth : FieldTrees → ℕ
  fields_depth no_fields = 0
  fields_depth (field _ value more) = max (depth_of value) (fields_depth more)

  -- the same of elements
  pub items_depth : ItemTrees → ℕ
  items_depth no_items = 0
  items_depth (item value more) = max (depth_of value) (items_depth more)

  -- the same of pairs, keys and values alike
  pub pairs_depth : PairTrees → ℕ
  pairs_depth no_pairs = 0
  pairs_depth (pair key value more) = max (max (depth_of key) (depth_of value)) (pairs_depth more)

abbrev mutual
  -- how many values there are, itself, keys and all below them included
  pub count_of : Tree → ℕ
  count_of (of_struct fields) = fields_count fields + 1
  count_of (of_map _ _ pairs) = pairs_count pairs + 1
  count_of (of_set _ items) = items_count items + 1
  count_of (of_list _ items) = items_count items + 1
  count_of _ = 1

  -- how many values there are in the fields
  pub fields_count : FieldTrees → ℕ
  fields_count no_fields = 0
  fields_count (field _ value more) = count_of value + fields_count more

  -- the same of elements
  pub items_count : ItemTrees → ℕ
  items_count no_items = 0
  items_count (item value more) = count_of value + items_count more

  -- the same of pairs, keys included
  pub pairs_count : PairTrees → ℕ
  pairs_count no_pairs = 0
  pairs_count (pair key value more) = (count_of key + count_of value) + pairs_count more
