-- Tests that decide whether a value is tidy, and whether its lengths and sizes have an encoding.
use Rattle.std.specs.Prelude.{ℤ, ◌^◌, nat_lt, Bool, true, ◌&&◌, length}
use Rattle.std.specs.Ordering.{int_cmp, is_lt}
use Rattle.thrift_value.specs.declared.tag.Tag.{Tag}
use Rattle.thrift_value.specs.Order.{tree_cmp}
use Rattle.thrift_value.specs.Sizes.{items_len, pairs_len}
use Rattle.thrift_value.specs.Tags.{tag_of}
use Rattle.thrift_value.specs.Tree.{Tree, of_bytes, of_struct, of_map, of_set, of_list, FieldTrees, no_fields, field, ItemTrees, no_items, item, PairTrees, no_pairs, pair}
use Rattle.known_parts.specs.Parts.{are_same_tags}

-- an id is below the id of each of the fields
abbrev pub is_below_ids : ℤ → FieldTrees → Bool
is_below_ids id no_fields = true
is_below_ids id (field next _ more) = is_lt (int_cmp id next) && is_below_ids id more

-- a value comes before each of the items
abbrev pub is_below_items : Tree → ItemTrees → Bool
is_below_items value no_items = true
is_below_items value (item next more) = is_lt (tree_cmp value next) && is_below_items value more

-- a key comes before each key of the pairs
abbrev pub is_below_keys : Tree → PairTrees → Bool
is_below_keys key no_pairs = true
is_below_keys key (pair next _ more) = is_lt (tree_cmp key next) && is_below_keys key more

-- the ids rise
abbrev pub are_rising_fields : FieldTrees → Bool
are_rising_fields no_fields = true
are_rising_fields (field id _ more) = is_below_ids id more && are_rising_fields more

-- the items rise
abbrev pub are_rising_items : ItemTrees → Bool
are_rising_items no_items = true
are_rising_items (item value more) = is_below_items value more && are_rising_items more

-- the keys rise
abbrev pub are_rising_pairs : PairTrees → Bool
are_rising_pairs no_pairs = true
are_rising_pairs (pair key _ more) = is_below_keys key more && are_rising_pairs more

abbrev mutual
  -- a value is tidy
  pub is_tidy : Tree → Bool
  is_tidy (of_struct fields) = are_rising_fields fields && are_tidy_fields fields
  is_tidy (of_map key value pairs) = are_rising_pairs pairs && are_tidy_pairs key value pairs
  is_tidy (of_set element items) = are_rising_items items && are_tidy_items element items
  is_tidy (of_list element items) = are_tidy_items element items
  is_tidy _ = true

  -- each field's value is tidy
  pub are_tidy_fields : FieldTrees → Bool
  are_tidy_fields no_fields = true
  are_tidy_fields (field _ value more) = is_tidy value && are_tidy_fields more

  -- each item has this tag and is tidy
  pub are_tidy_items : Tag → ItemTrees → Bool
  are_tidy_items element no_items = true
  are_tidy_items element (item value more) = (are_same_tags (tag_of value) element && is_tidy value) && are_tidy_items element more

  -- each key and each value has its tag and is tidy
  pub are_tidy_pairs : Tag → Tag → PairTrees → Bool
  are_tidy_pairs key value no_pairs = true
  are_tidy_pairs key value (pair k v more) =
      ((are_same_tags (tag_of k) key && is_tidy k) && (are_same_tags (tag_of v) value && is_tidy v)) && are_tidy_pairs key value more

abbrev mutual
  -- no length and no number of elements is above 2^31 - 1
  pub has_small_sizes : Tree → Bool
  has_small_sizes (of_bytes bytes) = nat_lt (length bytes) (2 ^ 31)
  has_small_sizes (of_struct fields) = have_fields_small_sizes fields
  has_small_sizes (of_map _ _ pairs) = nat_lt (pairs_len pairs) (2 ^ 31) && have_pairs_small_sizes pairs
  has_small_sizes (of_set _ items) = nat_lt (items_len items) (2 ^ 31) && have_items_small_sizes items
  has_small_sizes (of_list _ items) = nat_lt (items_len items) (2 ^ 31) && have_items_small_sizes items
  has_small_sizes _ = true

  -- the same of the value of each field
  pub have_fields_small_sizes : FieldTrees → Bool
  have_fields_small_sizes no_fields = true
  have_fields_small_sizes (field _ value more) = has_small_sizes value && have_fields_small_sizes more

  -- the same of each element
  pub have_items_small_sizes : ItemTrees → Bool
  have_items_small_sizes no_items = true
  have_items_small_sizes (item value more) = has_small_sizes value && have_items_small_sizes more

  -- the same of each key and each value
  pub have_pairs_small_sizes : PairTrees → Bool
  have_pairs_small_sizes no_pairs = true
  have_pairs_small_sizes (pair key value more) = (has_small_sizes key && has_small_sizes value) && have_pairs_small_sizes more
