-- The lengths and sizes that have an encoding.
use Rattle.std.specs.Prelude.{⊤, ◌<◌, ◌^◌, ℕ, zero, suc, length}
use Rattle.thrift_value.specs.Tree.{Tree, of_bytes, of_struct, of_map, of_set, of_list, FieldTrees, no_fields, field, ItemTrees, no_items, item, PairTrees, no_pairs, pair}

-- the number of elements of a set or a list
abbrev pub items_len : ItemTrees → ℕ
items_len no_items = zero
items_len (item _ more) = suc (items_len more)

-- the number of pairs of a map
abbrev pub pairs_len : PairTrees → ℕ
pairs_len no_pairs = zero
pairs_len (pair _ _ more) = suc (pairs_len more)

abbrev mutual
  -- no length and no number of elements is above 2^31 - 1 (Thrift binary protocol, 'List and Set')
  pub HasSmallSizes : Tree → Type 0
  HasSmallSizes (of_bytes bytes) = length bytes < 2 ^ 31
  HasSmallSizes (of_struct fields) = HaveFieldsSmallSizes fields
  HasSmallSizes (of_map _ _ pairs) = (pairs_len pairs < 2 ^ 31) × HavePairsSmallSizes pairs
  HasSmallSizes (of_set _ items) = (items_len items < 2 ^ 31) × HaveItemsSmallSizes items
  HasSmallSizes (of_list _ items) = (items_len items < 2 ^ 31) × HaveItemsSmallSizes items
  HasSmallSizes _ = ⊤

  -- the same of the value of each field
  pub HaveFieldsSmallSizes : FieldTrees → Type 0
  HaveFieldsSmallSizes no_fields = ⊤
  HaveFieldsSmallSizes (field _ value more) = HasSmallSizes value × HaveFieldsSmallSizes more

  -- the same of each element
  pub HaveItemsSmallSizes : ItemTrees → Type 0
  HaveItemsSmallSizes no_items = ⊤
  HaveItemsSmallSizes (item value more) = HasSmallSizes value × HaveItemsSmallSizes more

  -- the same of each key and each value
  pub HavePairsSmallSizes : PairTrees → Type 0
  HavePairsSmallSizes no_pairs = ⊤
  HavePairsSmallSizes (pair key value more) = HasSmallSizes key × HasSmallSizes value × HavePairsSmallSizes more
