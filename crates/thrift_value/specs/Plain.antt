-- The form of a value that its wire bytes tell.
use Rattle.std.specs.Prelude.{◌≡◌}
use Rattle.thrift_value.specs.declared.tag.Tag.TheVariants.{Bool}
use Rattle.thrift_value.specs.Tree.{Tree, of_struct, of_map, of_set, of_list, FieldTrees, no_fields, field, ItemTrees, no_items, item, PairTrees, no_pairs, pair}
use Rattle.thrift_value.specs.Tags.{tag_of}
use Rattle.thrift_value.specs.Measures.{depth_of, count_of}

abbrev mutual
  -- the value with the tags of each empty container set to bool, since its wire bytes need not tell them
  pub plain : Tree → Tree
  plain (of_struct fields) = of_struct (plain_fields fields)
  plain (of_map _ _ no_pairs) = of_map Bool Bool no_pairs
  plain (of_map key value pairs) = of_map key value (plain_pairs pairs)
  plain (of_set _ no_items) = of_set Bool no_items
  plain (of_set element items) = of_set element (plain_items items)
  plain (of_list _ no_items) = of_list Bool no_items
  plain (of_list element items) = of_list element (plain_items items)
  plain value = value

  -- each field with its value in plain form
  pub plain_fields : FieldTrees → FieldTrees
  plain_fields no_fields = no_fields
  plain_fields (field id value more) = field id (plain value) (plain_fields more)

  -- each element in plain form
  pub plain_items : ItemTrees → ItemTrees
  plain_items no_items = no_items
  plain_items (item value more) = item (plain value) (plain_items more)

  -- each key and each value in plain form
  pub plain_pairs : PairTrees → PairTrees
  plain_pairs no_pairs = no_pairs
  plain_pairs (pair key value more) = pair (plain key) (plain value) (plain_pairs more)

-- y has the tag, the depth and the count of x
pub record HasMeasuresOf (x y : Tree) : Type 0 where
  pub tag : tag_of y ≡ tag_of x
  pub depth : depth_of y ≡ depth_of x
  pub count : count_of y ≡ count_of x
