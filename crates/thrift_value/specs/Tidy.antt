-- Tidy values: the form in which a value is kept, where raw values keep wire order and repeats.
use Rattle.std.specs.Prelude.{◌≡◌, ⊤, ℤ, ◌<ℤ◌}
use Rattle.std.specs.declared.cmp.Ordering.TheVariants.{Less}
use Rattle.thrift_value.specs.declared.tag.Tag.{Tag}
use Rattle.thrift_value.specs.Tree.{Tree, of_struct, of_map, of_set, of_list, FieldTrees, no_fields, field, ItemTrees, no_items, item, PairTrees, no_pairs, pair}
use Rattle.thrift_value.specs.Tags.{tag_of}
use Rattle.thrift_value.specs.Order.{tree_cmp}

abbrev mutual
  -- each element, key and map value has the tag that its container names (Thrift binary protocol, 'List and Set', 'Map')
  pub IsWellTagged : Tree → Type 0
  IsWellTagged (of_struct fields) = AreWellTaggedFields fields
  IsWellTagged (of_map key value pairs) = AreWellTaggedPairs key value pairs
  IsWellTagged (of_set element items) = AreWellTaggedItems element items
  IsWellTagged (of_list element items) = AreWellTaggedItems element items
  IsWellTagged _ = ⊤

  -- the value of each field is well tagged
  pub AreWellTaggedFields : FieldTrees → Type 0
  AreWellTaggedFields no_fields = ⊤
  AreWellTaggedFields (field _ value more) = IsWellTagged value × AreWellTaggedFields more

  -- each element has this tag and is well tagged
  pub AreWellTaggedItems : Tag → ItemTrees → Type 0
  AreWellTaggedItems element no_items = ⊤
  AreWellTaggedItems element (item value more) =
      (tag_of value ≡ element) × IsWellTagged value × AreWellTaggedItems element more

  -- each key and each value has its tag and is well tagged
  pub AreWellTaggedPairs : Tag → Tag → PairTrees → Type 0
  AreWellTaggedPairs key value no_pairs = ⊤
  AreWellTaggedPairs key value (pair k v more) =
      (tag_of k ≡ key) × (tag_of v ≡ value) × IsWellTagged k × IsWellTagged v × AreWellTaggedPairs key value more

-- an id is below the id of each of the fields
abbrev pub IsBelowIds : ℤ → FieldTrees → Type 0
IsBelowIds id no_fields = ⊤
IsBelowIds id (field next _ more) = (id <ℤ next) × IsBelowIds id more

-- a value comes before each of the items
abbrev pub IsBelowItems : Tree → ItemTrees → Type 0
IsBelowItems value no_items = ⊤
IsBelowItems value (item next more) = (tree_cmp value next ≡ Less) × IsBelowItems value more

-- a key comes before each key of the pairs
abbrev pub IsBelowKeys : Tree → PairTrees → Type 0
IsBelowKeys key no_pairs = ⊤
IsBelowKeys key (pair next _ more) = (tree_cmp key next ≡ Less) × IsBelowKeys key more

-- the ids rise, so none stands twice
abbrev pub AreRisingFields : FieldTrees → Type 0
AreRisingFields no_fields = ⊤
AreRisingFields (field id _ more) = IsBelowIds id more × AreRisingFields more

-- the items rise, so none stands twice
abbrev pub AreRisingItems : ItemTrees → Type 0
AreRisingItems no_items = ⊤
AreRisingItems (item value more) = IsBelowItems value more × AreRisingItems more

-- the keys rise, so none stands twice
abbrev pub AreRisingPairs : PairTrees → Type 0
AreRisingPairs no_pairs = ⊤
AreRisingPairs (pair key _ more) = IsBelowKeys key more × AreRisingPairs more

abbrev mutual
  -- at every level ids, keys and the members of sets rise
  pub IsInOrder : Tree → Type 0
  IsInOrder (of_struct fields) = AreRisingFields fields × AreFieldsInOrder fields
  IsInOrder (of_map _ _ pairs) = AreRisingPairs pairs × ArePairsInOrder pairs
  IsInOrder (of_set _ items) = AreRisingItems items × AreItemsInOrder items
  IsInOrder (of_list _ items) = AreItemsInOrder items
  IsInOrder _ = ⊤

  -- the value of each field is in order
  pub AreFieldsInOrder : FieldTrees → Type 0
  AreFieldsInOrder no_fields = ⊤
  AreFieldsInOrder (field _ value more) = IsInOrder value × AreFieldsInOrder more

  -- each element is in order
  pub AreItemsInOrder : ItemTrees → Type 0
  AreItemsInOrder no_items = ⊤
  AreItemsInOrder (item value more) = IsInOrder value × AreItemsInOrder more

  -- each key and each value is in order
  pub ArePairsInOrder : PairTrees → Type 0
  ArePairsInOrder no_pairs = ⊤
  ArePairsInOrder (pair key value more) = IsInOrder key × IsInOrder value × ArePairsInOrder more

-- a value that is well tagged and in order
pub record IsTidy (value : Tree) : Type 0 where
  pub tagged : IsWellTagged value
  pub in_order : IsInOrder value

-- each field's value is tidy
abbrev pub AreTidyFields : FieldTrees → Type 0
AreTidyFields fields = AreWellTaggedFields fields × AreFieldsInOrder fields

-- each item is tidy and has this tag
abbrev pub AreTidyItems : Tag → ItemTrees → Type 0
AreTidyItems element items = AreWellTaggedItems element items × AreItemsInOrder items

-- each key and each value is tidy and has its tag
abbrev pub AreTidyPairs : Tag → Tag → PairTrees → Type 0
AreTidyPairs key value pairs = AreWellTaggedPairs key value pairs × ArePairsInOrder pairs
