-- The tree that a value in memory stands for.
use Rattle.std.specs.Prelude.{ℤ, List, [], ◌∷◌, map}
use Rattle.thrift_value.specs.declared.value.Value.{Value}
use Rattle.thrift_value.specs.declared.value.Fields.{Fields}
use Rattle.thrift_value.specs.declared.value.Items.{Items}
use Rattle.thrift_value.specs.declared.value.Pairs.{Pairs}
use Rattle.thrift_value.specs.declared.value.Value.TheOpen.{Value-F, Fields-F, Items-F, Pairs-F}
use Rattle.thrift_value.specs.declared.value.Value.TheOpen as layer
use Rattle.thrift_value.specs.declared.value.Value.TheFolds.{fold-Value}
use Rattle.thrift_value.specs.Tree.{Tree, of_bool, of_i8, of_i16, of_i32, of_i64, of_double, of_bytes, of_struct, of_map, of_set, of_list, of_uuid, FieldTrees, no_fields, field, ItemTrees, no_items, item, PairTrees, no_pairs, pair}

-- the fields of a struct
abbrev pub fields_of : Fields → List (ℤ × Value)
fields_of fields = fields.list.items

-- the elements of a set or a list
abbrev pub items_of : Items → List Value
items_of items = items.list.items

-- the pairs of a map
abbrev pub pairs_of : Pairs → List (Value × Value)
pairs_of pairs = pairs.list.items

-- fields as the kind of list that a tree has
abbrev pub field_trees : List (ℤ × Tree) → FieldTrees
field_trees [] = no_fields
field_trees (f ∷ fs) = field f.0 f.1 (field_trees fs)

-- elements as the kind of list that a tree has
abbrev pub item_trees : List Tree → ItemTrees
item_trees [] = no_items
item_trees (x ∷ xs) = item x (item_trees xs)

-- pairs as the kind of list that a tree has
abbrev pub pair_trees : List (Tree × Tree) → PairTrees
pair_trees [] = no_pairs
pair_trees (p ∷ ps) = pair p.0 p.1 (pair_trees ps)

-- one level of a value, with the trees of what it holds in their places
abbrev pub tree_step : Value-F Tree FieldTrees ItemTrees PairTrees → Tree
tree_step (layer.Bool b) = of_bool b
tree_step (layer.I8 n) = of_i8 n
tree_step (layer.I16 n) = of_i16 n
tree_step (layer.I32 n) = of_i32 n
tree_step (layer.I64 n) = of_i64 n
tree_step (layer.Double n) = of_double n
tree_step (layer.Bytes text) = of_bytes text
tree_step (layer.Struct fields) = of_struct fields
tree_step (layer.Map key value pairs) = of_map key value pairs
tree_step (layer.Set element items) = of_set element items
tree_step (layer.List element items) = of_list element items
tree_step (layer.Uuid n) = of_uuid n

-- the tree of a value
abbrev pub tree_of : Value → Tree
tree_of =
    fold-Value Tree FieldTrees ItemTrees PairTrees tree_step
    (λ fields. field_trees fields.list.items)
    (λ items. item_trees items.list.items)
    (λ pairs. pair_trees pairs.list.items)

-- a field, with a tree in place of its value
abbrev pub field_tree : ℤ × Value → ℤ × Tree
field_tree f = (f.0, tree_of f.1)

-- a pair, with trees in place of values
abbrev pub pair_tree : Value × Value → Tree × Tree
pair_tree p = (tree_of p.0, tree_of p.1)

-- the trees of the fields of a struct
abbrev pub fields_tree : Fields → FieldTrees
fields_tree fields = field_trees (map field_tree (fields_of fields))

-- the trees of the elements of a set or a list
abbrev pub items_tree : Items → ItemTrees
items_tree items = item_trees (map tree_of (items_of items))

-- the trees of the pairs of a map
abbrev pub pairs_tree : Pairs → PairTrees
pairs_tree pairs = pair_trees (map pair_tree (pairs_of pairs))
