-- The tree of each kind of value. A proof about `match` on a value cites these, most of all at a map, where no tactic finds it alone.
use Rattle.std.proofs.Common.{◌≡◌, ℕ, ℤ, Bool, List, ap, ◌∙◌, rules}
use Rattle.thrift_value.specs.declared.tag.Tag.{Tag}
use Rattle.thrift_value.specs.declared.value.Value as value
use Rattle.thrift_value.specs.declared.value.Value.{Value}
use Rattle.thrift_value.specs.declared.value.Fields.{Fields}
use Rattle.thrift_value.specs.declared.value.Items.{Items}
use Rattle.thrift_value.specs.declared.value.Pairs.{Pairs}
use Rattle.thrift_value.specs.declared.value.Value.TheFolds.{the_lemmas}
use Rattle.thrift_value.specs.Tree.{of_bool, of_i8, of_i16, of_i32, of_i64, of_double, of_bytes, of_struct, of_map, of_set, of_list, of_uuid}
use Rattle.thrift_value.specs.TreeOf.{tree_of, fields_tree, items_tree, pairs_tree}

-- the tree of a number, a bool, a uuid and bytes
pub tree_of-Bool : (b : Bool) → tree_of (value.Bool b) ≡ of_bool b
tree_of-Bool b = search (rules, the_lemmas)

pub tree_of-I8 : (n : ℤ) → tree_of (value.I8 n) ≡ of_i8 n
tree_of-I8 n = search (rules, the_lemmas)

pub tree_of-I16 : (n : ℤ) → tree_of (value.I16 n) ≡ of_i16 n
tree_of-I16 n = search (rules, the_lemmas)

pub tree_of-I32 : (n : ℤ) → tree_of (value.I32 n) ≡ of_i32 n
tree_of-I32 n = search (rules, the_lemmas)

pub tree_of-I64 : (n : ℤ) → tree_of (value.I64 n) ≡ of_i64 n
tree_of-I64 n = search (rules, the_lemmas)

pub tree_of-Double : (n : ℕ) → tree_of (value.Double n) ≡ of_double n
tree_of-Double n = search (rules, the_lemmas)

pub tree_of-Uuid : (n : ℕ) → tree_of (value.Uuid n) ≡ of_uuid n
tree_of-Uuid n = search (rules, the_lemmas)

pub tree_of-Bytes : (text : List ℕ) → tree_of (value.Bytes text) ≡ of_bytes text
tree_of-Bytes text = search (rules, the_lemmas)

-- the tree of a struct, a map, a set and a list
pub tree_of-Struct : (fields : Fields) → tree_of (value.Struct fields) ≡ of_struct (fields_tree fields)
tree_of-Struct fields = search (rules, the_lemmas)

pub tree_of-Map : (k w : Tag) (pairs : Pairs) → tree_of (value.Map k w pairs) ≡ of_map k w (pairs_tree pairs)
tree_of-Map k w pairs = search (rules, the_lemmas)

pub tree_of-Set : (t : Tag) (items : Items) → tree_of (value.Set t items) ≡ of_set t (items_tree items)
tree_of-Set t items = search (rules, the_lemmas)

pub tree_of-List : (t : Tag) (items : Items) → tree_of (value.List t items) ≡ of_list t (items_tree items)
tree_of-List t items = search (rules, the_lemmas)

-- the same of a value that is known to be one
pub tree_of-is_Struct : (v : Value) (fields : Fields) → v ≡ value.Struct fields → tree_of v ≡ of_struct (fields_tree fields)
tree_of-is_Struct v fields is = ap tree_of is ∙ tree_of-Struct fields

pub tree_of-is_Map : (v : Value) (k w : Tag) (pairs : Pairs) → v ≡ value.Map k w pairs → tree_of v ≡ of_map k w (pairs_tree pairs)
tree_of-is_Map v k w pairs is = ap tree_of is ∙ tree_of-Map k w pairs

pub tree_of-is_Set : (v : Value) (t : Tag) (items : Items) → v ≡ value.Set t items → tree_of v ≡ of_set t (items_tree items)
tree_of-is_Set v t items is = ap tree_of is ∙ tree_of-Set t items

pub tree_of-is_List : (v : Value) (t : Tag) (items : Items) → v ≡ value.List t items → tree_of v ≡ of_list t (items_tree items)
tree_of-is_List v t items is = ap tree_of is ∙ tree_of-List t items

-- all of them
pub ruleset tree_equations = (tree_of-Bool, tree_of-I8, tree_of-I16, tree_of-I32, tree_of-I64, tree_of-Double, tree_of-Uuid, tree_of-Bytes, tree_of-Struct, tree_of-Map, tree_of-Set, tree_of-List, tree_of-is_Struct, tree_of-is_Map, tree_of-is_Set, tree_of-is_List)
