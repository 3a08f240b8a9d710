-- A code for trees, so that a type whose model denotes trees may stand as the type argument of a law. All that is ever read of a code is that two trees don't have the same one.
use Rattle.std.specs.Prelude.{◌≡◌, ℕ, ℤ, Bool, true, false, ◌==◌, if◌then◌else◌, List, [], ◌∷◌}
use mathlib.Core.Path.{refl}
use lib.IntN.{pos, negsuc}
use base.Stored.{Gv, gnil, gnum, gcons, num}
use denote.Struct.Codes.{itself}
use Rattle.std.specs.Coded.{Coded, code_by}
use Rattle.thrift_value.specs.declared.tag.Tag.{Tag}
use Rattle.thrift_value.specs.declared.tag.Tag.TheVariants.{Bool as BoolTag, I8, I16, I32, I64, Double, Bytes, Struct, Map, Set, List as ListTag, Uuid}
use Rattle.thrift_value.specs.Tree.{Tree, of_bool, of_i8, of_i16, of_i32, of_i64, of_double, of_bytes, of_struct, of_map, of_set, of_list, of_uuid, FieldTrees, no_fields, field, ItemTrees, no_items, item, PairTrees, no_pairs, pair}
use Rattle.thrift_value.specs.Tags.{rank}

-- the codes of a truth value, a whole number and bytes
abbrev bool_code : Bool → Gv
bool_code true = gnum 1
bool_code false = gnum 0

abbrev int_code : ℤ → Gv
int_code (pos n) = gcons (gnum 0) (gnum n)
int_code (negsuc n) = gcons (gnum 1) (gnum n)

abbrev bytes_code : List ℕ → Gv
bytes_code [] = gnil
bytes_code (n ∷ ns) = gcons (gnum n) (bytes_code ns)

-- a tree's code: its kind and the tags that it names, and its content
abbrev node_code : ℕ → Tag → Tag → Gv → Gv
node_code kind one other content = gcons (gcons (gnum kind) (gcons (gnum (rank one)) (gnum (rank other)))) content

-- a value without tags
abbrev leaf_code : ℕ → Gv → Gv
leaf_code kind content = node_code kind BoolTag BoolTag content

abbrev mutual
  code_of : Tree → Gv
  code_of (of_bool x) = leaf_code 0 (bool_code x)
  code_of (of_i8 n) = leaf_code 1 (int_code n)
  code_of (of_i16 n) = leaf_code 2 (int_code n)
  code_of (of_i32 n) = leaf_code 3 (int_code n)
  code_of (of_i64 n) = leaf_code 4 (int_code n)
  code_of (of_double n) = leaf_code 5 (gnum n)
  code_of (of_bytes ns) = leaf_code 6 (bytes_code ns)
  code_of (of_struct fields) = leaf_code 7 (fields_code fields)
  code_of (of_map key value pairs) = node_code 8 key value (pairs_code pairs)
  code_of (of_set tag items) = node_code 9 tag BoolTag (items_code items)
  code_of (of_list tag items) = node_code 10 tag BoolTag (items_code items)
  code_of (of_uuid n) = leaf_code 11 (gnum n)

  fields_code : FieldTrees → Gv
  fields_code no_fields = gnil
  fields_code (field id value more) = gcons (gcons (int_code id) (code_of value)) (fields_code more)

  items_code : ItemTrees → Gv
  items_code no_items = gnil
  items_code (item value more) = gcons (code_of value) (items_code more)

  pairs_code : PairTrees → Gv
  pairs_code no_pairs = gnil
  pairs_code (pair key value more) = gcons (gcons (code_of key) (code_of value)) (pairs_code more)

-- the two parts of a code
abbrev head_of : Gv → Gv
head_of gnil = gnil
head_of (gnum n) = gnil
head_of (gcons a b) = a

abbrev tail_of : Gv → Gv
tail_of gnil = gnil
tail_of (gnum n) = gnil
tail_of (gcons a b) = b

-- what codes are read as: a truth value, a whole number, bytes, a tag
abbrev bool_in : Gv → Bool
bool_in code = if num code == 1 then true else false

abbrev int_in : Gv → ℤ
int_in code = if num (head_of code) == 0 then pos (num (tail_of code)) else negsuc (num (tail_of code))

abbrev bytes_in : Gv → List ℕ
bytes_in gnil = []
bytes_in (gnum n) = []
bytes_in (gcons a b) = num a ∷ bytes_in b

abbrev tag_at : ℕ → Tag
tag_at n =
    if n == 0 then BoolTag else if n == 1 then I8 else if n == 2 then I16 else if n == 3 then I32 else if n == 4 then I64 else if n == 5 then Double
    else if n == 6 then Bytes else if n == 7 then Struct else if n == 8 then Map else if n == 9 then Set
    else if n == 10 then ListTag else Uuid

-- all that a code may be read as: a tree, the parts of a struct, of a set or a list and of a map, and two trees
record Readings : Type 0 where
  tree : Tree
  fields : FieldTrees
  items : ItemTrees
  pairs : PairTrees
  first : Tree
  second : Tree

-- the tree of a kind, by its tags and its content
abbrev tree_by : ℕ → Tag → Tag → Gv → Readings → Tree
tree_by kind one other content inner =
    if kind == 0 then of_bool (bool_in content) else if kind == 1 then of_i8 (int_in content) else if kind == 2 then of_i16 (int_in content)
    else if kind == 3 then of_i32 (int_in content) else if kind == 4 then of_i64 (int_in content) else if kind == 5 then of_double (num content)
    else if kind == 6 then of_bytes (bytes_in content) else if kind == 7 then of_struct inner.fields else if kind == 8 then of_map one other inner.pairs
    else if kind == 9 then of_set one inner.items else if kind == 10 then of_list one inner.items else of_uuid (num content)

-- a code that is no tree's
abbrev unread : Readings
unread = record { tree = of_bool false; fields = no_fields; items = no_items; pairs = no_pairs; first = of_bool false; second = of_bool false }

abbrev read : Gv → Readings
read gnil = unread
read (gnum n) = unread
read (gcons a b) =
    record {
      tree = tree_by (num (head_of a)) (tag_at (num (head_of (tail_of a)))) (tag_at (num (tail_of (tail_of a)))) b (read b);
      fields = field (int_in (head_of a)) (read a).second (read b).fields;
      items = item (read a).tree (read b).items;
      pairs = pair (read a).first (read a).second (read b).pairs;
      first = (read a).tree;
      second = (read b).tree;
    }

-- the tree in a code
abbrev tree_in : Gv → Tree
tree_in code = (read code).tree

same_bool : (x : Bool) → bool_in (bool_code x) ≡ x
same_bool true = refl
same_bool false = refl

same_int : (n : ℤ) → int_in (int_code n) ≡ n
same_int (pos n) = refl
same_int (negsuc n) = refl

same_bytes : (ns : List ℕ) → bytes_in (bytes_code ns) ≡ ns
same_bytes [] = refl
same_bytes (n ∷ ns) = λ i. n ∷ same_bytes ns i

same_tag : (tag : Tag) → tag_at (rank tag) ≡ tag
same_tag BoolTag = refl
same_tag I8 = refl
same_tag I16 = refl
same_tag I32 = refl
same_tag I64 = refl
same_tag Double = refl
same_tag Bytes = refl
same_tag Struct = refl
same_tag Map = refl
same_tag Set = refl
same_tag ListTag = refl
same_tag Uuid = refl

mutual
  -- the tree in a tree's code is that tree
  pub same_tree : (tree : Tree) → tree_in (code_of tree) ≡ tree
  same_tree (of_bool x) = λ i. of_bool (same_bool x i)
  same_tree (of_i8 n) = λ i. of_i8 (same_int n i)
  same_tree (of_i16 n) = λ i. of_i16 (same_int n i)
  same_tree (of_i32 n) = λ i. of_i32 (same_int n i)
  same_tree (of_i64 n) = λ i. of_i64 (same_int n i)
  same_tree (of_double n) = refl
  same_tree (of_bytes ns) = λ i. of_bytes (same_bytes ns i)
  same_tree (of_struct fields) = λ i. of_struct (same_fields fields i)
  same_tree (of_map key value pairs) = λ i. of_map (same_tag key i) (same_tag value i) (same_pairs pairs i)
  same_tree (of_set tag items) = λ i. of_set (same_tag tag i) (same_items items i)
  same_tree (of_list tag items) = λ i. of_list (same_tag tag i) (same_items items i)
  same_tree (of_uuid n) = refl

  same_fields : (fields : FieldTrees) → (read (fields_code fields)).fields ≡ fields
  same_fields no_fields = refl
  same_fields (field id value more) = λ i. field (same_int id i) (same_tree value i) (same_fields more i)

  same_items : (items : ItemTrees) → (read (items_code items)).items ≡ items
  same_items no_items = refl
  same_items (item value more) = λ i. item (same_tree value i) (same_items more i)

  same_pairs : (pairs : PairTrees) → (read (pairs_code pairs)).pairs ≡ pairs
  same_pairs no_pairs = refl
  same_pairs (pair key value more) = λ i. pair (same_tree key i) (same_tree value i) (same_pairs more i)

-- the code of trees
abbrev pub tree_code : Coded Tree
tree_code = code_by Gv itself code_of tree_in same_tree
