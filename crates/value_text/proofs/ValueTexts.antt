-- The text of each kind of value, as it is put together from its parts.
use Rattle.std.proofs.Common.{◌≡◌, ℕ, ℤ, Bool, true, false, List, ◌++◌, codes, map, if◌then◌else◌, refl, sym, ap, ◌∙◌, append_assoc}
use Rattle.text_out.specs.Quoted.{quoted_of}
use Rattle.thrift_value.specs.declared.tag.Tag.{Tag}
use Rattle.thrift_value.specs.declared.value.Value as value
use Rattle.thrift_value.specs.declared.value.Value.{Value}
use Rattle.thrift_value.specs.declared.value.Fields.{Fields}
use Rattle.thrift_value.specs.declared.value.Items.{Items}
use Rattle.thrift_value.specs.declared.value.Pairs.{Pairs}
use Rattle.thrift_value.specs.Tree.{Tree, of_bool, of_i8, of_i16, of_i32, of_i64, of_double, of_uuid, of_bytes}
use Rattle.thrift_value.specs.TreeOf.{tree_of, field_tree, pair_tree, field_trees, item_trees, pair_trees, fields_of, items_of, pairs_of}
use Rattle.thrift_value.proofs.Trees.{tree_of-Bool, tree_of-I8, tree_of-I16, tree_of-I32, tree_of-I64, tree_of-Double, tree_of-Uuid, tree_of-Bytes, tree_of-Struct, tree_of-Map, tree_of-Set, tree_of-List}
use Rattle.value_text.specs.ValueText.{tag_word, number_and_letter, double_text, uuid_text, tree_text, listed_fields, listed_items, listed_pairs}

-- the text of a value that is known to be one of a tree
known_text : (v known : Value) (tree : Tree) → v ≡ known → tree_of known ≡ tree → tree_text tree ≡ tree_text (tree_of v)
known_text v known tree is known_tree = ap tree_text (sym (ap tree_of is ∙ known_tree))

truth_text : (b : Bool) → (if b then codes "true" else codes "false") ≡ tree_text (of_bool b)
truth_text true = refl
truth_text false = refl

pub bool_text : (v : Value) (b : Bool) → v ≡ value.Bool b → (if b then codes "true" else codes "false") ≡ tree_text (tree_of v)
bool_text v b is = truth_text b ∙ known_text v (value.Bool b) (of_bool b) is (tree_of-Bool b)

-- a number that is written as another one of the same worth
pub i8_text : (v : Value) (n m : ℤ) → v ≡ value.I8 n → m ≡ n → number_and_letter m (codes "b") ≡ tree_text (tree_of v)
i8_text v n m is same = ap (λ k. number_and_letter k (codes "b")) same ∙ known_text v (value.I8 n) (of_i8 n) is (tree_of-I8 n)

pub i16_text : (v : Value) (n m : ℤ) → v ≡ value.I16 n → m ≡ n → number_and_letter m (codes "s") ≡ tree_text (tree_of v)
i16_text v n m is same = ap (λ k. number_and_letter k (codes "s")) same ∙ known_text v (value.I16 n) (of_i16 n) is (tree_of-I16 n)

pub i32_text : (v : Value) (n m : ℤ) → v ≡ value.I32 n → m ≡ n → number_and_letter m (codes "i") ≡ tree_text (tree_of v)
i32_text v n m is same = ap (λ k. number_and_letter k (codes "i")) same ∙ known_text v (value.I32 n) (of_i32 n) is (tree_of-I32 n)

pub i64_text : (v : Value) (n m : ℤ) → v ≡ value.I64 n → m ≡ n → number_and_letter m (codes "l") ≡ tree_text (tree_of v)
i64_text v n m is same = ap (λ k. number_and_letter k (codes "l")) same ∙ known_text v (value.I64 n) (of_i64 n) is (tree_of-I64 n)

pub bits_text : (v : Value) (bits : ℕ) → v ≡ value.Double bits → double_text bits ≡ tree_text (tree_of v)
bits_text v bits is = known_text v (value.Double bits) (of_double bits) is (tree_of-Double bits)

pub wide_text : (v : Value) (n number : ℕ) → v ≡ value.Uuid n → number ≡ n → uuid_text number ≡ tree_text (tree_of v)
wide_text v n number is counted = ap uuid_text counted ∙ known_text v (value.Uuid n) (of_uuid n) is (tree_of-Uuid n)

pub bytes_text : (v : Value) (bytes shown : List ℕ) → v ≡ value.Bytes bytes → shown ≡ bytes → quoted_of shown ≡ tree_text (tree_of v)
bytes_text v bytes shown is same = ap quoted_of same ∙ known_text v (value.Bytes bytes) (of_bytes bytes) is (tree_of-Bytes bytes)

pub struct_text : (v : Value) (fields : Fields) (shown : List (ℤ × Value)) → v ≡ value.Struct fields → shown ≡ fields_of fields
    → codes "{" ++ (listed_fields (field_trees (map field_tree shown)) ++ codes "}") ≡ tree_text (tree_of v)
struct_text v fields shown is same =
    ap (λ fs. codes "{" ++ (listed_fields (field_trees (map field_tree fs)) ++ codes "}")) same
    ∙ known_text v (value.Struct fields) _ is (tree_of-Struct fields)

pub map_text : (v : Value) (key tag : Tag) (pairs : Pairs) (shown : List (Value × Value)) → v ≡ value.Map key tag pairs → shown ≡ pairs_of pairs
    → codes "map<" ++ (tag_word key ++ (codes "," ++ (tag_word tag ++ (codes ">{" ++ (listed_pairs (pair_trees (map pair_tree shown)) ++ codes "}"))))) ≡ tree_text (tree_of v)
map_text v key tag pairs shown is same =
    ap (λ ps. codes "map<" ++ (tag_word key ++ (codes "," ++ (tag_word tag ++ (codes ">{" ++ (listed_pairs (pair_trees (map pair_tree ps)) ++ codes "}")))))) same
    ∙ known_text v (value.Map key tag pairs) _ is (tree_of-Map key tag pairs)

pub set_text : (v : Value) (element : Tag) (items : Items) (shown : List Value) → v ≡ value.Set element items → shown ≡ items_of items
    → codes "set<" ++ (tag_word element ++ (codes ">[" ++ (listed_items (item_trees (map tree_of shown)) ++ codes "]"))) ≡ tree_text (tree_of v)
set_text v element items shown is same =
    ap (λ xs. codes "set<" ++ (tag_word element ++ (codes ">[" ++ (listed_items (item_trees (map tree_of xs)) ++ codes "]")))) same
    ∙ known_text v (value.Set element items) _ is (tree_of-Set element items)

pub list_text : (v : Value) (element : Tag) (items : Items) (shown : List Value) → v ≡ value.List element items → shown ≡ items_of items
    → codes "list<" ++ (tag_word element ++ (codes ">[" ++ (listed_items (item_trees (map tree_of shown)) ++ codes "]"))) ≡ tree_text (tree_of v)
list_text v element items shown is same =
    ap (λ xs. codes "list<" ++ (tag_word element ++ (codes ">[" ++ (listed_items (item_trees (map tree_of xs)) ++ codes "]")))) same
    ∙ known_text v (value.List element items) _ is (tree_of-List element items)

-- what opens the pairs of a map, or elements, in front of what is behind it
pub map_opened : (key tag rest : List ℕ) → (codes "map<" ++ (key ++ (codes "," ++ (tag ++ codes ">{")))) ++ rest ≡ codes "map<" ++ (key ++ (codes "," ++ (tag ++ (codes ">{" ++ rest))))
map_opened key tag rest =
    ap (λ t. codes "map<" ++ t) (append_assoc key (codes "," ++ (tag ++ codes ">{")) rest ∙ ap (λ t. key ++ (codes "," ++ t)) (append_assoc tag (codes ">{") rest))

pub list_opened : (word tag rest : List ℕ) → (word ++ (tag ++ codes ">[")) ++ rest ≡ word ++ (tag ++ (codes ">[" ++ rest))
list_opened word tag rest = append_assoc word (tag ++ codes ">[") rest ∙ ap (λ t. word ++ t) (append_assoc tag (codes ">[") rest)
