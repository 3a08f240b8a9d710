-- The text of a value: one line, from which the value can be told.
use Rattle.std.specs.Prelude.{ℕ, ℤ, true, false, List, [], ◌++◌, codes}
use Rattle.std.specs.Int.{w64, w128, to_be_bytes}
use Rattle.text_out.specs.Decimal.{decimal_of}
use Rattle.text_out.specs.Hex.{hex_of}
use Rattle.text_out.specs.Quoted.{quoted_of}
use Rattle.thrift_value.specs.declared.tag.Tag.{Tag}
use Rattle.thrift_value.specs.declared.tag.Tag.TheVariants.{Bool, I8, I16, I32, I64, Double, Bytes, Struct, Map, Set, List as ListTag, Uuid}
use Rattle.thrift_value.specs.Tree.{Tree, of_bool, of_i8, of_i16, of_i32, of_i64, of_double, of_bytes, of_struct, of_map, of_set, of_list, of_uuid, FieldTrees, no_fields, field, ItemTrees, no_items, item, PairTrees, no_pairs, pair}

-- the word of a tag
abbrev pub tag_word : Tag → List ℕ
tag_word Bool = codes "bool"
tag_word I8 = codes "i8"
tag_word I16 = codes "i16"
tag_word I32 = codes "i32"
tag_word I64 = codes "i64"
tag_word Double = codes "double"
tag_word Bytes = codes "bytes"
tag_word Struct = codes "struct"
tag_word Map = codes "map"
tag_word Set = codes "set"
tag_word ListTag = codes "list"
tag_word Uuid = codes "uuid"

-- a number's decimal and the letter of its type
abbrev pub number_and_letter : ℤ → List ℕ → List ℕ
number_and_letter n letter = decimal_of n ++ letter

-- the 64 bits of a double as hexadecimal digits, the highest first
abbrev pub double_text : ℕ → List ℕ
double_text bits = codes "d" ++ hex_of (to_be_bytes w64 bits)

-- the 128 bits of a uuid as hexadecimal digits, the highest first
abbrev pub uuid_text : ℕ → List ℕ
uuid_text number = codes "u" ++ hex_of (to_be_bytes w128 number)

abbrev mutual
  -- the text of a value
  pub tree_text : Tree → List ℕ
  tree_text (of_bool true) = codes "true"
  tree_text (of_bool false) = codes "false"
  tree_text (of_i8 n) = number_and_letter n (codes "b")
  tree_text (of_i16 n) = number_and_letter n (codes "s")
  tree_text (of_i32 n) = number_and_letter n (codes "i")
  tree_text (of_i64 n) = number_and_letter n (codes "l")
  tree_text (of_double bits) = double_text bits
  tree_text (of_bytes bytes) = quoted_of bytes
  tree_text (of_struct fields) = codes "{" ++ (listed_fields fields ++ codes "}")
  tree_text (of_map key value pairs) =
      codes "map<" ++ (tag_word key ++ (codes "," ++ (tag_word value ++ (codes ">{" ++ (listed_pairs pairs ++ codes "}")))))
  tree_text (of_set element items) = codes "set<" ++ (tag_word element ++ (codes ">[" ++ (listed_items items ++ codes "]")))
  tree_text (of_list element items) = codes "list<" ++ (tag_word element ++ (codes ">[" ++ (listed_items items ++ codes "]")))
  tree_text (of_uuid number) = uuid_text number

  -- fields, each its id and its value, with commas between them
  pub listed_fields : FieldTrees → List ℕ
  listed_fields no_fields = []
  listed_fields (field id value more) = decimal_of id ++ (codes "=" ++ (tree_text value ++ further_fields more))

  -- the same behind others
  pub further_fields : FieldTrees → List ℕ
  further_fields no_fields = []
  further_fields (field id value more) =
      codes "," ++ (decimal_of id ++ (codes "=" ++ (tree_text value ++ further_fields more)))

  -- elements, with commas between them
  pub listed_items : ItemTrees → List ℕ
  listed_items no_items = []
  listed_items (item value more) = tree_text value ++ further_items more

  -- the same behind others
  pub further_items : ItemTrees → List ℕ
  further_items no_items = []
  further_items (item value more) = codes "," ++ (tree_text value ++ further_items more)

  -- pairs, each a key and its value, with commas between them
  pub listed_pairs : PairTrees → List ℕ
  listed_pairs no_pairs = []
  listed_pairs (pair key value more) = tree_text key ++ (codes "=" ++ (tree_text value ++ further_pairs more))

  -- the same behind others
  pub further_pairs : PairTrees → List ℕ
  further_pairs no_pairs = []
  further_pairs (pair key value more) =
      codes "," ++ (tree_text key ++ (codes "=" ++ (tree_text value ++ further_pairs more)))
