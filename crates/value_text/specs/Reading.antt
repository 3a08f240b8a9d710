-- Reading the text of a value from the front: the value and what is left behind it, or how many bytes are left at the fault. The
-- fault is the first byte with which no text of a tidy value of so many levels goes on; a comma is taken behind any entry, and an
-- id, a key or a member that doesn't come behind the one before it is at fault at the first byte behind it.
use Rattle.std.specs.Prelude.{ℕ, zero, suc, ◌-◌, ◌^◌, ◌==◌, ◌&&◌, not, Bool, true, false, ℤ, pos, neg_ℤ, int_le, int_lt, List, [], ◌∷◌, codes, length, drop, Option, Some, None, Result, Ok, Err, if◌then◌else◌}
use Rattle.std.specs.Ordering.{is_lt}
use Rattle.std.specs.Int.{w64, w128, from_be_bytes}
use Rattle.text_out.specs.Bytes.{minus_sign, quotation_mark}
use Rattle.thrift_value.specs.declared.tag.Tag.{Tag}
use Rattle.thrift_value.specs.declared.tag.Tag.TheVariants.{Bool as BoolTag, I8, I16, I32, I64, Double as DoubleTag, Bytes as BytesTag, Struct as StructTag, Map as MapTag, Set as SetTag, List as ListTag, Uuid as UuidTag}
use Rattle.thrift_value.specs.Tags.{rank}
use Rattle.thrift_value.specs.Order.{tree_cmp}
use Rattle.thrift_value.specs.Tree.{Tree, of_bool, of_i8, of_i16, of_i32, of_i64, of_double, of_bytes, of_struct, of_map, of_set, of_list, of_uuid}
use Rattle.thrift_value.specs.TreeOf.{field_trees, item_trees, pair_trees}
use Rattle.value_text.specs.declared.form.Leaf.{Leaf}
use Rattle.value_text.specs.declared.form.Leaf.TheVariants.{Yes, No, Number, Double, Uuid, Quoted}
use Rattle.value_text.specs.declared.form.Container.{Container}
use Rattle.value_text.specs.declared.form.Container.TheVariants.{Struct, Map, Set, List as ListForm}
use Rattle.value_text.specs.declared.form.Form.{Form}
use Rattle.value_text.specs.declared.form.Form.TheVariants.{Alone, Holding}
use Rattle.value_text.specs.Fronts.{◌>>=◌, stuck, behind_word, tag_at, integer_at, hex_at, quoted_at, is_digit}
use Rattle.value_text.specs.Rows.{found_or, list_at}

-- the form that a value's first byte tells
abbrev pub form_of : ℕ → Option Form
form_of b =
    if b == 116 then Some (Alone Yes) else if b == 102 then Some (Alone No) else if b == 100 then Some (Alone Double)
    else if b == 117 then Some (Alone Uuid)
    else if b == quotation_mark then Some (Alone Quoted) else if b == 123 then Some (Holding Struct) else if b == 109 then Some (Holding Map)
    else if b == 115 then Some (Holding Set) else if b == 108 then Some (Holding ListForm) else if b == minus_sign then Some (Alone Number)
    else if is_digit b then Some (Alone Number) else None

-- whether a tag may stand where this one is wanted, or any
abbrev pub is_wanted : Option Tag → Tag → Bool
is_wanted None tag = true
is_wanted (Some wanted) tag = rank wanted == rank tag

-- whether an integer may stand there
abbrev pub is_number_wanted : Option Tag → Bool
is_number_wanted None = true
is_number_wanted (Some I8) = true
is_number_wanted (Some I16) = true
is_number_wanted (Some I32) = true
is_number_wanted (Some I64) = true
is_number_wanted (Some tag) = false

-- whether a value that holds no others may stand there
abbrev pub is_leaf_wanted : Option Tag → Leaf → Bool
is_leaf_wanted wanted Yes = is_wanted wanted BoolTag
is_leaf_wanted wanted No = is_wanted wanted BoolTag
is_leaf_wanted wanted Number = is_number_wanted wanted
is_leaf_wanted wanted Double = is_wanted wanted DoubleTag
is_leaf_wanted wanted Uuid = is_wanted wanted UuidTag
is_leaf_wanted wanted Quoted = is_wanted wanted BytesTag

-- the tag of values that hold others
abbrev pub container_tag : Container → Tag
container_tag Struct = StructTag
container_tag Map = MapTag
container_tag Set = SetTag
container_tag ListForm = ListTag

-- whether a value of a form may stand there
abbrev pub is_form_wanted : Option Tag → Form → Bool
is_form_wanted wanted (Alone leaf) = is_leaf_wanted wanted leaf
is_form_wanted wanted (Holding container) = is_wanted wanted (container_tag container)

-- a form, where it may stand there
abbrev pub form_or : Option Form → Option Tag → List ℕ → Result Form ℕ
form_or None wanted text = stuck text
form_or (Some form) wanted text = if is_form_wanted wanted form then Ok form else stuck text

-- the form of the value in front
unfoldable pub form_at : Option Tag → List ℕ → Result Form ℕ
form_at wanted [] = Err 0
form_at wanted (b ∷ bs) = form_or (form_of b) wanted (b ∷ bs)

-- the greatest integer that may stand there
abbrev pub greatest : Option Tag → ℕ
greatest (Some I8) = 127
greatest (Some I16) = 32767
greatest (Some I32) = 2147483647
greatest wanted = 9223372036854775807

-- whether a number has so many bits
abbrev pub fits_bits : ℕ → ℤ → Bool
fits_bits bits n = int_le (neg_ℤ (pos (2 ^ (bits - 1)))) n && int_le n (pos (2 ^ (bits - 1) - 1))

-- a number of a tag that may stand there
abbrev pub typed_as : Option Tag → Tag → (ℤ → Tree) → ℕ → ℤ → Option Tree
typed_as wanted tag tree bits n = if is_wanted wanted tag then (if fits_bits bits n then Some (tree n) else None) else None

-- the number of the type that a letter tells
unfoldable pub lettered : Option Tag → ℕ → ℤ → Option Tree
lettered wanted letter n =
    if letter == 98 then typed_as wanted I8 of_i8 8 n else if letter == 115 then typed_as wanted I16 of_i16 16 n
    else if letter == 105 then typed_as wanted I32 of_i32 32 n else if letter == 108 then typed_as wanted I64 of_i64 64 n else None

-- a number with the letter of its type in front
unfoldable pub typed_at : Option Tag → ℤ → List ℕ → Result (Tree × List ℕ) ℕ
typed_at wanted n [] = Err 0
typed_at wanted n (b ∷ bs) = found_or (lettered wanted b n) (λ x. Ok (x, bs)) (stuck (b ∷ bs))

-- an integer and the letter of its type
unfoldable pub number_text_at : Option Tag → List ℕ → Result (Tree × List ℕ) ℕ
number_text_at wanted text = integer_at (greatest wanted) text >>= λ n. typed_at wanted n.0 n.1

-- a bool's word
unfoldable pub bool_at : Bool → List ℕ → List ℕ → Result (Tree × List ℕ) ℕ
bool_at truth word text = behind_word word text >>= λ rest. Ok (of_bool truth, rest)

-- a double
unfoldable pub double_at : List ℕ → Result (Tree × List ℕ) ℕ
double_at text = do
  digits ← behind_word (codes "d") text
  bytes ← hex_at 8 digits
  Ok (of_double (from_be_bytes w64 bytes.0), bytes.1)

-- a uuid
unfoldable pub uuid_at : List ℕ → Result (Tree × List ℕ) ℕ
uuid_at text = do
  digits ← behind_word (codes "u") text
  bytes ← hex_at 16 digits
  Ok (of_uuid (from_be_bytes w128 bytes.0), bytes.1)

-- bytes between quotation marks
unfoldable pub bytes_at : ℕ → List ℕ → Result (Tree × List ℕ) ℕ
bytes_at most text = do
  inside ← behind_word (quotation_mark ∷ []) text
  bytes ← quoted_at most inside
  Ok (of_bytes bytes.0, bytes.1)

-- a value that holds no others
abbrev pub leaf_at : ℕ → Option Tag → Leaf → List ℕ → Result (Tree × List ℕ) ℕ
leaf_at most wanted Yes text = bool_at true (codes "true") text
leaf_at most wanted No text = bool_at false (codes "false") text
leaf_at most wanted Number text = number_text_at wanted text
leaf_at most wanted Double text = double_at text
leaf_at most wanted Uuid text = uuid_at text
leaf_at most wanted Quoted text = bytes_at most text

-- `=` and a value
unfoldable pub assigned_at : (Option Tag → List ℕ → Result (Tree × List ℕ) ℕ) → Option Tag → List ℕ → Result (Tree × List ℕ) ℕ
assigned_at value wanted text = behind_word (codes "=") text >>= λ rest. value wanted rest

-- whether an id comes behind that of a last field
abbrev pub id_comes_behind : Option (ℤ × Tree) → ℤ → Bool
id_comes_behind last id = found_or last (λ f. int_lt f.0 id) true

-- the id of a field behind a last one
unfoldable pub id_at : Option (ℤ × Tree) → List ℕ → Result (ℤ × List ℕ) ℕ
id_at last text = integer_at 32767 text >>= λ n. if id_comes_behind last n.0 then Ok n else stuck n.1

-- a field behind a last one: its id and its value
unfoldable pub field_text_at : (Option Tag → List ℕ → Result (Tree × List ℕ) ℕ) → Option (ℤ × Tree) → List ℕ → Result ((ℤ × Tree) × List ℕ) ℕ
field_text_at value last text = do
  id ← id_at last text
  x ← assigned_at value None id.1
  Ok ((id.0, x.0), x.1)

-- whether a value comes behind a last one
abbrev pub comes_behind : Option Tree → Tree → Bool
comes_behind last x = found_or last (λ y. is_lt (tree_cmp y x)) true

-- an element behind a last one; the members of a set rise
unfoldable pub item_at : Bool → Tag → (Option Tag → List ℕ → Result (Tree × List ℕ) ℕ) → Option Tree → List ℕ → Result (Tree × List ℕ) ℕ
item_at rising tag value last text = value (Some tag) text >>= λ x. if not rising then Ok x else if comes_behind last x.0 then Ok x else stuck x.1

-- whether values of a tag hold no others
abbrev pub is_leaf_tag : Tag → Bool
is_leaf_tag StructTag = false
is_leaf_tag MapTag = false
is_leaf_tag SetTag = false
is_leaf_tag ListTag = false
is_leaf_tag tag = true

-- whether a value of a tag may stand where so many levels may be opened
abbrev pub has_level : ℕ → Tag → Bool
has_level levels tag = if levels == 0 then is_leaf_tag tag else true

-- the keys of pairs
abbrev pub last_key : Option (Tree × Tree) → Option Tree
last_key last = found_or last (λ p. Some p.0) None

-- a pair behind a last one: its key and its value. None can begin where there is no level for its value
unfoldable pub pair_text_at : ℕ → Tag → Tag → (Option Tag → List ℕ → Result (Tree × List ℕ) ℕ) → Option (Tree × Tree) → List ℕ → Result ((Tree × Tree) × List ℕ) ℕ
pair_text_at levels key tag value last text = do
  k ← if has_level levels tag then item_at true key value (last_key last) text else stuck text
  x ← assigned_at value (Some tag) k.1
  Ok ((k.0, x.0), x.1)

-- a struct
unfoldable pub struct_text_at : ℕ → (Option Tag → List ℕ → Result (Tree × List ℕ) ℕ) → List ℕ → Result (Tree × List ℕ) ℕ
struct_text_at most value text = do
  inside ← behind_word (codes "{") text
  fields ← list_at (field_text_at value) 125 most inside
  Ok (of_struct (field_trees fields.0), fields.1)

-- the word of a set or a list with its tag, and what opens its elements
unfoldable pub head_text_at : List ℕ → List ℕ → Result (Tag × List ℕ) ℕ
head_text_at word text = do
  named ← behind_word word text
  tag ← tag_at named
  rest ← behind_word (codes ">[") tag.1
  Ok (tag.0, rest)

-- the word of a map with its tags, and what opens its pairs
unfoldable pub map_head_at : List ℕ → Result (Tag × Tag × List ℕ) ℕ
map_head_at text = do
  named ← behind_word (codes "map<") text
  key ← tag_at named
  next ← behind_word (codes ",") key.1
  tag ← tag_at next
  rest ← behind_word (codes ">{") tag.1
  Ok (key.0, tag.0, rest)

-- a map
unfoldable pub map_at : ℕ → ℕ → (Option Tag → List ℕ → Result (Tree × List ℕ) ℕ) → List ℕ → Result (Tree × List ℕ) ℕ
map_at most levels value text = do
  head ← map_head_at text
  pairs ← list_at (pair_text_at levels head.0 head.1 value) 125 most head.2
  Ok (of_map head.0 head.1 (pair_trees pairs.0), pairs.1)

-- a set
unfoldable pub set_at : ℕ → (Option Tag → List ℕ → Result (Tree × List ℕ) ℕ) → List ℕ → Result (Tree × List ℕ) ℕ
set_at most value text = do
  head ← head_text_at (codes "set<") text
  items ← list_at (item_at true head.0 value) 93 most head.1
  Ok (of_set head.0 (item_trees items.0), items.1)

-- a list
unfoldable pub list_value_at : ℕ → (Option Tag → List ℕ → Result (Tree × List ℕ) ℕ) → List ℕ → Result (Tree × List ℕ) ℕ
list_value_at most value text = do
  head ← head_text_at (codes "list<") text
  items ← list_at (item_at false head.0 value) 93 most head.1
  Ok (of_list head.0 (item_trees items.0), items.1)

-- a value that holds others; `value` reads those, and `levels` is how many levels they may open
abbrev pub container_at : ℕ → ℕ → (Option Tag → List ℕ → Result (Tree × List ℕ) ℕ) → Container → List ℕ → Result (Tree × List ℕ) ℕ
container_at most levels value Struct text = struct_text_at most value text
container_at most levels value Map text = map_at most levels value text
container_at most levels value Set text = set_at most value text
container_at most levels value ListForm text = list_value_at most value text

-- a value of a form; `deeper` reads those that hold others
abbrev pub formed_at : ℕ → (Container → List ℕ → Result (Tree × List ℕ) ℕ) → Option Tag → Form → List ℕ → Result (Tree × List ℕ) ℕ
formed_at most deeper wanted (Alone leaf) text = leaf_at most wanted leaf text
formed_at most deeper wanted (Holding container) text = deeper container text

-- a value that is wanted there; `deeper` reads those that hold others
unfoldable pub value_by : ℕ → (Container → List ℕ → Result (Tree × List ℕ) ℕ) → Option Tag → List ℕ → Result (Tree × List ℕ) ℕ
value_by most deeper wanted text = form_at wanted text >>= λ form. formed_at most deeper wanted form text

-- a value that holds others, where so many levels may be opened
unfoldable pub deeper_at : ℕ → ℕ → Container → List ℕ → Result (Tree × List ℕ) ℕ
deeper_at most zero container text = stuck text
deeper_at most (suc levels) container text = container_at most levels (value_by most (deeper_at most levels)) container text

-- a value that is wanted there, where so many levels may be opened
unfoldable pub value_text_at : ℕ → ℕ → Option Tag → List ℕ → Result (Tree × List ℕ) ℕ
value_text_at most levels = value_by most (deeper_at most levels)

-- no text has more bytes
abbrev pub most_rounds : ℕ
most_rounds = 18446744073709551615

-- how many levels a value that is read may have
abbrev pub text_levels : ℕ
text_levels = 64

-- what was read and the place behind it, or the place of the fault, in a text of this length
abbrev pub at_place : ℕ → Result (Tree × List ℕ) ℕ → Result (Tree × ℕ) ℕ
at_place size (Ok x) = Ok (x.0, size - length x.1)
at_place size (Err left) = Err (size - left)

-- this value, with this place behind it
abbrev pub read_as : Tree → ℕ → Result (Tree × ℕ) ℕ
read_as x behind = Ok (x, behind)

-- the value whose text stands at a place, and the place behind it; or the place of the fault
abbrev pub front_at : List ℕ → ℕ → Result (Tree × ℕ) ℕ
front_at text at = at_place (length text) (value_text_at most_rounds text_levels None (drop at text))

-- a value behind which the text ends, or a fault at what stands there
abbrev pub ended : ℕ → Result (Tree × ℕ) ℕ → Result Tree ℕ
ended size (Ok x) = if x.1 == size then Ok x.0 else Err x.1
ended size (Err place) = Err place

-- the value whose text this is, or the place of the fault
abbrev pub reading_of : List ℕ → Result Tree ℕ
reading_of text = ended (length text) (front_at text 0)
