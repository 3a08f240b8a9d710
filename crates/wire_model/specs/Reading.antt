-- Reading a value: level by level, from left to right, with the first fault that is met. What stands where is the
-- standard's (Thrift binary and compact protocol, 'Struct', 'List and Set', 'Map'); that values and levels are counted, and
-- which fault comes before which, is own choice.
use Rattle.std.specs.Prelude.{⊤, ℕ, zero, suc, ℤ, pos}
use Rattle.thrift_value.specs.declared.tag.Tag.{Tag}
use Rattle.thrift_value.specs.declared.tag.Tag.TheVariants as tags
use Rattle.thrift_value.specs.declared.wire_fault.WireFault.TheVariants.{Short, TooDeep}
use Rattle.thrift_value.specs.Tree.{Tree, of_bool, of_bytes, of_struct, of_map, of_set, of_list, FieldTrees, no_fields, field, ItemTrees, no_items, item, PairTrees, no_pairs, pair}
use Rattle.wire_model.specs.Decoder.{Decoder, ◌>>=◌, give, fail, room, count_value}
use Rattle.wire_model.specs.Wire.{FieldHeader, stop, typed, flagged, Wire}

-- one more level, or TooDeep
abbrev pub deeper : ℕ → Decoder ⊤
deeper zero = fail TooDeep
deeper (suc levels) = give tt

-- so many values of a tag, one after another
unfoldable pub item_list : (Tag → Decoder Tree) → Tag → ℕ → Decoder ItemTrees
item_list value tag zero = give no_items
item_list value tag (suc count) = do
  x ← value tag
  more ← item_list value tag count
  give (item x more)

-- so many pairs, each a key and its value
unfoldable pub pair_list : (Tag → Decoder Tree) → Tag → Tag → ℕ → Decoder PairTrees
pair_list value key_tag value_tag zero = give no_pairs
pair_list value key_tag value_tag (suc count) = do
  k ← value key_tag
  x ← value value_tag
  more ← pair_list value key_tag value_tag count
  give (pair k x more)

-- what stands behind a header: the end, or the field's value and the fields behind it. A flagged bool counts as a value
unfoldable pub field_behind : (Tag → Decoder Tree) → (ℤ → Decoder FieldTrees) → FieldHeader → Decoder FieldTrees
field_behind value others stop = give no_fields
field_behind value others (typed id tag) = do
  x ← value tag
  more ← others id
  give (field id x more)
field_behind value others (flagged id b) = do
  one ← count_value
  more ← others id
  give (field id (of_bool b) more)

-- the fields of a struct behind the field `last`. Each header takes a byte at least, so there are at most as many
-- headers as bytes, `most`
unfoldable pub field_list : Wire → (Tag → Decoder Tree) → ℕ → ℤ → Decoder FieldTrees
field_list wire value zero last = fail Short
field_list wire value (suc most) last = do
  found ← wire.field last
  field_behind value (field_list wire value most) found

-- what a value of each tag holds; `value` reads the values below it, and `levels` is how many levels may still be opened
unfoldable pub parts : Wire → ℕ → (Tag → Decoder Tree) → Tag → Decoder Tree
parts wire levels value tags.Bytes = do
  text ← wire.span
  give (of_bytes text)
parts wire levels value tags.Struct = do
  level ← deeper levels
  most ← room
  fields ← field_list wire value most (pos 0)
  give (of_struct fields)
parts wire levels value tags.Map = do
  level ← deeper levels
  found ← wire.pairs
  pairs ← pair_list value found.0 found.1 found.2
  give (of_map found.0 found.1 pairs)
parts wire levels value tags.Set = do
  level ← deeper levels
  found ← wire.items
  items ← item_list value found.0 found.1
  give (of_set found.0 items)
parts wire levels value tags.List = do
  level ← deeper levels
  found ← wire.items
  items ← item_list value found.0 found.1
  give (of_list found.0 items)
parts wire levels value tag = wire.scalar tag

-- one value: it is counted first, then its level is opened, then its header is read, and then what it holds
unfoldable pub layer : Wire → ℕ → (Tag → Decoder Tree) → Tag → Decoder Tree
layer wire levels value tag = do
  one ← count_value
  parts wire levels value tag

-- a value of a tag, with so many levels that may still be opened
unfoldable pub value : Wire → ℕ → Tag → Decoder Tree
value wire zero tag = layer wire zero (λ _. fail TooDeep) tag
value wire (suc levels) tag = layer wire (suc levels) (value wire levels) tag
