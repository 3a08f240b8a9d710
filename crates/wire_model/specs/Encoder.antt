-- What is written: one spelling of each value.
use Rattle.std.specs.Prelude.{ℕ, ℤ, pos, Bool, List, [], ◌++◌, if◌then◌else◌}
use Rattle.thrift_value.specs.declared.tag.Tag.{Tag}
use Rattle.thrift_value.specs.declared.tag.Tag.TheVariants as tags
use Rattle.thrift_value.specs.Tree.{Tree, of_bool, of_bytes, of_struct, of_map, of_set, of_list, FieldTrees, no_fields, field, ItemTrees, no_items, item, PairTrees, no_pairs, pair}
use Rattle.thrift_value.specs.Tags.{tag_of}
use Rattle.wire_model.specs.Wire.{FieldHeader, stop, typed, flagged}
use Rattle.thrift_value.specs.Sizes.{items_len, pairs_len}

-- what a protocol writes: whether a bool field has its value in its header; a header behind the field `last`; a number
-- or bool; a text with its length; the header of a list or set, and of a map, with its number of elements
pub record Encoder : Type 0 where
  pub flags : Bool
  pub header : ℤ → FieldHeader → List ℕ
  pub scalar : Tree → List ℕ
  pub span : List ℕ → List ℕ
  pub items : Tag → ℕ → List ℕ
  pub pairs : Tag → Tag → ℕ → List ℕ

-- the header of a field
abbrev pub heading : Bool → ℤ → Tree → FieldHeader
heading flags id (of_bool b) = if flags then flagged id b else typed id tags.Bool
heading flags id x = typed id (tag_of x)

-- what follows the header: nothing where it has the value
abbrev pub behind_heading : FieldHeader → List ℕ → List ℕ
behind_heading (typed _ _) text = text
behind_heading _ text = []

abbrev mutual
  -- the bytes that are written for a value
  pub text : Encoder → Tree → List ℕ
  text encoder (of_bytes bytes) = encoder.span bytes
  text encoder (of_struct fields) = fields_text encoder (pos 0) fields
  text encoder (of_map key value pairs) = encoder.pairs key value (pairs_len pairs) ++ pairs_text encoder pairs
  text encoder (of_set element items) = encoder.items element (items_len items) ++ items_text encoder items
  text encoder (of_list element items) = encoder.items element (items_len items) ++ items_text encoder items
  text encoder x = encoder.scalar x

  -- the fields behind the field `last`, and the end of their struct
  pub fields_text : Encoder → ℤ → FieldTrees → List ℕ
  fields_text encoder last no_fields = encoder.header last stop
  fields_text encoder last (field id x more) =
      encoder.header last (heading encoder.flags id x)
      ++ (behind_heading (heading encoder.flags id x) (text encoder x) ++ fields_text encoder id more)

  -- the elements, one behind the other
  pub items_text : Encoder → ItemTrees → List ℕ
  items_text encoder no_items = []
  items_text encoder (item x more) = text encoder x ++ items_text encoder more

  -- the pairs, one behind the other, each a key and its value
  pub pairs_text : Encoder → PairTrees → List ℕ
  pairs_text encoder no_pairs = []
  pairs_text encoder (pair k x more) = text encoder k ++ (text encoder x ++ pairs_text encoder more)
