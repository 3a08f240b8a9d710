-- What a schema knows of a raw value: of a struct the declared fields that fit, and nothing else.
use Rattle.std.specs.Prelude.{ℕ, ℤ, if◌then◌else◌, Option, Some, None}
use Rattle.std.specs.Option.{option_map}
use Rattle.thrift_value.specs.Tags.{tag_of}
use Rattle.thrift_value.specs.Tree.{Tree, of_struct, of_map, of_set, of_list, FieldTrees, no_fields, field, ItemTrees, no_items, item, PairTrees, no_pairs, pair}
use Rattle.schema.specs.LookUp.{field_at}
use Rattle.schema.specs.PlainKind.{PlainKind, kind_struct, kind_map, kind_set, kind_list}
use Rattle.schema.specs.PlainSchema.{PlainField, PlainSchema}
use Rattle.known_parts.specs.Parts.{tag_of_kind, are_same_tags}

-- what is known under the type of a declared field; nothing of one that isn't declared
abbrev pub known_by : (PlainKind → Option Tree) → Option PlainField → Option Tree
known_by on None = None
known_by on (Some f) = on f.kind

-- a field in front of others, where its value is known
abbrev pub with_known : ℤ → Option Tree → FieldTrees → FieldTrees
with_known id None more = more
with_known id (Some value) more = field id value more

-- an element in front of others, where all of them are known
abbrev pub with_known_item : Option Tree → Option ItemTrees → Option ItemTrees
with_known_item None more = None
with_known_item (Some value) None = None
with_known_item (Some value) (Some more) = Some (item value more)

-- a pair in front of others, where all of them are known
abbrev pub with_known_pair : Option Tree → Option Tree → Option PairTrees → Option PairTrees
with_known_pair None value more = None
with_known_pair (Some key) None more = None
with_known_pair (Some key) (Some value) None = None
with_known_pair (Some key) (Some value) (Some more) = Some (pair key value more)

abbrev mutual
  -- what a type knows of a raw value: of a struct its declared fields that fit; a container whose elements all fit, with what is
  -- known of each and with the tags of the declared types; any other value whose tag is the type's
  pub known : PlainSchema → Tree → PlainKind → Option Tree
  known s (of_struct fields) (kind_struct which) = Some (of_struct (known_fields s which fields))
  known s (of_map _ _ pairs) (kind_map key value) = option_map (of_map (tag_of_kind key) (tag_of_kind value)) (known_pairs s pairs key value)
  known s (of_set _ items) (kind_set member) = option_map (of_set (tag_of_kind member)) (known_items s items member)
  known s (of_list _ items) (kind_list element) = option_map (of_list (tag_of_kind element)) (known_items s items element)
  known s value kind = if are_same_tags (tag_of_kind kind) (tag_of value) then Some value else None

  -- the declared fields that fit, of the struct at a number, in wire order and with repeats
  pub known_fields : PlainSchema → ℕ → FieldTrees → FieldTrees
  known_fields s which no_fields = no_fields
  known_fields s which (field id value more) = with_known id (known_by (known s value) (field_at s which id)) (known_fields s which more)

  -- elements, where each of them fits
  pub known_items : PlainSchema → ItemTrees → PlainKind → Option ItemTrees
  known_items s no_items kind = Some no_items
  known_items s (item value more) kind = with_known_item (known s value kind) (known_items s more kind)

  -- pairs, where each key and each value fits
  pub known_pairs : PlainSchema → PairTrees → PlainKind → PlainKind → Option PairTrees
  known_pairs s no_pairs key_kind value_kind = Some no_pairs
  known_pairs s (pair key value more) key_kind value_kind =
      with_known_pair (known s key key_kind) (known s value value_kind) (known_pairs s more key_kind value_kind)
