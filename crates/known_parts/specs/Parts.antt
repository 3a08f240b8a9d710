-- The tag and the parts of a type of each kind.
use Rattle.std.specs.Prelude.{ℕ, Bool, ◌==◌, Option, Some, None}
use Rattle.thrift_value.specs.declared.tag.Tag.{Tag}
use Rattle.thrift_value.specs.declared.tag.Tag.TheVariants as tag
use Rattle.thrift_value.specs.Tags.{rank}
use Rattle.schema.specs.PlainKind.{PlainKind, kind_bool, kind_i8, kind_i16, kind_i32, kind_i64, kind_double, kind_text, kind_binary, kind_uuid, kind_enum, kind_struct, kind_map, kind_set, kind_list}

-- the tag of the values of a type; an enum is a number of 32 bits
abbrev pub tag_of_kind : PlainKind → Tag
tag_of_kind kind_bool = tag.Bool
tag_of_kind kind_i8 = tag.I8
tag_of_kind kind_i16 = tag.I16
tag_of_kind kind_i32 = tag.I32
tag_of_kind kind_i64 = tag.I64
tag_of_kind kind_double = tag.Double
tag_of_kind kind_text = tag.Bytes
tag_of_kind kind_binary = tag.Bytes
tag_of_kind kind_uuid = tag.Uuid
tag_of_kind (kind_enum _) = tag.I32
tag_of_kind (kind_struct _) = tag.Struct
tag_of_kind (kind_map _ _) = tag.Map
tag_of_kind (kind_set _) = tag.Set
tag_of_kind (kind_list _) = tag.List

-- two tags are the same
abbrev pub are_same_tags : Tag → Tag → Bool
are_same_tags one other = rank one == rank other

-- the number of a struct's type; none of another type
abbrev pub struct_of_kind : PlainKind → Option ℕ
struct_of_kind (kind_struct which) = Some which
struct_of_kind _ = None

-- the types of a map's keys and values
abbrev pub map_of_kind : PlainKind → Option (PlainKind × PlainKind)
map_of_kind (kind_map key value) = Some (key, value)
map_of_kind _ = None

-- the type of a set's members
abbrev pub set_of_kind : PlainKind → Option PlainKind
set_of_kind (kind_set member) = Some member
set_of_kind _ = None

-- the type of a list's elements
abbrev pub list_of_kind : PlainKind → Option PlainKind
list_of_kind (kind_list element) = Some element
list_of_kind _ = None
