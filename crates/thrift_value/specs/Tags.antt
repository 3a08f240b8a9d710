-- Tags: the kinds of values.
use Rattle.std.specs.Prelude.{ℕ}
use Rattle.thrift_value.specs.declared.tag.Tag.{Tag}
use Rattle.thrift_value.specs.declared.tag.Tag.TheVariants.{Bool, I8, I16, I32, I64, Double, Bytes, Struct, Map, Set, List, Uuid}
use Rattle.thrift_value.specs.Tree.{Tree, of_bool, of_i8, of_i16, of_i32, of_i64, of_double, of_bytes, of_struct, of_map, of_set, of_list, of_uuid}

-- the tag of a value
abbrev pub tag_of : Tree → Tag
tag_of (of_bool _) = Bool
tag_of (of_i8 _) = I8
tag_of (of_i16 _) = I16
tag_of (of_i32 _) = I32
tag_of (of_i64 _) = I64
tag_of (of_double _) = Double
tag_of (of_bytes _) = Bytes
tag_of (of_struct _) = Struct
tag_of (of_map _ _ _) = Map
tag_of (of_set _ _) = Set
tag_of (of_list _ _) = List
tag_of (of_uuid _) = Uuid

-- where a tag stands among the tags, in the order of values
abbrev pub rank : Tag → ℕ
rank Bool = 0
rank I8 = 1
rank I16 = 2
rank I32 = 3
rank I64 = 4
rank Double = 5
rank Bytes = 6
rank Struct = 7
rank Map = 8
rank Set = 9
rank List = 10
rank Uuid = 11
