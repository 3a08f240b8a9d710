-- The codes of the kinds of values (Thrift binary protocol, 'Struct'). Own choice: that of a uuid is 16.
use Rattle.std.specs.Prelude.{ℕ, Option, Some, None, ◌==◌, if◌then◌else◌}
use Rattle.thrift_value.specs.declared.tag.Tag.{Tag}
use Rattle.thrift_value.specs.declared.tag.Tag.TheVariants as tags

-- the code of a tag
abbrev pub code_of : Tag → ℕ
code_of tags.Bool = 2
code_of tags.I8 = 3
code_of tags.Double = 4
code_of tags.I16 = 6
code_of tags.I32 = 8
code_of tags.I64 = 10
code_of tags.Bytes = 11
code_of tags.Struct = 12
code_of tags.Map = 13
code_of tags.Set = 14
code_of tags.List = 15
code_of tags.Uuid = 16

-- the tag of a code
unfoldable pub tag_of_code : ℕ → Option Tag
tag_of_code code =
    if code == 2 then Some tags.Bool
    else if code == 3 then Some tags.I8
    else if code == 4 then Some tags.Double
    else if code == 6 then Some tags.I16
    else if code == 8 then Some tags.I32
    else if code == 10 then Some tags.I64
    else if code == 11 then Some tags.Bytes
    else if code == 12 then Some tags.Struct
    else if code == 13 then Some tags.Map
    else if code == 14 then Some tags.Set
    else if code == 15 then Some tags.List
    else if code == 16 then Some tags.Uuid
    else None
