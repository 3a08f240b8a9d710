-- The codes of the kinds of values (Thrift compact protocol, 'Struct', 'List and Set'). Each takes half a byte. Own choice: that of a uuid is
-- 13.
use Rattle.std.specs.Prelude.{◌≡◌, ◌⊎◌, ℕ, Bool, true, false, Option, Some, None, ◌==◌, if◌then◌else◌}
use Rattle.thrift_value.specs.declared.tag.Tag.{Tag}
use Rattle.thrift_value.specs.declared.tag.Tag.TheVariants as tags

-- the code of a bool field with this value
abbrev pub flag_code : Bool → ℕ
flag_code true = 1
flag_code false = 2

-- the code that is written for a tag
abbrev pub compact_code : Tag → ℕ
compact_code tags.Bool = 1
compact_code tags.I8 = 3
compact_code tags.I16 = 4
compact_code tags.I32 = 5
compact_code tags.I64 = 6
compact_code tags.Double = 7
compact_code tags.Bytes = 8
compact_code tags.List = 9
compact_code tags.Set = 10
compact_code tags.Map = 11
compact_code tags.Struct = 12
compact_code tags.Uuid = 13

-- the codes that stand for a tag. Own choice: that of false is a bool's too
abbrev pub IsCompactCode : Tag → ℕ → Type 0
IsCompactCode tags.Bool code = (code ≡ 1) ⊎ (code ≡ 2)
IsCompactCode tag code = code ≡ compact_code tag

-- the tag that a code stands for
unfoldable pub compact_tag : ℕ → Option Tag
compact_tag code =
    if code == 1 then Some tags.Bool
    else if code == 2 then Some tags.Bool
    else if code == 3 then Some tags.I8
    else if code == 4 then Some tags.I16
    else if code == 5 then Some tags.I32
    else if code == 6 then Some tags.I64
    else if code == 7 then Some tags.Double
    else if code == 8 then Some tags.Bytes
    else if code == 9 then Some tags.List
    else if code == 10 then Some tags.Set
    else if code == 11 then Some tags.Map
    else if code == 12 then Some tags.Struct
    else if code == 13 then Some tags.Uuid
    else None
