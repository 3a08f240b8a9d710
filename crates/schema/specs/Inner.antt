-- The texts of types level by level: a word in front, and the types inside a container, with what stands behind them.
use Rattle.std.specs.Prelude.{List, ℕ, codes, Option, Some, None}
use Rattle.std.specs.Borrow.{Bor}
use Rattle.std.specs.Option.{option_map}
use Rattle.schema.specs.declared.types.TypeDesc.{TypeDesc}
use Rattle.schema.specs.PlainKind.{PlainKind, kind_of, kind_bool, kind_i8, kind_i16, kind_i32, kind_i64, kind_double, kind_text, kind_binary, kind_uuid, kind_enum, kind_struct, kind_map, kind_set, kind_list}
use Rattle.schema.specs.PlainSchema.{PlainSchema}
use Rattle.schema.specs.SchemaText.{text_at, enum_name, struct_name}

-- the types inside a container: its members' or elements' alone, or its keys' and its values'
abbrev pub inner_of : PlainKind → Option (PlainKind × Option PlainKind)
inner_of kind_bool = None
inner_of kind_i8 = None
inner_of kind_i16 = None
inner_of kind_i32 = None
inner_of kind_i64 = None
inner_of kind_double = None
inner_of kind_text = None
inner_of kind_binary = None
inner_of kind_uuid = None
inner_of (kind_enum which) = None
inner_of (kind_struct which) = None
inner_of (kind_map key value) = Some (key, Some value)
inner_of (kind_set member) = Some (member, None)
inner_of (kind_list element) = Some (element, None)

-- the same of types that are lent
abbrev pub shown_inner : Option (Bor TypeDesc × Option (Bor TypeDesc)) → Option (PlainKind × Option PlainKind)
shown_inner = option_map (λ p. (kind_of p.0.now, option_map (λ (k : Bor TypeDesc). kind_of k.now) p.1))

-- the word in front in a type's name: all of it where it is no container
abbrev pub name_front : PlainSchema → PlainKind → List ℕ
name_front s kind_bool = codes "bool"
name_front s kind_i8 = codes "i8"
name_front s kind_i16 = codes "i16"
name_front s kind_i32 = codes "i32"
name_front s kind_i64 = codes "i64"
name_front s kind_double = codes "double"
name_front s kind_text = codes "string"
name_front s kind_binary = codes "binary"
name_front s kind_uuid = codes "uuid"
name_front s (kind_enum which) = text_at (enum_name s) s.enums which
name_front s (kind_struct which) = text_at (struct_name s) s.structs which
name_front s (kind_map key value) = codes "map<"
name_front s (kind_set member) = codes "set<"
name_front s (kind_list element) = codes "list<"

-- the same in its tags
abbrev pub tags_front : PlainKind → List ℕ
tags_front kind_bool = codes "bool"
tags_front kind_i8 = codes "i8"
tags_front kind_i16 = codes "i16"
tags_front kind_i32 = codes "i32"
tags_front kind_i64 = codes "i64"
tags_front kind_double = codes "double"
tags_front kind_text = codes "bytes"
tags_front kind_binary = codes "bytes"
tags_front kind_uuid = codes "uuid"
tags_front (kind_enum which) = codes "i32"
tags_front (kind_struct which) = codes "struct"
tags_front (kind_map key value) = codes "map<"
tags_front (kind_set member) = codes "set<"
tags_front (kind_list element) = codes "list<"
