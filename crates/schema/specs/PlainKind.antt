-- A type as plain data, with typedefs resolved (Thrift IDL, 'Types').
use Rattle.std.specs.Prelude.{ℕ}
use Rattle.schema.specs.declared.types.TypeDesc.{TypeDesc}
use Rattle.schema.specs.declared.types.TypeDesc.TheOpen.{TypeDesc-F}
use Rattle.schema.specs.declared.types.TypeDesc.TheOpen as layer
use Rattle.schema.specs.declared.types.TypeDesc.TheFolds.{fold-TypeDesc}

-- a base type, an enum or a struct by its number, or a container of types
pub data PlainKind : Type 0 where
  kind_bool : PlainKind
  kind_i8 : PlainKind
  kind_i16 : PlainKind
  kind_i32 : PlainKind
  kind_i64 : PlainKind
  kind_double : PlainKind
  kind_text : PlainKind
  kind_binary : PlainKind
  kind_uuid : PlainKind
  kind_enum : ℕ → PlainKind
  kind_struct : ℕ → PlainKind
  kind_map : PlainKind → PlainKind → PlainKind
  kind_set : PlainKind → PlainKind
  kind_list : PlainKind → PlainKind

-- one level of a type, with what stands below it in its place
abbrev pub kind_step : TypeDesc-F PlainKind → PlainKind
kind_step layer.Bool = kind_bool
kind_step layer.I8 = kind_i8
kind_step layer.I16 = kind_i16
kind_step layer.I32 = kind_i32
kind_step layer.I64 = kind_i64
kind_step layer.Double = kind_double
kind_step layer.Text = kind_text
kind_step layer.Binary = kind_binary
kind_step layer.Uuid = kind_uuid
kind_step (layer.Enum which) = kind_enum which
kind_step (layer.Struct which) = kind_struct which
kind_step (layer.Map key value) = kind_map key.value value.value
kind_step (layer.Set member) = kind_set member.value
kind_step (layer.List element) = kind_list element.value

-- the type that a type in memory stands for
abbrev pub kind_of : TypeDesc → PlainKind
kind_of = fold-TypeDesc PlainKind kind_step
