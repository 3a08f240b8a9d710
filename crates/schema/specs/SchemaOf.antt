-- The plain data that a schema in memory stands for.
use Rattle.std.specs.Prelude.{map}
use Rattle.std.specs.Option.{option_map}
use Rattle.thrift_value.specs.TreeOf.{tree_of}
use Rattle.schema.specs.declared.types.FieldDesc.{FieldDesc}
use Rattle.schema.specs.declared.types.StructDesc.{StructDesc}
use Rattle.schema.specs.declared.types.EnumDesc.{EnumDesc}
use Rattle.schema.specs.declared.types.FnDesc.{FnDesc}
use Rattle.schema.specs.declared.types.ServiceDesc.{ServiceDesc}
use Rattle.schema.specs.declared.types.AliasDesc.{AliasDesc}
use Rattle.schema.specs.declared.types.ConstDesc.{ConstDesc}
use Rattle.schema.specs.declared.types.FileDesc.{FileDesc}
use Rattle.schema.specs.declared.types.Schema.{Schema}
use Rattle.schema.specs.PlainKind.{kind_of}
use Rattle.schema.specs.PlainSchema.{PlainField, PlainStruct, PlainEnum, PlainFunction, PlainService, PlainAlias, PlainConstant, PlainFile, PlainSchema}

-- a field
abbrev pub plain_field : FieldDesc → PlainField
plain_field f = record { id = f.id; need = f.need; kind = kind_of f.kind; name = f.name; default = option_map tree_of f.default }

-- a struct, union, exception or the arguments of a function
abbrev pub plain_struct : StructDesc → PlainStruct
plain_struct s = record { file = s.file; name = s.name; kind = s.kind; fields = map plain_field s.fields }

-- an enum
abbrev pub plain_enum : EnumDesc → PlainEnum
plain_enum e = record { file = e.file; name = e.name; values = e.values }

-- a function
abbrev pub plain_function : FnDesc → PlainFunction
plain_function f =
    record { name = f.name; oneway = f.oneway; args = f.args; result = option_map kind_of f.result; throws = map plain_field f.throws }

-- a service
abbrev pub plain_service : ServiceDesc → PlainService
plain_service s = record { file = s.file; name = s.name; parent = s.parent; functions = map plain_function s.functions }

-- a typedef
abbrev pub plain_alias : AliasDesc → PlainAlias
plain_alias a = record { file = a.file; name = a.name; kind = kind_of a.kind }

-- a constant
abbrev pub plain_constant : ConstDesc → PlainConstant
plain_constant c = record { file = c.file; name = c.name; kind = kind_of c.kind; value = tree_of c.value }

-- a file
abbrev pub plain_file : FileDesc → PlainFile
plain_file f = record { base = f.base; includes = f.includes; defs = f.defs }

-- a schema
abbrev pub schema_of : Schema → PlainSchema
schema_of s = record {
  files = map plain_file s.files;
  structs = map plain_struct s.structs;
  enums = map plain_enum s.enums;
  services = map plain_service s.services;
  aliases = map plain_alias s.aliases;
  constants = map plain_constant s.constants;
}
