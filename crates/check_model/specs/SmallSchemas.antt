-- Small schemas without defaults and constants, for examples.
use Rattle.std.specs.Prelude.{ℕ, pos, codes, List, [], ◌∷◌, slice_get, Option, Some, None}
use Rattle.thrift_value.specs.Tree.{Tree, of_i32}
use Rattle.idl_include.specs.Program.{Program}
use Rattle.idl_include.specs.Numbering.{Filed}
use Rattle.idl_parser.specs.Unplaced.{nowhere}
use Rattle.idl_include.specs.Spots.{GivenValue, values_of}
use Rattle.schema.specs.declared.types.FieldNeed.TheVariants as wanted
use Rattle.schema.specs.declared.types.FieldsKind.TheVariants as fields
use Rattle.schema.specs.declared.types.DefRef.TheVariants as ref
use Rattle.schema.specs.PlainKind.{PlainKind, kind_i8, kind_enum, kind_struct}
use Rattle.schema.specs.PlainSchema.{PlainField, PlainConstant, PlainSchema}
use Rattle.check_model.specs.Worths.{Worth, flawed, unknown_name}
use Rattle.check_model.specs.Evaluation.{given_worth}

-- a schema of one struct, with these fields
abbrev pub one_struct : List PlainField → PlainSchema
one_struct items = record {
  files = [];
  enums = [];
  services = [];
  aliases = [];
  constants = [];
  structs = record { file = 0; name = codes "S"; kind = fields.Struct; fields = items } ∷ [];
}

-- a schema of nothing
abbrev pub no_schema : PlainSchema
no_schema = record { files = []; structs = []; enums = []; services = []; aliases = []; constants = [] }

-- the schema of `struct S { 1: S s = {} }`
abbrev pub itself_schema : PlainSchema
itself_schema = one_struct (record { id = pos 1; need = wanted.Default; kind = kind_struct 0; name = codes "s"; default = None } ∷ [])

-- the schema of `struct S { 1: required S s  2: optional i8 n }`
abbrev pub needs_itself : PlainSchema
needs_itself = one_struct (record { id = pos 1; need = wanted.Required; kind = kind_struct 0; name = codes "s"; default = None }
    ∷ record { id = pos 2; need = wanted.Optional; kind = kind_i8; name = codes "n"; default = None } ∷ [])

-- what the given value of some number is worth, if there is one
abbrev pub worth_of : Program → PlainSchema → ℕ → PlainKind → Option (Filed GivenValue) → Worth Tree
worth_of program schema which kind None = flawed nowhere unknown_name
worth_of program schema which kind (Some v) = given_worth (record { program = program; schema = schema }) which kind v

-- what the given value of some number of a program is worth against a type
abbrev pub worth_in : Program → PlainSchema → ℕ → PlainKind → Worth Tree
worth_in program schema which kind = worth_of program schema which kind (slice_get (values_of program) which)

-- the schema of `enum E { X = 4, Y } const E C = E.Y` with these constants
abbrev pub named_schema : List PlainConstant → PlainSchema
named_schema constants = record {
  files = record { base = codes "a"; includes = []; defs = ref.Enum 0 ∷ ref.Constant 0 ∷ [] } ∷ [];
  structs = [];
  enums = record { file = 0; name = codes "E"; values = (codes "X", pos 4) ∷ (codes "Y", pos 5) ∷ [] } ∷ [];
  services = [];
  aliases = [];
  constants = constants;
}

-- its constant
abbrev pub named_constant : PlainConstant
named_constant = record { file = 0; name = codes "C"; kind = kind_enum 0; value = of_i32 (pos 5) }
