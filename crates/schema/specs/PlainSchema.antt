-- What a program of IDL files defines, as plain data: records over lists, numbers and trees.
-- A number names a place in the schema's list of its kind, from 0.
use Rattle.std.specs.Prelude.{ℕ, ℤ, Bool, List, Option}
use Rattle.thrift_value.specs.Tree.{Tree}
use Rattle.schema.specs.declared.types.FieldNeed.{FieldNeed}
use Rattle.schema.specs.declared.types.FieldsKind.{FieldsKind}
use Rattle.schema.specs.declared.types.DefRef.{DefRef}
use Rattle.schema.specs.PlainKind.{PlainKind}

-- a field of a struct, an argument of a function or an exception that it throws (Thrift IDL, 'Field')
pub record PlainField : Type 0 where
  pub id : ℤ
  pub need : FieldNeed
  pub kind : PlainKind
  pub name : List ℕ
  pub default : Option Tree

-- a struct, a union, an exception, or the arguments of a function; its file is a number
pub record PlainStruct : Type 0 where
  pub file : ℕ
  pub name : List ℕ
  pub kind : FieldsKind
  pub fields : List PlainField

-- an enum: its names with their numbers (Thrift IDL, 'Enum')
pub record PlainEnum : Type 0 where
  pub file : ℕ
  pub name : List ℕ
  pub values : List (List ℕ × ℤ)

-- a function: the number of its arguments' struct, its result, where it has one, and its exceptions (Thrift IDL, 'Function')
pub record PlainFunction : Type 0 where
  pub name : List ℕ
  pub oneway : Bool
  pub args : ℕ
  pub result : Option PlainKind
  pub throws : List PlainField

-- a service: the number of the service that it extends, where it extends one, and its own functions (Thrift IDL, 'Service')
pub record PlainService : Type 0 where
  pub file : ℕ
  pub name : List ℕ
  pub parent : Option ℕ
  pub functions : List PlainFunction

-- a typedef (Thrift IDL, 'Typedef')
pub record PlainAlias : Type 0 where
  pub file : ℕ
  pub name : List ℕ
  pub kind : PlainKind

-- a constant (Thrift IDL, 'Const')
pub record PlainConstant : Type 0 where
  pub file : ℕ
  pub name : List ℕ
  pub kind : PlainKind
  pub value : Tree

-- a file: its base name, the numbers of the files that it includes, and its definitions in order (Thrift IDL, 'Document')
pub record PlainFile : Type 0 where
  pub base : List ℕ
  pub includes : List ℕ
  pub defs : List DefRef

-- a program: the main file is number 0; the structs of functions' arguments stand behind all others
pub record PlainSchema : Type 0 where
  pub files : List PlainFile
  pub structs : List PlainStruct
  pub enums : List PlainEnum
  pub services : List PlainService
  pub aliases : List PlainAlias
  pub constants : List PlainConstant
