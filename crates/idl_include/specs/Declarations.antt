-- What a file of the interface language declares, and its includes (Thrift IDL, 'Document').
use Rattle.std.specs.Prelude.{ℤ, Bool, List, Option}
use Rattle.idl_token.specs.declared.Place.{Place}
use Rattle.idl_parser.specs.declared.tree.Need.{Need}
use Rattle.idl_parser.specs.declared.tree.StructKind.{StructKind}
use Rattle.idl_include.specs.Written.{Written}
use Rattle.idl_include.specs.TypeExpr.{TypeExpr}
use Rattle.idl_include.specs.ConstExpr.{ConstExpr}

-- a field, with the place of its first token, and its number where it is written (Thrift IDL, 'Field')
pub record FieldDecl : Type 0 where
  pub at : Place
  pub id : Option ℤ
  pub need : Need
  pub type : TypeExpr
  pub name : Written
  pub default : Option ConstExpr

-- a function, with the place of its first token; no result is `void`, and no `throws` is an empty list (Thrift IDL, 'Function')
pub record FunctionDecl : Type 0 where
  pub at : Place
  pub oneway : Bool
  pub result : Option TypeExpr
  pub name : Written
  pub arguments : List FieldDecl
  pub throws : List FieldDecl

-- a constant (Thrift IDL, 'Const')
pub record ConstDecl : Type 0 where
  pub name : Written
  pub type : TypeExpr
  pub value : ConstExpr

-- a name for a type (Thrift IDL, 'Typedef')
pub record TypedefDecl : Type 0 where
  pub name : Written
  pub type : TypeExpr

-- a value of an enum, with its number where it is written
pub record EnumValueDecl : Type 0 where
  pub name : Written
  pub number : Option ℤ

-- an enum (Thrift IDL, 'Enum')
pub record EnumDecl : Type 0 where
  pub name : Written
  pub values : List EnumValueDecl

-- a struct, a union or an exception (Thrift IDL, 'Struct', 'Union', 'Exception')
pub record StructDecl : Type 0 where
  pub name : Written
  pub kind : StructKind
  pub fields : List FieldDecl

-- a service, with its own functions (Thrift IDL, 'Service')
pub record ServiceDecl : Type 0 where
  pub name : Written
  pub parent : Option Written
  pub functions : List FunctionDecl

-- a definition (Thrift IDL, 'Definition')
pub data Declaration : Type 0 where
  of_const : ConstDecl → Declaration
  of_typedef : TypedefDecl → Declaration
  of_enum : EnumDecl → Declaration
  of_struct_decl : StructDecl → Declaration
  of_service : ServiceDecl → Declaration

-- the name that a definition gives
abbrev pub declared_name : Declaration → Written
declared_name (of_const c) = c.name
declared_name (of_typedef t) = t.name
declared_name (of_enum e) = e.name
declared_name (of_struct_decl s) = s.name
declared_name (of_service s) = s.name
