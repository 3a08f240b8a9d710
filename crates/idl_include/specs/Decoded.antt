-- What the tree of a document declares. What the grammar never makes is read as something all the same: each of these reads every tree.
use Rattle.std.specs.Prelude.{ℤ, pos, Bool, true, false, List, [], ◌∷◌, map, Option, Some, None}
use Rattle.idl_token.specs.declared.Place.{Place}
use Rattle.idl_token.specs.declared.terminal.Terminal.{Terminal}
use Rattle.idl_token.specs.declared.terminal.Terminal.TheVariants as word
use Rattle.idl_parser.specs.declared.tree.Base.{Base}
use Rattle.idl_parser.specs.declared.tree.Base.TheVariants as base
use Rattle.idl_parser.specs.declared.tree.Need.{Need}
use Rattle.idl_parser.specs.declared.tree.Need.TheVariants as need
use Rattle.idl_parser.specs.declared.tree.StructKind.{StructKind}
use Rattle.idl_parser.specs.declared.tree.StructKind.TheVariants as kind
use Rattle.idl_parser.specs.Phrases.{Node, word as word_node, flag, text, number, given, pair, placed}
use Rattle.idl_parser.specs.Unplaced.{nowhere}
use Rattle.idl_include.specs.Written.{Written}
use Rattle.idl_include.specs.TypeExpr.{TypeExpr, base_expr, name_expr, map_expr, set_expr, list_expr}
use Rattle.idl_include.specs.ConstExpr.{ConstExpr, int_const, double_const, literal_const, name_const, list_const, map_const, ConstItems, no_consts, const_item, ConstEntries, no_entries, const_entry}
use Rattle.idl_include.specs.Declarations.{FieldDecl, FunctionDecl, ConstDecl, TypedefDecl, EnumValueDecl, EnumDecl, StructDecl, ServiceDecl, Declaration, of_const, of_typedef, of_enum, of_struct_decl, of_service}

-- the trees of a row
abbrev pub nodes_of : Node → List Node
nodes_of (pair x rest) = x ∷ nodes_of rest
nodes_of _ = []

-- a name or a literal
abbrev pub written_of : Node → Written
written_of (text terminal bytes at) = record { text = bytes; at = at }
written_of _ = record { text = []; at = nowhere }

-- a part that may be missing
abbrev pub given_of : {A : Type 0} → (Node → A) → Node → Option A
given_of read (given x) = Some (read x)
given_of read _ = None

-- the number of an integer
abbrev pub number_of : Node → ℤ
number_of (number n at) = n
number_of _ = pos 0

-- a base type by its word
abbrev pub base_of : Terminal → Base
base_of word.Byte = base.Byte
base_of word.I8 = base.I8
base_of word.I16 = base.I16
base_of word.I32 = base.I32
base_of word.I64 = base.I64
base_of word.DoubleWord = base.Double
base_of word.StringWord = base.String
base_of word.Binary = base.Binary
base_of word.Uuid = base.Uuid
base_of _ = base.Bool

-- a type
abbrev pub type_expr : Node → TypeExpr
type_expr (pair (word_node word.Map at) (pair key value)) = map_expr (type_expr key) (type_expr value)
type_expr (pair (word_node word.Set at) member) = set_expr (type_expr member)
type_expr (pair (word_node word.List at) element) = list_expr (type_expr element)
type_expr (word_node terminal at) = base_expr (base_of terminal)
type_expr x = name_expr (written_of x)

-- a value that is written as one token
abbrev pub token_const : Terminal → Written → ConstExpr
token_const word.Double token = double_const token
token_const word.Literal token = literal_const token
token_const _ token = name_const token

abbrev mutual
  -- a value
  pub const_expr : Node → ConstExpr
  const_expr (number n at) = int_const n at
  const_expr (text terminal bytes at) = token_const terminal (record { text = bytes; at = at })
  const_expr (pair (word_node word.OpenBracket at) items) = list_const at (const_items items)
  const_expr (pair (word_node word.OpenBrace at) entries) = map_const at (const_entries entries)
  const_expr _ = int_const (pos 0) nowhere

  -- the values of a row
  pub const_items : Node → ConstItems
  const_items (pair x rest) = const_item (const_expr x) (const_items rest)
  const_items _ = no_consts

  -- the keys of a row with their values
  pub const_entries : Node → ConstEntries
  const_entries (pair (pair key value) rest) = const_entry (const_expr key) (const_expr value) (const_entries rest)
  const_entries _ = no_entries

-- the first of two parts
abbrev pub front_of : Node → Node
front_of (pair x rest) = x
front_of x = x

-- what stands behind the first part
abbrev pub behind : Node → Node
behind (pair x rest) = rest
behind x = x

-- whether a field is needed
abbrev pub need_of : Node → Need
need_of (given (flag word.Required)) = need.Required
need_of (given (flag word.Optional)) = need.Optional
need_of _ = need.Default

-- the parts of a field: number, need, type, name, default
abbrev pub field_parts : Place → Node → FieldDecl
field_parts at x = record {
  at = at;
  id = given_of number_of (front_of x);
  need = need_of (front_of (behind x));
  type = type_expr (front_of (behind (behind x)));
  name = written_of (front_of (behind (behind (behind x))));
  default = given_of const_expr (behind (behind (behind (behind x))));
}

-- a field
abbrev pub field_decl : Node → FieldDecl
field_decl (placed at x) = field_parts at x
field_decl x = field_parts nowhere x

-- the fields of a row
abbrev pub field_decls : Node → List FieldDecl
field_decls x = map field_decl (nodes_of x)

-- fields that may be left out as a whole
abbrev pub given_fields : Node → List FieldDecl
given_fields (given x) = field_decls x
given_fields _ = []

-- whether a function is one way
abbrev pub is_oneway : Node → Bool
is_oneway (given x) = true
is_oneway _ = false

-- the result of a function: a type, or none for `void`
abbrev pub result_of : Node → Option TypeExpr
result_of (flag terminal) = None
result_of x = Some (type_expr x)

-- the parts of a function: one way or not, result, name, arguments, exceptions
abbrev pub function_parts : Place → Node → FunctionDecl
function_parts at x = record {
  at = at;
  oneway = is_oneway (front_of x);
  result = result_of (front_of (behind x));
  name = written_of (front_of (behind (behind x)));
  arguments = field_decls (front_of (behind (behind (behind x))));
  throws = given_fields (behind (behind (behind (behind x))));
}

-- a function
abbrev pub function_decl : Node → FunctionDecl
function_decl (placed at x) = function_parts at x
function_decl x = function_parts nowhere x

-- a constant, behind its word
abbrev pub const_decl : Node → ConstDecl
const_decl x = record { type = type_expr (front_of x); name = written_of (front_of (behind x)); value = const_expr (behind (behind x)) }

-- a typedef, behind its word
abbrev pub typedef_decl : Node → TypedefDecl
typedef_decl x = record { type = type_expr (front_of x); name = written_of (behind x) }

-- a value of an enum
abbrev pub enum_value_decl : Node → EnumValueDecl
enum_value_decl x = record { name = written_of (front_of x); number = given_of number_of (behind x) }

-- an enum, behind its word
abbrev pub enum_decl : Node → EnumDecl
enum_decl x = record { name = written_of (front_of x); values = map enum_value_decl (nodes_of (behind x)) }

-- which of the three a struct's word says
abbrev pub struct_kind_of : Terminal → StructKind
struct_kind_of word.Union = kind.Union
struct_kind_of word.Exception = kind.Exception
struct_kind_of _ = kind.Struct

-- a struct, union or exception, behind its word
abbrev pub struct_decl : StructKind → Node → StructDecl
struct_decl which x = record { name = written_of (front_of x); kind = which; fields = field_decls (behind x) }

-- a service, behind its word
abbrev pub service_decl : Node → ServiceDecl
service_decl x = record {
  name = written_of (front_of x);
  parent = given_of written_of (front_of (behind x));
  functions = map function_decl (nodes_of (behind (behind x)));
}

-- a definition by its first word
abbrev pub declared_by : Terminal → Node → Declaration
declared_by word.Const x = of_const (const_decl x)
declared_by word.Typedef x = of_typedef (typedef_decl x)
declared_by word.Enum x = of_enum (enum_decl x)
declared_by word.Service x = of_service (service_decl x)
declared_by terminal x = of_struct_decl (struct_decl (struct_kind_of terminal) x)

-- a definition
abbrev pub declaration : Node → Declaration
declaration (pair (word_node terminal at) x) = declared_by terminal x
declaration x = declared_by word.Struct x

-- the definitions of a document, in order
unfoldable pub declarations_of : Node → List Declaration
declarations_of document = map declaration (nodes_of (behind document))

-- the literals behind `include` of a document, in order
unfoldable pub includes_of : Node → List Written
includes_of document = map (λ x. written_of (behind x)) (nodes_of (front_of document))
