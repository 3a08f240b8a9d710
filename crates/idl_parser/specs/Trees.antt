-- The tree that a document in memory stands for: each part in order, with its place.
use Rattle.std.specs.Prelude.{Bool, true, false, List, [], ◌∷◌, map, Option, Some, None}
use Rattle.idl_token.specs.declared.terminal.Terminal.{Terminal}
use Rattle.idl_token.specs.declared.terminal.Terminal.TheVariants as word
use Rattle.idl_parser.specs.declared.tree.Name.{Name}
use Rattle.idl_parser.specs.declared.tree.Literal.{Literal}
use Rattle.idl_parser.specs.declared.tree.Int.{Int}
use Rattle.idl_parser.specs.declared.tree.Double.{Double}
use Rattle.idl_parser.specs.declared.tree.Base.{Base}
use Rattle.idl_parser.specs.declared.tree.Base.TheVariants as base
use Rattle.idl_parser.specs.declared.tree.TypeTree.{TypeTree}
use Rattle.idl_parser.specs.declared.tree.TypeTree.TheOpen.{TypeTree-F}
use Rattle.idl_parser.specs.declared.tree.TypeTree.TheOpen as of_type
use Rattle.idl_parser.specs.declared.tree.TypeTree.TheFolds.{fold-TypeTree}
use Rattle.idl_parser.specs.declared.tree.ConstTree.{ConstTree}
use Rattle.idl_parser.specs.declared.tree.ConstTree.TheOpen.{ConstTree-F}
use Rattle.idl_parser.specs.declared.tree.ConstTree.TheOpen as of_value
use Rattle.idl_parser.specs.declared.tree.ConstTree.TheFolds.{fold-ConstTree}
use Rattle.idl_parser.specs.declared.tree.Need.{Need}
use Rattle.idl_parser.specs.declared.tree.Need.TheVariants as need
use Rattle.idl_parser.specs.declared.tree.Field.{Field}
use Rattle.idl_parser.specs.declared.tree.Function.{Function}
use Rattle.idl_parser.specs.declared.tree.Const.{Const}
use Rattle.idl_parser.specs.declared.tree.Typedef.{Typedef}
use Rattle.idl_parser.specs.declared.tree.EnumValue.{EnumValue}
use Rattle.idl_parser.specs.declared.tree.Enum.{Enum}
use Rattle.idl_parser.specs.declared.tree.StructKind.{StructKind}
use Rattle.idl_parser.specs.declared.tree.StructKind.TheVariants as kind
use Rattle.idl_parser.specs.declared.tree.Struct.{Struct}
use Rattle.idl_parser.specs.declared.tree.Service.{Service}
use Rattle.idl_parser.specs.declared.tree.Definition.{Definition}
use Rattle.idl_parser.specs.declared.tree.Definition.TheVariants as definition
use Rattle.idl_parser.specs.declared.tree.Include.{Include}
use Rattle.idl_parser.specs.declared.tree.Document.{Document}
use Rattle.idl_parser.specs.Phrases.{Node, none, word, flag, text, number, given, pair, placed}

-- a row of trees in front of another
abbrev pub ahead : (Node → Node → Node) → List Node → Node → Node
ahead join [] tail = tail
ahead join (x ∷ xs) tail = join x (ahead join xs tail)

-- a row of trees
abbrev pub row : List Node → Node
row xs = ahead pair xs none

-- a part that may be missing
abbrev pub maybe_node : {A : Type 0} → (A → Node) → Option A → Node
maybe_node tree None = none
maybe_node tree (Some x) = given (tree x)

-- a name
abbrev pub name_node : Name → Node
name_node name = text word.Identifier name.text name.at

-- a literal
abbrev pub literal_node : Literal → Node
literal_node literal = text word.Literal literal.bytes literal.at

-- an integer
abbrev pub int_node : Int → Node
int_node int = number int.value int.at

-- a number with a fraction or an exponent
abbrev pub double_node : Double → Node
double_node double = text word.Double double.text double.at

-- the symbol of a base type
abbrev pub base_word : Base → Terminal
base_word base.Bool = word.Bool
base_word base.Byte = word.Byte
base_word base.I8 = word.I8
base_word base.I16 = word.I16
base_word base.I32 = word.I32
base_word base.I64 = word.I64
base_word base.Double = word.DoubleWord
base_word base.String = word.StringWord
base_word base.Binary = word.Binary
base_word base.Uuid = word.Uuid

-- one level of a type, with the trees of what it holds in their places
abbrev pub type_step : TypeTree-F Node → Node
type_step (of_type.Base at b) = word (base_word b) at
type_step (of_type.Named name) = name_node name
type_step (of_type.Map at k v) = pair (word word.Map at) (pair k.value v.value)
type_step (of_type.Set at x) = pair (word word.Set at) x.value
type_step (of_type.List at x) = pair (word word.List at) x.value

-- a type
abbrev pub type_node : TypeTree → Node
type_node = fold-TypeTree Node type_step

-- a row of pairs of trees
abbrev pub pair_row : List (Node × Node) → Node
pair_row [] = none
pair_row (p ∷ ps) = pair (pair p.0 p.1) (pair_row ps)

-- the same of a value
abbrev pub value_step : ConstTree-F Node → Node
value_step (of_value.Int int) = int_node int
value_step (of_value.Double double) = double_node double
value_step (of_value.Literal literal) = literal_node literal
value_step (of_value.Name name) = name_node name
value_step (of_value.List at items) = pair (word word.OpenBracket at) (row items.items)
value_step (of_value.Map at pairs) = pair (word word.OpenBrace at) (pair_row pairs.items)

-- a value
abbrev pub value_node : ConstTree → Node
value_node = fold-ConstTree Node value_step

-- a key and its value
abbrev pub entry_node : ConstTree × ConstTree → Node
entry_node p = pair (value_node p.0) (value_node p.1)

-- the trees of a key and of its value
abbrev pub both_nodes : ConstTree × ConstTree → Node × Node
both_nodes p = (value_node p.0, value_node p.1)

-- a row of values
abbrev pub values_node : List ConstTree → Node
values_node values = row (map value_node values)

-- a row of keys with their values
abbrev pub pairs_node : List (ConstTree × ConstTree) → Node
pairs_node pairs = pair_row (map both_nodes pairs)

-- whether a field is needed
abbrev pub need_node : Need → Node
need_node need.Default = none
need_node need.Required = given (flag word.Required)
need_node need.Optional = given (flag word.Optional)

-- a field
unfoldable pub field_node : Field → Node
field_node f =
    placed f.at (pair (maybe_node int_node f.id) (pair (need_node f.need) (pair (type_node f.kind)
    (pair (name_node f.name) (maybe_node value_node f.default)))))

-- a row of fields
abbrev pub fields_node : List Field → Node
fields_node fields = row (map field_node fields)

-- whether a function is one way
abbrev pub oneway_node : Bool → Node
oneway_node false = none
oneway_node true = given (flag word.Oneway)

-- a result, which may be none
abbrev pub result_node : Option TypeTree → Node
result_node None = flag word.Void
result_node (Some t) = type_node t

-- a function
unfoldable pub function_node : Function → Node
function_node f =
    placed f.at (pair (oneway_node f.oneway) (pair (result_node f.result) (pair (name_node f.name)
    (pair (fields_node f.arguments.items) (maybe_node (λ v. fields_node v.items) f.throws)))))

-- a row of functions
abbrev pub functions_node : List Function → Node
functions_node functions = row (map function_node functions)

-- a constant
unfoldable pub const_node : Const → Node
const_node c = pair (word word.Const c.at) (pair (type_node c.kind) (pair (name_node c.name) (value_node c.value)))

-- a typedef
unfoldable pub typedef_node : Typedef → Node
typedef_node t = pair (word word.Typedef t.at) (pair (type_node t.kind) (name_node t.name))

-- a value of an enum
unfoldable pub enum_value_node : EnumValue → Node
enum_value_node v = pair (name_node v.name) (maybe_node int_node v.number)

-- a row of values of an enum
abbrev pub enum_values_node : List EnumValue → Node
enum_values_node values = row (map enum_value_node values)

-- an enum
unfoldable pub enum_node : Enum → Node
enum_node e = pair (word word.Enum e.at) (pair (name_node e.name) (enum_values_node e.values.items))

-- the symbol with which a struct, a union or an exception begins
abbrev pub struct_word_of : StructKind → Terminal
struct_word_of kind.Struct = word.Struct
struct_word_of kind.Union = word.Union
struct_word_of kind.Exception = word.Exception

-- a struct, union or exception
unfoldable pub struct_node : Struct → Node
struct_node s = pair (word (struct_word_of s.kind) s.at) (pair (name_node s.name) (fields_node s.fields.items))

-- a service
unfoldable pub service_node : Service → Node
service_node s =
    pair (word word.Service s.at) (pair (name_node s.name) (pair (maybe_node name_node s.parent) (functions_node s.functions.items)))

-- a definition
unfoldable pub definition_node : Definition → Node
definition_node (definition.Const c) = const_node c
definition_node (definition.Typedef t) = typedef_node t
definition_node (definition.Enum e) = enum_node e
definition_node (definition.Struct s) = struct_node s
definition_node (definition.Service s) = service_node s

-- an include
unfoldable pub include_node : Include → Node
include_node i = pair (word word.Include i.at) (literal_node i.file)

-- a header, of which only an include is kept
abbrev pub header_node : Option Include → Node
header_node None = none
header_node (Some i) = include_node i

-- a row of includes
abbrev pub includes_node : List Include → Node
includes_node includes = row (map include_node includes)

-- a row of definitions
abbrev pub definitions_node : List Definition → Node
definitions_node definitions = row (map definition_node definitions)

-- a document
unfoldable pub document_node : Document → Node
document_node d = pair (includes_node d.includes.items) (definitions_node d.definitions.items)

-- what is there, as a list
abbrev pub some_of : {A : Type 0} → Option A → List A
some_of None = []
some_of (Some x) = x ∷ []
