-- The text of a document: a definition a line or more, each field, value and function on a line of its own.
-- What no document keeps (separators that may be left out, annotations, namespaces) isn't printed.
use Rattle.std.specs.Prelude.{ℕ, ◌==◌, Bool, true, false, List, [], ◌∷◌, ◌++◌, map, codes, Option, Some, None, if◌then◌else◌}
use Rattle.std.specs.List.{flat_map}
use Rattle.text_out.specs.Decimal.{decimal_of}
use Rattle.idl_token.specs.Bytes as byte
use Rattle.idl_token.specs.Words.{keyword_text}
use Rattle.idl_token.specs.declared.terminal.Terminal.{Terminal}
use Rattle.idl_token.specs.declared.terminal.Terminal.TheVariants as word
use Rattle.idl_parser.specs.Trees.{base_word, struct_word_of}
use Rattle.idl_parser.specs.declared.tree.Int.{Int}
use Rattle.idl_parser.specs.declared.tree.Base.{Base}
use Rattle.idl_parser.specs.declared.tree.TypeTree.{TypeTree}
use Rattle.idl_parser.specs.declared.tree.TypeTree.TheOpen.{TypeTree-F}
use Rattle.idl_parser.specs.declared.tree.TypeTree.TheOpen as of_type
use Rattle.idl_parser.specs.declared.tree.TypeTree.TheFolds.{fold-TypeTree}
use Rattle.idl_parser.specs.declared.tree.ConstTree.{ConstTree}
use Rattle.idl_parser.specs.declared.tree.ConstTree.TheOpen.{ConstTree-F}
use Rattle.idl_parser.specs.declared.tree.ConstTree.TheOpen as of_value
use Rattle.idl_parser.specs.declared.tree.ConstTree.TheFolds.{fold-ConstTree}
use Rattle.idl_parser.specs.declared.tree.Need.{Need}
use Rattle.idl_parser.specs.declared.tree.Need.TheVariants as need
use Rattle.idl_parser.specs.declared.tree.Name.{Name}
use Rattle.idl_parser.specs.declared.tree.Field.{Field}
use Rattle.idl_parser.specs.declared.tree.Function.{Function}
use Rattle.idl_parser.specs.declared.tree.Const.{Const}
use Rattle.idl_parser.specs.declared.tree.Typedef.{Typedef}
use Rattle.idl_parser.specs.declared.tree.EnumValue.{EnumValue}
use Rattle.idl_parser.specs.declared.tree.Enum.{Enum}
use Rattle.idl_parser.specs.declared.tree.StructKind.{StructKind}
use Rattle.idl_parser.specs.declared.tree.Struct.{Struct}
use Rattle.idl_parser.specs.declared.tree.Service.{Service}
use Rattle.idl_parser.specs.declared.tree.Definition.{Definition}
use Rattle.idl_parser.specs.declared.tree.Definition.TheVariants as definition
use Rattle.idl_parser.specs.declared.tree.Include.{Include}
use Rattle.idl_parser.specs.declared.tree.Document.{Document}

-- the end of a line
abbrev pub line_end : List ℕ
line_end = byte.newline ∷ []

-- a keyword and a blank
abbrev pub spaced_word : Terminal → List ℕ
spaced_word k = keyword_text k ++ byte.space ∷ []

-- a byte of a literal: a quotation mark, a backslash, a newline, a tab and a carriage return behind a backslash
abbrev pub escape_of : ℕ → List ℕ
escape_of b =
    if b == byte.double_quote then byte.backslash ∷ byte.double_quote ∷ []
    else if b == byte.backslash then byte.backslash ∷ byte.backslash ∷ []
    else if b == byte.newline then byte.backslash ∷ byte.lower_n ∷ []
    else if b == byte.tab then byte.backslash ∷ byte.lower_t ∷ []
    else if b == byte.carriage_return then byte.backslash ∷ byte.lower_r ∷ []
    else b ∷ []

-- bytes as a literal, between two quotation marks
unfoldable pub literal_text : List ℕ → List ℕ
literal_text bytes = byte.double_quote ∷ (flat_map escape_of bytes ++ byte.double_quote ∷ [])

-- a part that may be missing
abbrev pub maybe_text : {A : Type 0} → (A → List ℕ) → Option A → List ℕ
maybe_text text None = []
maybe_text text (Some x) = text x

-- a comma and a text
abbrev pub behind_comma : List ℕ → List ℕ
behind_comma text = codes ", " ++ text

-- texts with commas between them
abbrev pub separated : List (List ℕ) → List ℕ
separated [] = []
separated (x ∷ xs) = x ++ flat_map behind_comma xs

-- a text on a line of its own, within braces
abbrev pub inner_line : List ℕ → List ℕ
inner_line text = codes "  " ++ (text ++ line_end)

-- the word of a base type
abbrev pub base_text : Base → List ℕ
base_text b = keyword_text (base_word b)

-- one level of a type, with the texts of what it holds in their places
abbrev pub type_text_step : TypeTree-F (List ℕ) → List ℕ
type_text_step (of_type.Base at b) = base_text b
type_text_step (of_type.Named name) = name.text
type_text_step (of_type.Map at k v) = keyword_text word.Map ++ (codes "<" ++ (k.value ++ (codes ", " ++ (v.value ++ codes ">"))))
type_text_step (of_type.Set at x) = keyword_text word.Set ++ (codes "<" ++ (x.value ++ codes ">"))
type_text_step (of_type.List at x) = keyword_text word.List ++ (codes "<" ++ (x.value ++ codes ">"))

-- the text of a type
abbrev pub type_text : TypeTree → List ℕ
type_text = fold-TypeTree (List ℕ) type_text_step

-- a key and its value
abbrev pub pair_text : List ℕ × List ℕ → List ℕ
pair_text p = p.0 ++ (codes ": " ++ p.1)

-- a comma, a key and its value
abbrev pub pair_behind_comma : List ℕ × List ℕ → List ℕ
pair_behind_comma p = codes ", " ++ pair_text p

-- the same of pairs of texts
abbrev pub separated_pairs : List (List ℕ × List ℕ) → List ℕ
separated_pairs [] = []
separated_pairs (p ∷ ps) = pair_text p ++ flat_map pair_behind_comma ps

-- the same of a value
abbrev pub value_text_step : ConstTree-F (List ℕ) → List ℕ
value_text_step (of_value.Int int) = decimal_of int.value
value_text_step (of_value.Double double) = double.text
value_text_step (of_value.Literal literal) = literal_text literal.bytes
value_text_step (of_value.Name name) = name.text
value_text_step (of_value.List at items) = codes "[" ++ (separated items.items ++ codes "]")
value_text_step (of_value.Map at pairs) = codes "{" ++ (separated_pairs pairs.items ++ codes "}")

-- the text of a value
abbrev pub value_text : ConstTree → List ℕ
value_text = fold-ConstTree (List ℕ) value_text_step

-- values with commas between them
abbrev pub values_text : List ConstTree → List ℕ
values_text values = separated (map value_text values)

-- the texts of a key and of its value
abbrev pub both_texts : ConstTree × ConstTree → List ℕ × List ℕ
both_texts p = (value_text p.0, value_text p.1)

-- pairs with commas between them
abbrev pub const_pairs_text : List (ConstTree × ConstTree) → List ℕ
const_pairs_text pairs = separated_pairs (map both_texts pairs)

-- a field's number
abbrev pub id_text : Int → List ℕ
id_text id = decimal_of id.value ++ codes ": "

-- whether a field is needed
abbrev pub need_text : Need → List ℕ
need_text need.Default = []
need_text need.Required = spaced_word word.Required
need_text need.Optional = spaced_word word.Optional

-- a field's value where none is given
abbrev pub default_text : ConstTree → List ℕ
default_text value = codes " = " ++ value_text value

-- a type, a name and a value or none
unfoldable pub typed_text : Field → List ℕ
typed_text f = type_text f.kind ++ (codes " " ++ (f.name.text ++ maybe_text default_text f.default))

-- a field
unfoldable pub field_text : Field → List ℕ
field_text f = maybe_text id_text f.id ++ (need_text f.need ++ typed_text f)

-- a field on a line of its own
abbrev pub field_line : Field → List ℕ
field_line f = inner_line (field_text f)

-- fields on lines of their own
abbrev pub field_lines : List Field → List ℕ
field_lines fields = flat_map field_line fields

-- fields in parentheses, with commas between them
abbrev pub arguments_text : List Field → List ℕ
arguments_text fields = codes "(" ++ (separated (map field_text fields) ++ codes ")")

-- `oneway`, where it is one
abbrev pub oneway_text : Bool → List ℕ
oneway_text false = []
oneway_text true = spaced_word word.Oneway

-- the type of a result
abbrev pub result_text : Option TypeTree → List ℕ
result_text None = keyword_text word.Void
result_text (Some t) = type_text t

-- the exceptions of a function
abbrev pub throws_text : List Field → List ℕ
throws_text fields = codes " " ++ (spaced_word word.Throws ++ arguments_text fields)

-- a function's name, its arguments and its exceptions
unfoldable pub signature_text : Function → List ℕ
signature_text f = f.name.text ++ (arguments_text f.arguments.items ++ maybe_text (λ v. throws_text v.items) f.throws)

-- a function
unfoldable pub function_text : Function → List ℕ
function_text f = oneway_text f.oneway ++ (result_text f.result ++ (codes " " ++ signature_text f))

-- a function on a line of its own
abbrev pub function_line : Function → List ℕ
function_line f = inner_line (function_text f)

-- a constant on a line of its own
unfoldable pub const_text : Const → List ℕ
const_text c = spaced_word word.Const ++ (type_text c.kind ++ (codes " " ++ (c.name.text ++ (codes " = " ++ (value_text c.value ++ line_end)))))

-- a typedef on a line of its own
unfoldable pub typedef_text : Typedef → List ℕ
typedef_text t = spaced_word word.Typedef ++ (type_text t.kind ++ (codes " " ++ (t.name.text ++ line_end)))

-- an opening brace behind a name
abbrev pub opening_line : List ℕ
opening_line = codes " {" ++ line_end

-- a closing brace on a line of its own
abbrev pub closing_line : List ℕ
closing_line = codes "}" ++ line_end

-- the number of an enum's value
abbrev pub number_text : Int → List ℕ
number_text number = codes " = " ++ decimal_of number.value

-- a value of an enum
unfoldable pub enum_value_text : EnumValue → List ℕ
enum_value_text v = v.name.text ++ maybe_text number_text v.number

-- a value of an enum on a line of its own
abbrev pub enum_value_line : EnumValue → List ℕ
enum_value_line v = inner_line (enum_value_text v)

-- an enum
unfoldable pub enum_text : Enum → List ℕ
enum_text e = line_end ++ (spaced_word word.Enum ++ (e.name.text ++ (opening_line ++ (flat_map enum_value_line e.values.items ++ closing_line))))

-- the word with which a struct begins
abbrev pub struct_word_text : StructKind → List ℕ
struct_word_text k = spaced_word (struct_word_of k)

-- a struct, union or exception
unfoldable pub struct_text : Struct → List ℕ
struct_text s = line_end ++ (struct_word_text s.kind ++ (s.name.text ++ (opening_line ++ (field_lines s.fields.items ++ closing_line))))

-- the parent of a service
abbrev pub parent_text : Name → List ℕ
parent_text name = codes " " ++ (spaced_word word.Extends ++ name.text)

-- a service
unfoldable pub service_text : Service → List ℕ
service_text s =
    line_end ++ (spaced_word word.Service ++ (s.name.text ++ (maybe_text parent_text s.parent ++ (opening_line ++ (flat_map function_line s.functions.items ++ closing_line)))))

-- a definition
unfoldable pub definition_text : Definition → List ℕ
definition_text (definition.Const c) = const_text c
definition_text (definition.Typedef t) = typedef_text t
definition_text (definition.Enum e) = enum_text e
definition_text (definition.Struct s) = struct_text s
definition_text (definition.Service s) = service_text s

-- an include on a line of its own
unfoldable pub include_line : Include → List ℕ
include_line i = spaced_word word.Include ++ (literal_text i.file.bytes ++ line_end)

-- the includes and then the definitions
unfoldable pub printed : Document → List ℕ
printed d = flat_map include_line d.includes.items ++ flat_map definition_text d.definitions.items
