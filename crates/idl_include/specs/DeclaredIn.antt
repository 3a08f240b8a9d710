-- What a document in memory declares, part by part. It is what the document's tree declares.
use Rattle.std.specs.Prelude.{ℤ, List, [], ◌∷◌, map, Option, Some, None}
use Rattle.std.specs.Option.{option_map}
use Rattle.idl_parser.specs.declared.tree.Name.{Name}
use Rattle.idl_parser.specs.declared.tree.Literal.{Literal}
use Rattle.idl_parser.specs.declared.tree.Int.{Int}
use Rattle.idl_parser.specs.declared.tree.TypeTree.{TypeTree}
use Rattle.idl_parser.specs.declared.tree.TypeTree.TheOpen.{TypeTree-F}
use Rattle.idl_parser.specs.declared.tree.TypeTree.TheOpen as of_type
use Rattle.idl_parser.specs.declared.tree.TypeTree.TheFolds.{fold-TypeTree}
use Rattle.idl_parser.specs.declared.tree.ConstTree.{ConstTree}
use Rattle.idl_parser.specs.declared.tree.ConstTree.TheOpen.{ConstTree-F}
use Rattle.idl_parser.specs.declared.tree.ConstTree.TheOpen as of_value
use Rattle.idl_parser.specs.declared.tree.ConstTree.TheFolds.{fold-ConstTree}
use Rattle.idl_parser.specs.declared.tree.Field.{Field}
use Rattle.idl_parser.specs.declared.tree.Function.{Function}
use Rattle.idl_parser.specs.declared.tree.EnumValue.{EnumValue}
use Rattle.idl_parser.specs.declared.tree.Definition.{Definition}
use Rattle.idl_parser.specs.declared.tree.Definition.TheVariants as definition
use Rattle.idl_parser.specs.declared.tree.Include.{Include}
use Rattle.idl_parser.specs.declared.tree.Document.{Document}
use Rattle.idl_include.specs.Written.{Written}
use Rattle.idl_include.specs.TypeExpr.{TypeExpr, base_expr, name_expr, map_expr, set_expr, list_expr}
use Rattle.idl_include.specs.ConstExpr.{ConstExpr, int_const, double_const, literal_const, name_const, list_const, map_const, ConstItems, no_consts, const_item, ConstEntries, no_entries, const_entry}
use Rattle.idl_include.specs.Declarations.{FieldDecl, FunctionDecl, EnumValueDecl, Declaration, of_const, of_typedef, of_enum, of_struct_decl, of_service}

-- a name
abbrev pub name_in : Name → Written
name_in name = record { text = name.text; at = name.at }

-- a literal
abbrev pub literal_in : Literal → Written
literal_in literal = record { text = literal.bytes; at = literal.at }

-- one level of a type
abbrev pub type_level : TypeTree-F TypeExpr → TypeExpr
type_level (of_type.Base at b) = base_expr b
type_level (of_type.Named name) = name_expr (name_in name)
type_level (of_type.Map at key value) = map_expr key.value value.value
type_level (of_type.Set at member) = set_expr member.value
type_level (of_type.List at element) = list_expr element.value

-- a type
abbrev pub type_in : TypeTree → TypeExpr
type_in = fold-TypeTree TypeExpr type_level

-- the values of a list
abbrev pub items_in : List ConstExpr → ConstItems
items_in [] = no_consts
items_in (x ∷ xs) = const_item x (items_in xs)

-- keys with their values
abbrev pub entries_in : List (ConstExpr × ConstExpr) → ConstEntries
entries_in [] = no_entries
entries_in (p ∷ ps) = const_entry p.0 p.1 (entries_in ps)

-- one level of a value
abbrev pub const_level : ConstTree-F ConstExpr → ConstExpr
const_level (of_value.Int int) = int_const int.value int.at
const_level (of_value.Double double) = double_const (record { text = double.text; at = double.at })
const_level (of_value.Literal literal) = literal_const (literal_in literal)
const_level (of_value.Name name) = name_const (name_in name)
const_level (of_value.List at items) = list_const at (items_in items.items)
const_level (of_value.Map at pairs) = map_const at (entries_in pairs.items)

-- a value
abbrev pub value_in : ConstTree → ConstExpr
value_in = fold-ConstTree ConstExpr const_level

-- the number of an integer
abbrev pub number_in : Int → ℤ
number_in int = int.value

-- a field
unfoldable pub field_in : Field → FieldDecl
field_in f = record {
  at = f.at;
  id = option_map number_in f.id;
  need = f.need;
  type = type_in f.kind;
  name = name_in f.name;
  default = option_map value_in f.default;
}

-- the exceptions that a function throws; none where nothing is said of them
abbrev pub throws_in : Option (List Field) → List FieldDecl
throws_in None = []
throws_in (Some fields) = map field_in fields

-- a function
unfoldable pub function_in : Function → FunctionDecl
function_in f = record {
  at = f.at;
  oneway = f.oneway;
  result = option_map type_in f.result;
  name = name_in f.name;
  arguments = map field_in f.arguments.items;
  throws = throws_in (option_map (λ v. v.items) f.throws);
}

-- a value of an enum
abbrev pub enum_value_in : EnumValue → EnumValueDecl
enum_value_in v = record { name = name_in v.name; number = option_map number_in v.number }

-- a definition
unfoldable pub definition_in : Definition → Declaration
definition_in (definition.Const c) = of_const (record { name = name_in c.name; type = type_in c.kind; value = value_in c.value })
definition_in (definition.Typedef t) = of_typedef (record { name = name_in t.name; type = type_in t.kind })
definition_in (definition.Enum e) = of_enum (record { name = name_in e.name; values = map enum_value_in e.values.items })
definition_in (definition.Struct s) = of_struct_decl (record { name = name_in s.name; kind = s.kind; fields = map field_in s.fields.items })
definition_in (definition.Service s) =
    of_service (record { name = name_in s.name; parent = option_map name_in s.parent; functions = map function_in s.functions.items })

-- the definitions of a document, in order
unfoldable pub definitions_in : Document → List Declaration
definitions_in d = map definition_in d.definitions.items

-- the literals behind its includes, in order
unfoldable pub includes_of_document : Document → List Written
includes_of_document d = map (λ (i : Include). literal_in i.file) d.includes.items
