-- The tree of a document in memory declares what the document does.
use Rattle.std.proofs.Common.{Vec, Global, ◌≡◌, Bool, true, false, List, [], ◌∷◌, map, Option, Some, None, refl, sym, ap, ◌∙◌, subst}
use Rattle.std.specs.Option.{option_map}
use Rattle.idl_parser.specs.declared.tree.Base.{Base}
use Rattle.idl_parser.specs.declared.tree.Base.TheVariants as base
use Rattle.idl_parser.specs.declared.tree.TypeTree.{TypeTree}
use Rattle.idl_parser.specs.declared.tree.TypeTree.TheOpen.{TypeTree-F}
use Rattle.idl_parser.specs.declared.tree.TypeTree.TheOpen as of_type
use Rattle.idl_parser.specs.declared.tree.TypeTree.TheFolds.{map-TypeTree, fold-roll-TypeTree, ind-TypeTree}
use Rattle.idl_parser.specs.declared.tree.ConstTree.{ConstTree}
use Rattle.idl_parser.specs.declared.tree.ConstTree.TheOpen.{ConstTree-F}
use Rattle.idl_parser.specs.declared.tree.ConstTree.TheOpen as of_value
use Rattle.idl_parser.specs.declared.tree.ConstTree.TheFolds.{map-ConstTree, fold-roll-ConstTree, ind-ConstTree}
use Rattle.idl_parser.specs.declared.tree.Need.{Need}
use Rattle.idl_parser.specs.declared.tree.Need.TheVariants as need
use Rattle.idl_parser.specs.declared.tree.StructKind.{StructKind}
use Rattle.idl_parser.specs.declared.tree.StructKind.TheVariants as kind
use Rattle.idl_parser.specs.declared.tree.Field.{Field}
use Rattle.idl_parser.specs.declared.tree.Function.{Function}
use Rattle.idl_parser.specs.declared.tree.EnumValue.{EnumValue}
use Rattle.idl_parser.specs.declared.tree.Definition.{Definition}
use Rattle.idl_parser.specs.declared.tree.Definition.TheVariants as definition
use Rattle.idl_parser.specs.declared.tree.Include.{Include}
use Rattle.idl_parser.specs.declared.tree.Document.{Document}
use Rattle.idl_parser.specs.Phrases.{Node}
use Rattle.idl_parser.specs.Trees.{row, pair_row, both_nodes, maybe_node, int_node, name_node, base_word, type_step, type_node, value_step, value_node, need_node, field_node, oneway_node, result_node, fields_node, function_node, const_node, typedef_node, enum_value_node, enum_node, struct_node, service_node, definition_node, include_node, document_node}
use Rattle.idl_include.specs.TypeExpr.{TypeExpr, base_expr, map_expr, set_expr, list_expr}
use Rattle.idl_include.specs.ConstExpr.{ConstExpr, list_const, map_const, const_item, const_entry}
use Rattle.idl_include.specs.Declarations.{of_const, of_typedef, of_enum, of_struct_decl, of_service}
use Rattle.idl_include.specs.Decoded.{nodes_of, behind, written_of, given_of, number_of, base_of, type_expr, const_expr, const_items, const_entries, need_of, field_decl, given_fields, is_oneway, result_of, function_decl, enum_value_decl, declaration, declarations_of, includes_of}
use Rattle.idl_include.specs.DeclaredIn.{name_in, literal_in, type_level, type_in, items_in, entries_in, const_level, value_in, number_in, field_in, throws_in, function_in, enum_value_in, definition_in, definitions_in, includes_of_document}

rows_are : {A B : Type 0} (tree : A → Node) (read : Node → B) (of : A → B) → ((x : A) → read (tree x) ≡ of x) → (xs : List A)
    → map read (nodes_of (row (map tree xs))) ≡ map of xs
rows_are tree read of each [] = refl
rows_are tree read of each (x ∷ xs) = λ i. each x i ∷ rows_are tree read of each xs i

maybe_is : {A B : Type 0} (tree : A → Node) (read : Node → B) (of : A → B) → ((x : A) → read (tree x) ≡ of x) → (o : Option A)
    → given_of read (maybe_node tree o) ≡ option_map of o
maybe_is tree read of each None = refl
maybe_is tree read of each (Some x) = ap Some (each x)

base_is : (b : Base) → base_of (base_word b) ≡ b
base_is base.Bool = refl
base_is base.Byte = refl
base_is base.I8 = refl
base_is base.I16 = refl
base_is base.I32 = refl
base_is base.I64 = refl
base_is base.Double = refl
base_is base.String = refl
base_is base.Binary = refl
base_is base.Uuid = refl

abbrev TypeIs : TypeTree → Type 0
TypeIs t = type_expr (type_node t) ≡ type_in t

type_layer : (y : TypeTree-F ((t : TypeTree) × TypeIs t))
    → type_expr (type_step (map-TypeTree TypeTree Node type_node (map-TypeTree ((t : TypeTree) × TypeIs t) TypeTree (λ e. e.0) y)))
    ≡ type_level (map-TypeTree TypeTree TypeExpr type_in (map-TypeTree ((t : TypeTree) × TypeIs t) TypeTree (λ e. e.0) y))
type_layer (of_type.Base at b) = ap base_expr (base_is b)
type_layer (of_type.Named name) = refl
type_layer (of_type.Map at k v) = λ i. map_expr (k.value.1 i) (v.value.1 i)
type_layer (of_type.Set at x) = λ i. set_expr (x.value.1 i)
type_layer (of_type.List at x) = λ i. list_expr (x.value.1 i)

type_is : (t : TypeTree) → TypeIs t
type_is = ind-TypeTree TypeIs (λ x y is.
    ap type_expr (fold-roll-TypeTree Node type_step x)
    ∙ subst (λ z. type_expr (type_step (map-TypeTree TypeTree Node type_node z)) ≡ type_level (map-TypeTree TypeTree TypeExpr type_in z)) is (type_layer y)
    ∙ sym (fold-roll-TypeTree TypeExpr type_level x))

-- a type is no `void`
abbrev NoVoid : TypeTree → Type 0
NoVoid t = result_of (type_node t) ≡ Some (type_expr (type_node t))

void_layer : (y : TypeTree-F ((t : TypeTree) × NoVoid t))
    → result_of (type_step (map-TypeTree TypeTree Node type_node (map-TypeTree ((t : TypeTree) × NoVoid t) TypeTree (λ e. e.0) y)))
    ≡ Some (type_expr (type_step (map-TypeTree TypeTree Node type_node (map-TypeTree ((t : TypeTree) × NoVoid t) TypeTree (λ e. e.0) y))))
void_layer (of_type.Base at b) = refl
void_layer (of_type.Named name) = refl
void_layer (of_type.Map at k v) = refl
void_layer (of_type.Set at x) = refl
void_layer (of_type.List at x) = refl

no_void : (t : TypeTree) → NoVoid t
no_void = ind-TypeTree NoVoid (λ x y is.
    ap result_of (fold-roll-TypeTree Node type_step x)
    ∙ subst (λ z. result_of (type_step (map-TypeTree TypeTree Node type_node z)) ≡ Some (type_expr (type_step (map-TypeTree TypeTree Node type_node z)))) is (void_layer y)
    ∙ sym (ap (λ n. Some (type_expr n)) (fold-roll-TypeTree Node type_step x)))

result_is : (o : Option TypeTree) → result_of (result_node o) ≡ option_map type_in o
result_is None = refl
result_is (Some t) = no_void t ∙ ap Some (type_is t)

-- values
abbrev ValueIs : ConstTree → Type 0
ValueIs v = const_expr (value_node v) ≡ value_in v

values_are : (es : List ((v : ConstTree) × ValueIs v))
    → const_items (row (map value_node (map (λ e. e.0) es))) ≡ items_in (map value_in (map (λ e. e.0) es))
values_are [] = refl
values_are (e ∷ es) = λ i. const_item (e.1 i) (values_are es i)

abbrev both_in : ConstTree × ConstTree → ConstExpr × ConstExpr
both_in p = (value_in p.0, value_in p.1)

pairs_are : (es : List (((v : ConstTree) × ValueIs v) × ((v : ConstTree) × ValueIs v)))
    → const_entries (pair_row (map both_nodes (map (λ p. (p.0.0, p.1.0)) es))) ≡ entries_in (map both_in (map (λ p. (p.0.0, p.1.0)) es))
pairs_are [] = refl
pairs_are (e ∷ es) = λ i. const_entry (e.0.1 i) (e.1.1 i) (pairs_are es i)

value_layer : (y : ConstTree-F ((v : ConstTree) × ValueIs v))
    → const_expr (value_step (map-ConstTree ConstTree Node value_node (map-ConstTree ((v : ConstTree) × ValueIs v) ConstTree (λ e. e.0) y)))
    ≡ const_level (map-ConstTree ConstTree ConstExpr value_in (map-ConstTree ((v : ConstTree) × ValueIs v) ConstTree (λ e. e.0) y))
value_layer (of_value.Int int) = refl
value_layer (of_value.Double double) = refl
value_layer (of_value.Literal literal) = refl
value_layer (of_value.Name name) = refl
value_layer (of_value.List at items) = λ i. list_const at (values_are items.items i)
value_layer (of_value.Map at pairs) = λ i. map_const at (pairs_are pairs.items i)

value_is : (v : ConstTree) → ValueIs v
value_is = ind-ConstTree ValueIs (λ x y is.
    ap const_expr (fold-roll-ConstTree Node value_step x)
    ∙ subst (λ z. const_expr (value_step (map-ConstTree ConstTree Node value_node z)) ≡ const_level (map-ConstTree ConstTree ConstExpr value_in z)) is (value_layer y)
    ∙ sym (fold-roll-ConstTree ConstExpr const_level x))

-- fields and functions
need_is : (n : Need) → need_of (need_node n) ≡ n
need_is need.Default = refl
need_is need.Required = refl
need_is need.Optional = refl

field_is : (f : Field) → field_decl (field_node f) ≡ field_in f
unfolding field_node field_in
field_is f = λ i. record {
  at = f.at;
  id = maybe_is int_node number_of number_in (λ n. refl) f.id i;
  need = need_is f.need i;
  type = type_is f.kind i;
  name = name_in f.name;
  default = maybe_is value_node const_expr value_in value_is f.default i;
}

throws_are : (o : Option (Vec Field Global)) → given_fields (maybe_node (λ v. fields_node v.items) o) ≡ throws_in (option_map (λ v. v.items) o)
throws_are None = refl
throws_are (Some v) = rows_are field_node field_decl field_in field_is v.items

oneway_is : (b : Bool) → is_oneway (oneway_node b) ≡ b
oneway_is true = refl
oneway_is false = refl

function_is : (f : Function) → function_decl (function_node f) ≡ function_in f
unfolding function_node function_in
function_is f = λ i. record {
  at = f.at;
  oneway = oneway_is f.oneway i;
  result = result_is f.result i;
  name = name_in f.name;
  arguments = rows_are field_node field_decl field_in field_is f.arguments.items i;
  throws = throws_are f.throws i;
}

-- definitions
enum_value_is : (v : EnumValue) → enum_value_decl (enum_value_node v) ≡ enum_value_in v
unfolding enum_value_node
enum_value_is v = λ i. record { name = name_in v.name; number = maybe_is int_node number_of number_in (λ n. refl) v.number i }

definition_is : (d : Definition) → declaration (definition_node d) ≡ definition_in d
unfolding definition_node const_node typedef_node enum_node struct_node service_node definition_in
definition_is (definition.Const c) = λ i. of_const (record { name = name_in c.name; type = type_is c.kind i; value = value_is c.value i })
definition_is (definition.Typedef t) = λ i. of_typedef (record { name = name_in t.name; type = type_is t.kind i })
definition_is (definition.Enum e) =
    λ i. of_enum (record { name = name_in e.name; values = rows_are enum_value_node enum_value_decl enum_value_in enum_value_is e.values.items i })
definition_is (definition.Struct s) = struct_is s.kind
  where
    struct_is : (k : StructKind) → declaration (definition_node (definition.Struct (record s { kind = k }))) ≡ definition_in (definition.Struct (record s { kind = k }))
    struct_is kind.Struct = λ i. of_struct_decl (record { name = name_in s.name; kind = kind.Struct; fields = rows_are field_node field_decl field_in field_is s.fields.items i })
    struct_is kind.Union = λ i. of_struct_decl (record { name = name_in s.name; kind = kind.Union; fields = rows_are field_node field_decl field_in field_is s.fields.items i })
    struct_is kind.Exception = λ i. of_struct_decl (record { name = name_in s.name; kind = kind.Exception; fields = rows_are field_node field_decl field_in field_is s.fields.items i })
definition_is (definition.Service s) = λ i. of_service (record {
  name = name_in s.name;
  parent = maybe_is name_node written_of name_in (λ n. refl) s.parent i;
  functions = rows_are function_node function_decl function_in function_is s.functions.items i;
})

pub declarations_are : (d : Document) → declarations_of (document_node d) ≡ definitions_in d
unfolding document_node declarations_of definitions_in
declarations_are d = rows_are definition_node declaration definition_in definition_is d.definitions.items

include_is : (i : Include) → written_of (behind (include_node i)) ≡ literal_in i.file
unfolding include_node
include_is i = refl

pub includes_are : (d : Document) → includes_of (document_node d) ≡ includes_of_document d
unfolding document_node includes_of includes_of_document
includes_are d = rows_are include_node (λ x. written_of (behind x)) (λ (i : Include). literal_in i.file) include_is d.includes.items
