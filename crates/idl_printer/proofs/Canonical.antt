-- What is printed of a document is made of its tree, places aside.
use Rattle.std.proofs.Common.{◌≡◌, ℕ, Bool, true, false, List, [], ◌∷◌, ◌++◌, map, codes, Option, Some, None, refl, sym, ap, ◌∙◌, subst}
use Rattle.std.specs.List.{flat_map}
use Rattle.text_out.specs.Decimal.{decimal_of}
use Rattle.idl_token.specs.declared.terminal.Terminal.{Terminal}
use Rattle.idl_token.specs.declared.terminal.Terminal.TheVariants as word
use Rattle.idl_parser.specs.declared.tree.TypeTree.{TypeTree}
use Rattle.idl_parser.specs.declared.tree.TypeTree.TheOpen.{TypeTree-F}
use Rattle.idl_parser.specs.declared.tree.TypeTree.TheOpen as of_type
use Rattle.idl_parser.specs.declared.tree.TypeTree.TheFolds.{map-TypeTree, fold-roll-TypeTree, ind-TypeTree}
use Rattle.idl_parser.specs.declared.tree.ConstTree.{ConstTree}
use Rattle.idl_parser.specs.declared.tree.ConstTree.TheOpen.{ConstTree-F}
use Rattle.idl_parser.specs.declared.tree.ConstTree.TheOpen as of_value
use Rattle.idl_parser.specs.declared.tree.ConstTree.TheFolds.{map-ConstTree, fold-roll-ConstTree, ind-ConstTree}
use Rattle.idl_parser.specs.declared.tree.Need.{Need}
use Rattle.idl_parser.specs.declared.tree.Need.TheVariants as need
use Rattle.idl_parser.specs.declared.tree.Field.{Field}
use Rattle.idl_parser.specs.declared.tree.Function.{Function}
use Rattle.idl_parser.specs.declared.tree.EnumValue.{EnumValue}
use Rattle.idl_parser.specs.declared.tree.StructKind.{StructKind}
use Rattle.idl_parser.specs.declared.tree.StructKind.TheVariants as kind
use Rattle.idl_parser.specs.declared.tree.Definition.{Definition}
use Rattle.idl_parser.specs.declared.tree.Definition.TheVariants as definition
use Rattle.idl_parser.specs.declared.tree.Include.{Include}
use Rattle.idl_parser.specs.declared.tree.Document.{Document}
use Rattle.idl_parser.specs.Phrases.{Node, word as word_node, flag, text as leaf, number, given, pair, placed}
use Rattle.idl_parser.specs.Trees.{row, pair_row, both_nodes, maybe_node, int_node, name_node, type_step, type_node, value_step, value_node, need_node, field_node, oneway_node, result_node, fields_node, function_node, const_node, typedef_node, enum_value_node, enum_node, struct_word_of, struct_node, service_node, definition_node, include_node, document_node}
use Rattle.idl_printer.specs.Unplaced.{without_places}
use Rattle.idl_printer.specs.Printed.{line_end, literal_text, maybe_text, separated, separated_pairs, both_texts, inner_line, type_text_step, type_text, value_text_step, value_text, id_text, need_text, default_text, typed_text, field_text, field_line, arguments_text, oneway_text, result_text, throws_text, signature_text, function_text, function_line, const_text, typedef_text, opening_line, closing_line, number_text, enum_value_text, enum_value_line, enum_text, struct_word_text, struct_text, parent_text, service_text, definition_text, include_line, printed, spaced_word}
use Rattle.idl_token.specs.Words.{keyword_text}

-- a row of trees
abbrev texts_from : (Node → List ℕ) → Node → List (List ℕ)
texts_from from (pair x xs) = from x ∷ texts_from from xs
texts_from from x = []

abbrev lines_from : (Node → List ℕ) → Node → List ℕ
lines_from from (pair x xs) = from x ++ lines_from from xs
lines_from from x = []

abbrev maybe_from : (Node → List ℕ) → Node → List ℕ
maybe_from from (given x) = from x
maybe_from from x = []

texts_are : {A : Type 0} (tree : A → Node) (text : A → List ℕ) (from : Node → List ℕ) → ((x : A) → text x ≡ from (without_places (tree x)))
    → (xs : List A) → map text xs ≡ texts_from from (without_places (row (map tree xs)))
texts_are tree text from each [] = refl
texts_are tree text from each (x ∷ xs) = λ i. each x i ∷ texts_are tree text from each xs i

lines_are : {A : Type 0} (tree : A → Node) (text : A → List ℕ) (from : Node → List ℕ) → ((x : A) → text x ≡ from (without_places (tree x)))
    → (xs : List A) → flat_map text xs ≡ lines_from from (without_places (row (map tree xs)))
lines_are tree text from each [] = refl
lines_are tree text from each (x ∷ xs) = λ i. each x i ++ lines_are tree text from each xs i

maybe_is : {A : Type 0} (tree : A → Node) (text : A → List ℕ) (from : Node → List ℕ) → ((x : A) → text x ≡ from (without_places (tree x)))
    → (o : Option A) → maybe_text text o ≡ maybe_from from (without_places (maybe_node tree o))
maybe_is tree text from each None = refl
maybe_is tree text from each (Some x) = each x

-- types
abbrev type_from : Node → List ℕ
type_from (word_node k at) = keyword_text k
type_from (leaf k bytes at) = bytes
type_from (flag k) = keyword_text word.Void
type_from (pair (word_node word.Map at) (pair k v)) = keyword_text word.Map ++ (codes "<" ++ (type_from k ++ (codes ", " ++ (type_from v ++ codes ">"))))
type_from (pair (word_node word.Set at) x) = keyword_text word.Set ++ (codes "<" ++ (type_from x ++ codes ">"))
type_from (pair (word_node word.List at) x) = keyword_text word.List ++ (codes "<" ++ (type_from x ++ codes ">"))
type_from x = []

abbrev TypeIs : TypeTree → Type 0
TypeIs t = type_text t ≡ type_from (without_places (type_node t))

type_layer : (y : TypeTree-F ((t : TypeTree) × TypeIs t))
    → type_text_step (map-TypeTree TypeTree (List ℕ) type_text (map-TypeTree ((t : TypeTree) × TypeIs t) TypeTree (λ e. e.0) y))
    ≡ type_from (without_places (type_step (map-TypeTree TypeTree Node type_node (map-TypeTree ((t : TypeTree) × TypeIs t) TypeTree (λ e. e.0) y))))
type_layer (of_type.Base at b) = refl
type_layer (of_type.Named name) = refl
type_layer (of_type.Map at k v) = λ i. keyword_text word.Map ++ (codes "<" ++ (k.value.1 i ++ (codes ", " ++ (v.value.1 i ++ codes ">"))))
type_layer (of_type.Set at x) = λ i. keyword_text word.Set ++ (codes "<" ++ (x.value.1 i ++ codes ">"))
type_layer (of_type.List at x) = λ i. keyword_text word.List ++ (codes "<" ++ (x.value.1 i ++ codes ">"))

type_is : (t : TypeTree) → TypeIs t
type_is = ind-TypeTree TypeIs (λ x y is.
    fold-roll-TypeTree (List ℕ) type_text_step x
    ∙ subst (λ z. type_text_step (map-TypeTree TypeTree (List ℕ) type_text z) ≡ type_from (without_places (type_step (map-TypeTree TypeTree Node type_node z)))) is (type_layer y)
    ∙ sym (ap (λ n. type_from (without_places n)) (fold-roll-TypeTree Node type_step x)))

-- values
abbrev leaf_text : Terminal → List ℕ → List ℕ
leaf_text word.Literal bytes = literal_text bytes
leaf_text k bytes = bytes

abbrev mutual
  value_from : Node → List ℕ
  value_from (number z at) = decimal_of z
  value_from (leaf k bytes at) = leaf_text k bytes
  value_from (pair (word_node word.OpenBracket at) items) = codes "[" ++ (separated (values_from items) ++ codes "]")
  value_from (pair (word_node word.OpenBrace at) pairs) = codes "{" ++ (separated_pairs (pairs_from pairs) ++ codes "}")
  value_from x = []

  values_from : Node → List (List ℕ)
  values_from (pair x xs) = value_from x ∷ values_from xs
  values_from x = []

  pairs_from : Node → List (List ℕ × List ℕ)
  pairs_from (pair (pair k v) xs) = (value_from k, value_from v) ∷ pairs_from xs
  pairs_from x = []

abbrev ValueIs : ConstTree → Type 0
ValueIs v = value_text v ≡ value_from (without_places (value_node v))

values_are : (es : List ((v : ConstTree) × ValueIs v))
    → map value_text (map (λ e. e.0) es) ≡ values_from (without_places (row (map value_node (map (λ e. e.0) es))))
values_are [] = refl
values_are (e ∷ es) = λ i. e.1 i ∷ values_are es i

pairs_are : (es : List (((v : ConstTree) × ValueIs v) × ((v : ConstTree) × ValueIs v)))
    → map both_texts (map (λ p. (p.0.0, p.1.0)) es) ≡ pairs_from (without_places (pair_row (map both_nodes (map (λ p. (p.0.0, p.1.0)) es))))
pairs_are [] = refl
pairs_are (e ∷ es) = λ i. (e.0.1 i, e.1.1 i) ∷ pairs_are es i

value_layer : (y : ConstTree-F ((v : ConstTree) × ValueIs v))
    → value_text_step (map-ConstTree ConstTree (List ℕ) value_text (map-ConstTree ((v : ConstTree) × ValueIs v) ConstTree (λ e. e.0) y))
    ≡ value_from (without_places (value_step (map-ConstTree ConstTree Node value_node (map-ConstTree ((v : ConstTree) × ValueIs v) ConstTree (λ e. e.0) y))))
value_layer (of_value.Int int) = refl
value_layer (of_value.Double double) = refl
value_layer (of_value.Literal literal) = refl
value_layer (of_value.Name name) = refl
value_layer (of_value.List at items) = λ i. codes "[" ++ (separated (values_are items.items i) ++ codes "]")
value_layer (of_value.Map at pairs) = λ i. codes "{" ++ (separated_pairs (pairs_are pairs.items i) ++ codes "}")

value_is : (v : ConstTree) → ValueIs v
value_is = ind-ConstTree ValueIs (λ x y is.
    fold-roll-ConstTree (List ℕ) value_text_step x
    ∙ subst (λ z. value_text_step (map-ConstTree ConstTree (List ℕ) value_text z) ≡ value_from (without_places (value_step (map-ConstTree ConstTree Node value_node z)))) is (value_layer y)
    ∙ sym (ap (λ n. value_from (without_places n)) (fold-roll-ConstTree Node value_step x)))

-- names and fields
abbrev name_from : Node → List ℕ
name_from (leaf k bytes at) = bytes
name_from x = []

abbrev id_from : Node → List ℕ
id_from (number z at) = decimal_of z ++ codes ": "
id_from x = []

abbrev need_from : Node → List ℕ
need_from (given (flag word.Required)) = spaced_word word.Required
need_from (given (flag word.Optional)) = spaced_word word.Optional
need_from x = []

abbrev default_from : Node → List ℕ
default_from x = codes " = " ++ value_from x

abbrev field_from : Node → List ℕ
field_from (placed at (pair id (pair need (pair type (pair name default))))) =
    maybe_from id_from id ++ (need_from need ++ (type_from type ++ (codes " " ++ (name_from name ++ maybe_from default_from default))))
field_from x = []

need_is : (n : Need) → need_text n ≡ need_from (without_places (need_node n))
need_is need.Default = refl
need_is need.Required = refl
need_is need.Optional = refl

field_is : (f : Field) → field_text f ≡ field_from (without_places (field_node f))
unfolding field_text typed_text field_node
field_is f = λ i.
    maybe_is int_node id_text id_from (λ n. refl) f.id i ++ (need_is f.need i ++ (type_is f.kind i ++ (codes " " ++ (f.name.text
    ++ maybe_is value_node default_text default_from (λ v. ap (λ t. codes " = " ++ t) (value_is v)) f.default i))))

-- functions
abbrev oneway_from : Node → List ℕ
oneway_from (given x) = spaced_word word.Oneway
oneway_from x = []

abbrev arguments_from : Node → List ℕ
arguments_from x = codes "(" ++ (separated (texts_from field_from x) ++ codes ")")

abbrev throws_from : Node → List ℕ
throws_from x = codes " " ++ (spaced_word word.Throws ++ arguments_from x)

abbrev function_from : Node → List ℕ
function_from (placed at (pair oneway (pair result (pair name (pair arguments throws))))) =
    oneway_from oneway ++ (type_from result ++ (codes " " ++ (name_from name ++ (arguments_from arguments ++ maybe_from throws_from throws))))
function_from x = []

oneway_is : (b : Bool) → oneway_text b ≡ oneway_from (without_places (oneway_node b))
oneway_is false = refl
oneway_is true = refl

result_is : (r : Option TypeTree) → result_text r ≡ type_from (without_places (result_node r))
result_is None = refl
result_is (Some t) = type_is t

arguments_are : (fields : List Field) → arguments_text fields ≡ arguments_from (without_places (fields_node fields))
arguments_are fields = ap (λ t. codes "(" ++ (separated t ++ codes ")")) (texts_are field_node field_text field_from field_is fields)

function_is : (f : Function) → function_text f ≡ function_from (without_places (function_node f))
unfolding function_text signature_text function_node
function_is f = λ i.
    oneway_is f.oneway i ++ (result_is f.result i ++ (codes " " ++ (f.name.text ++ (arguments_are f.arguments.items i
    ++ maybe_is (λ v. fields_node v.items) (λ v. throws_text v.items) throws_from (λ v. ap (λ t. codes " " ++ (spaced_word word.Throws ++ t)) (arguments_are v.items)) f.throws i))))

-- definitions
abbrev number_from : Node → List ℕ
number_from (number z at) = codes " = " ++ decimal_of z
number_from x = []

abbrev enum_value_from : Node → List ℕ
enum_value_from (pair name n) = inner_line (name_from name ++ maybe_from number_from n)
enum_value_from x = []

enum_value_is : (v : EnumValue) → enum_value_line v ≡ enum_value_from (without_places (enum_value_node v))
unfolding enum_value_text enum_value_node
enum_value_is v = λ i. inner_line (v.name.text ++ maybe_is int_node number_text number_from (λ n. refl) v.number i)

abbrev field_line_from : Node → List ℕ
field_line_from x = inner_line (field_from x)

abbrev function_line_from : Node → List ℕ
function_line_from x = inner_line (function_from x)

abbrev struct_from : List ℕ → Node → List ℕ
struct_from first (pair name fields) = line_end ++ (first ++ (name_from name ++ (opening_line ++ (lines_from field_line_from fields ++ closing_line))))
struct_from first x = []

abbrev parent_from : Node → List ℕ
parent_from x = codes " " ++ (spaced_word word.Extends ++ name_from x)

abbrev body_from : Terminal → Node → List ℕ
body_from word.Const (pair type (pair name value)) = spaced_word word.Const ++ (type_from type ++ (codes " " ++ (name_from name ++ (codes " = " ++ (value_from value ++ line_end)))))
body_from word.Typedef (pair type name) = spaced_word word.Typedef ++ (type_from type ++ (codes " " ++ (name_from name ++ line_end)))
body_from word.Enum (pair name values) = line_end ++ (spaced_word word.Enum ++ (name_from name ++ (opening_line ++ (lines_from enum_value_from values ++ closing_line))))
body_from word.Struct x = struct_from (spaced_word word.Struct) x
body_from word.Union x = struct_from (spaced_word word.Union) x
body_from word.Exception x = struct_from (spaced_word word.Exception) x
body_from word.Service (pair name (pair parent functions)) =
    line_end ++ (spaced_word word.Service ++ (name_from name ++ (maybe_from parent_from parent ++ (opening_line ++ (lines_from function_line_from functions ++ closing_line)))))
body_from k x = []

abbrev definition_from : Node → List ℕ
definition_from (pair (word_node k at) x) = body_from k x
definition_from x = []

struct_word_is : (k : StructKind) (x : Node) → struct_from (struct_word_text k) x ≡ body_from (struct_word_of k) x
struct_word_is kind.Struct x = refl
struct_word_is kind.Union x = refl
struct_word_is kind.Exception x = refl

definition_is : (d : Definition) → definition_text d ≡ definition_from (without_places (definition_node d))
unfolding definition_text definition_node const_text const_node typedef_text typedef_node enum_text enum_node struct_text struct_node service_text service_node
definition_is (definition.Const c) = λ i. spaced_word word.Const ++ (type_is c.kind i ++ (codes " " ++ (c.name.text ++ (codes " = " ++ (value_is c.value i ++ line_end)))))
definition_is (definition.Typedef t) = λ i. spaced_word word.Typedef ++ (type_is t.kind i ++ (codes " " ++ (t.name.text ++ line_end)))
definition_is (definition.Enum e) = λ i.
    line_end ++ (spaced_word word.Enum ++ (e.name.text ++ (opening_line ++ (lines_are enum_value_node enum_value_line enum_value_from enum_value_is e.values.items i ++ closing_line))))
definition_is (definition.Struct s) =
    (λ i. line_end ++ (struct_word_text s.kind ++ (s.name.text ++ (opening_line
    ++ (lines_are field_node field_line field_line_from (λ f. ap inner_line (field_is f)) s.fields.items i ++ closing_line)))))
    ∙ struct_word_is s.kind (without_places (pair (name_node s.name) (fields_node s.fields.items)))
definition_is (definition.Service s) = λ i.
    line_end ++ (spaced_word word.Service ++ (s.name.text ++ (maybe_is name_node parent_text parent_from (λ n. refl) s.parent i ++ (opening_line
    ++ (lines_are function_node function_line function_line_from (λ f. ap inner_line (function_is f)) s.functions.items i ++ closing_line)))))

-- documents
abbrev include_from : Node → List ℕ
include_from (pair x (leaf k bytes at)) = spaced_word word.Include ++ (literal_text bytes ++ line_end)
include_from x = []

include_is : (n : Include) → include_line n ≡ include_from (without_places (include_node n))
unfolding include_line include_node
include_is n = refl

abbrev document_from : Node → List ℕ
document_from (pair includes definitions) = lines_from include_from includes ++ lines_from definition_from definitions
document_from x = []

document_is : (d : Document) → printed d ≡ document_from (without_places (document_node d))
unfolding printed document_node
document_is d = λ i.
    lines_are include_node include_line include_from include_is d.includes.items i
    ++ lines_are definition_node definition_text definition_from definition_is d.definitions.items i

-- so documents with one tree, places aside, have one text
pub one_text : (d e : Document) → without_places (document_node d) ≡ without_places (document_node e) → printed d ≡ printed e
one_text d e same = document_is d ∙ ap document_from same ∙ sym (document_is e)
