-- The values that a document gives have short literals, where its tree has.
use Rattle.std.proofs.Common.{Vec, Global, List, [], ◌∷◌, map, Option, Some, None, sym, subst, arith}
use Rattle.std.specs.Prelude.{MatchOption, ⊤}
use Rattle.std.specs.Option.{option_map}
use Rattle.std.specs.List.{AllByRecursion}
use Rattle.idl_parser.specs.declared.tree.ConstTree.{ConstTree}
use Rattle.idl_parser.specs.declared.tree.ConstTree.TheOpen.{ConstTree-F}
use Rattle.idl_parser.specs.declared.tree.ConstTree.TheOpen as of_value
use Rattle.idl_parser.specs.declared.tree.ConstTree.TheFolds.{map-ConstTree, fold-roll-ConstTree, ind-ConstTree}
use Rattle.idl_parser.specs.declared.tree.Field.{Field}
use Rattle.idl_parser.specs.declared.tree.Function.{Function}
use Rattle.idl_parser.specs.declared.tree.Definition.{Definition}
use Rattle.idl_parser.specs.declared.tree.Definition.TheVariants as definition
use Rattle.idl_parser.specs.declared.tree.Document.{Document}
use Rattle.idl_parser.specs.Phrases.{Node}
use Rattle.idl_parser.specs.Trees.{row, pair_row, both_nodes, maybe_node, value_step, value_node, field_node, fields_node, function_node, const_node, typedef_node, enum_node, struct_node, service_node, definition_node, document_node}
use Rattle.idl_include.specs.ConstExpr.{ConstExpr}
use Rattle.idl_include.specs.DeclaredIn.{items_in, entries_in, const_level, value_in, field_in, throws_in, function_in, definition_in, definitions_in}
use Rattle.idl_const.specs.ShortLiterals.{HasShortLiterals, HaveItemsShortLiterals, HaveEntriesShortLiterals}
use Rattle.idl_check.specs.DeclaredTexts.{HasShortDefault, HasShortDefaults, HasShortValues}
use Rattle.idl_check.proofs.Leaves.{HasTexts}
use Rattle.idl_check.proofs.DocumentNames.{row_names}

-- values
abbrev IsShort : ConstTree → Type 0
IsShort v = HasTexts (value_node v) → HasShortLiterals (value_in v)

items_short : (es : List ((v : ConstTree) × IsShort v)) → HasTexts (row (map value_node (map (λ e. e.0) es))) → HaveItemsShortLiterals (items_in (map value_in (map (λ e. e.0) es)))
items_short [] h = tt
items_short (e ∷ es) h = (e.1 h.0, items_short es h.1)

abbrev both_in : ConstTree × ConstTree → ConstExpr × ConstExpr
both_in p = (value_in p.0, value_in p.1)

entries_short : (es : List (((v : ConstTree) × IsShort v) × ((v : ConstTree) × IsShort v))) → HasTexts (pair_row (map both_nodes (map (λ p. (p.0.0, p.1.0)) es)))
    → HaveEntriesShortLiterals (entries_in (map both_in (map (λ p. (p.0.0, p.1.0)) es)))
entries_short [] h = tt
entries_short (e ∷ es) h = (e.0.1 h.0.0, e.1.1 h.0.1, entries_short es h.1)

short_layer : (y : ConstTree-F ((v : ConstTree) × IsShort v))
    → HasTexts (value_step (map-ConstTree ConstTree Node value_node (map-ConstTree ((v : ConstTree) × IsShort v) ConstTree (λ e. e.0) y)))
    → HasShortLiterals (const_level (map-ConstTree ConstTree ConstExpr value_in (map-ConstTree ((v : ConstTree) × IsShort v) ConstTree (λ e. e.0) y)))
short_layer (of_value.Int int) h = tt
short_layer (of_value.Double double) h = tt
short_layer (of_value.Literal literal) h = omega (arith, h.1)
short_layer (of_value.Name name) h = tt
short_layer (of_value.List at items) h = items_short items.items h.1
short_layer (of_value.Map at pairs) h = entries_short pairs.items h.1

value_short : (v : ConstTree) → IsShort v
value_short = ind-ConstTree IsShort (λ x y is h.
    subst HasShortLiterals (sym (fold-roll-ConstTree ConstExpr const_level x))
    (subst (λ z. HasTexts (value_step (map-ConstTree ConstTree Node value_node z)) → HasShortLiterals (const_level (map-ConstTree ConstTree ConstExpr value_in z))) is (short_layer y)
    (subst HasTexts (fold-roll-ConstTree Node value_step x) h)))

-- what gives them
default_short : (o : Option ConstTree) → HasTexts (maybe_node value_node o) → MatchOption (option_map value_in o) ⊤ HasShortLiterals
default_short None h = tt
default_short (Some v) h = value_short v h

field_short : (f : Field) → HasTexts (field_node f) → HasShortDefault (field_in f)
unfolding field_node field_in
field_short f h = default_short f.default h.1.1.1.1

fields_short : (fs : List Field) → HasTexts (fields_node fs) → AllByRecursion HasShortDefault (map field_in fs)
fields_short fs h = row_names field_node field_in HasShortDefault field_short fs h

throws_short : (o : Option (Vec Field Global)) → HasTexts (maybe_node (λ v. fields_node v.items) o) → AllByRecursion HasShortDefault (throws_in (option_map (λ v. v.items) o))
throws_short None h = tt
throws_short (Some v) h = fields_short v.items h

function_short : (f : Function) → HasTexts (function_node f) → HasShortDefaults (function_in f)
unfolding function_node function_in
function_short f h = (fields_short f.arguments.items h.1.1.1.0, throws_short f.throws h.1.1.1.1)

definition_short : (d : Definition) → HasTexts (definition_node d) → HasShortValues (definition_in d)
unfolding definition_node const_node typedef_node enum_node struct_node service_node definition_in
definition_short (definition.Const c) h = value_short c.value h.1.1.1
definition_short (definition.Typedef t) h = tt
definition_short (definition.Enum e) h = tt
definition_short (definition.Struct s) h = fields_short s.fields.items h.1.1
definition_short (definition.Service s) h = row_names function_node function_in HasShortDefaults function_short s.functions.items h.1.1.1

pub document_short : (d : Document) → HasTexts (document_node d) → AllByRecursion HasShortValues (definitions_in d)
unfolding document_node definitions_in
document_short d h = row_names definition_node definition_in HasShortValues definition_short d.definitions.items h.1
