-- What the tree of a document in memory keeps, said of what the document declares.
use Rattle.std.proofs.Common.{Vec, Global, ◌≡◌, suc, ◌≤◌, List, [], ◌∷◌, map, length, Option, Some, None, refl, ap, arith}
use Rattle.std.specs.Option.{option_map}
use Rattle.std.specs.List.{AllByRecursion}
use Rattle.idl_parser.specs.declared.tree.Field.{Field}
use Rattle.idl_parser.specs.declared.tree.Function.{Function}
use Rattle.idl_parser.specs.declared.tree.EnumValue.{EnumValue}
use Rattle.idl_parser.specs.declared.tree.Definition.{Definition}
use Rattle.idl_parser.specs.declared.tree.Definition.TheVariants as definition
use Rattle.idl_parser.specs.declared.tree.Document.{Document}
use Rattle.idl_parser.specs.Phrases.{Node}
use Rattle.idl_parser.specs.Trees.{row, maybe_node, field_node, fields_node, function_node, const_node, typedef_node, enum_value_node, enum_node, struct_node, service_node, definition_node, definitions_node, document_node}
use Rattle.idl_include.specs.DeclaredIn.{field_in, throws_in, function_in, enum_value_in, definition_in, definitions_in}
use Rattle.idl_check.specs.DeclaredTexts.{IsFieldNamed, IsFunctionNamed, IsValueNamed, IsNamed, function_count, item_count}
use Rattle.idl_check.proofs.Leaves.{HasTexts, leaves}

-- what holds of the trees of a row holds of what they are read as
pub row_names : {A B : Type 0} (tree : A → Node) (of : A → B) (Q : B → Type 0) → ((x : A) → HasTexts (tree x) → Q (of x)) → (xs : List A)
    → HasTexts (row (map tree xs)) → AllByRecursion Q (map of xs)
row_names tree of Q by [] h = tt
row_names tree of Q by (x ∷ xs) h = (by x h.0, row_names tree of Q by xs h.1)

-- a row has a leaf for each tree
row_leaves : {A : Type 0} (tree : A → Node) → ((x : A) → 1 ≤ leaves (tree x)) → (xs : List A) → length xs ≤ leaves (row (map tree xs))
row_leaves tree some [] = omega arith
row_leaves tree some (x ∷ xs) = omega (arith, some x, row_leaves tree some xs)

same_length : {A B : Type 0} (f : A → B) (xs : List A) → length (map f xs) ≡ length xs
same_length f [] = refl
same_length f (x ∷ xs) = ap suc (same_length f xs)

field_named : (f : Field) → HasTexts (field_node f) → IsFieldNamed (field_in f)
unfolding field_node field_in
field_named f h = h.1.1.1.0.0 refl

fields_named : (fs : List Field) → HasTexts (fields_node fs) → AllByRecursion IsFieldNamed (map field_in fs)
fields_named fs h = row_names field_node field_in IsFieldNamed field_named fs h

throws_named : (o : Option (Vec Field Global)) → HasTexts (maybe_node (λ v. fields_node v.items) o) → AllByRecursion IsFieldNamed (throws_in (option_map (λ v. v.items) o))
throws_named None h = tt
throws_named (Some v) h = fields_named v.items h

function_named : (f : Function) → HasTexts (function_node f) → IsFunctionNamed (function_in f)
unfolding function_node function_in
function_named f h = (h.1.1.0.0 refl, fields_named f.arguments.items h.1.1.1.0, throws_named f.throws h.1.1.1.1)

function_has_leaves : (f : Function) → 1 ≤ leaves (function_node f)
unfolding function_node
function_has_leaves f = omega arith

value_named : (v : EnumValue) → HasTexts (enum_value_node v) → IsValueNamed (enum_value_in v)
unfolding enum_value_node
value_named v h = h.0.0 refl

definition_named : (d : Definition) → HasTexts (definition_node d) → IsNamed (definition_in d)
unfolding definition_node const_node typedef_node enum_node struct_node service_node definition_in
definition_named (definition.Const c) h = h.1.1.0.0 refl
definition_named (definition.Typedef t) h = h.1.1.0 refl
definition_named (definition.Enum e) h = (h.1.0.0 refl, row_names enum_value_node enum_value_in IsValueNamed value_named e.values.items h.1.1)
definition_named (definition.Struct s) h = (h.1.0.0 refl, fields_named s.fields.items h.1.1)
definition_named (definition.Service s) h = (h.1.0.0 refl, row_names function_node function_in IsFunctionNamed function_named s.functions.items h.1.1.1)

definition_leaves : (d : Definition) → suc (function_count (definition_in d)) ≤ leaves (definition_node d)
unfolding definition_node const_node typedef_node enum_node struct_node service_node definition_in
definition_leaves (definition.Const c) = omega arith
definition_leaves (definition.Typedef t) = omega arith
definition_leaves (definition.Enum e) = omega arith
definition_leaves (definition.Struct s) = omega arith
definition_leaves (definition.Service s) =
    omega (arith, row_leaves function_node function_has_leaves s.functions.items, same_length function_in s.functions.items)

definitions_leaves : (ds : List Definition) → item_count (map definition_in ds) ≤ leaves (definitions_node ds)
definitions_leaves [] = omega arith
definitions_leaves (d ∷ ds) = omega (arith, definition_leaves d, definitions_leaves ds)

pub document_named : (d : Document) → HasTexts (document_node d) → AllByRecursion IsNamed (definitions_in d)
unfolding document_node definitions_in
document_named d h = row_names definition_node definition_in IsNamed definition_named d.definitions.items h.1

pub document_leaves : (d : Document) → item_count (definitions_in d) ≤ leaves (document_node d)
unfolding document_node definitions_in
document_leaves d = omega (arith, definitions_leaves d.definitions.items)
