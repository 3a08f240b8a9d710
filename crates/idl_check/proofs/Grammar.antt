-- Each phrase of the grammar keeps names as they are, and no more of a symbol than one leaf.
use Rattle.std.proofs.Common.{◌≡◌, ℕ, zero, suc, ◌+◌, ◌-◌, ◌≤◌, Bool, true, false, if◌then◌else◌, ◌==◌, List, [], ◌∷◌, length, take, drop, sym, subst, length-take, length-drop, arith}
use Rattle.std.proofs.lemmas.Bool.{eqb-true}
use Rattle.idl_token.specs.declared.terminal.Terminal.{Terminal}
use Rattle.idl_token.specs.declared.terminal.Terminal.TheVariants as word
use Rattle.idl_token.specs.Terminals.{code, same}
use Rattle.idl_parser.specs.Phrases.{Node, none, word as word_node, flag, text, number, given, pair, placed, Phrase}
use Rattle.idl_parser.specs.Leaves.{unescaped, literal_bytes, no_leaf, word_leaf, text_leaf, literal_leaf, number_leaf, flag_leaf, neither, left_tree, right_tree, dropped}
use Rattle.idl_parser.specs.Parts.{separator, annotation_value, annotation_entry, annotation, annotated}
use Rattle.idl_parser.specs.Types.{base, cpp_type, map_type_rest, set_type_rest, list_type_rest, container, no_container, bare_or, inner_type, bare_type, type_of}
use Rattle.idl_parser.specs.Constants.{list_item, list_value_rest, map_entry, map_value_rest, collection, no_collection, leaf_or, inner_value, value_of}
use Rattle.idl_parser.specs.Fields.{field_id, field_need, field_default, field_ending, field, fields}
use Rattle.idl_parser.specs.Definitions.{constant_rest, typedef_rest, enum_number, enum_value, closing, enum_rest, struct_word, struct_rest, fields_in_parentheses, oneway, result_type, throws, function, parent, service_rest, bare_definition, definition}
use Rattle.idl_parser.specs.Documents.{namespace_rest, header, with_header, document}
use Rattle.idl_check.proofs.Leaves.{HasTexts, leaves, KeepsOne, KeepsBoth, KeepsPart, Keeps}

-- two symbols that are a third one
same_through : (a k : Terminal) → same a k ≡ true → same k word.Identifier ≡ true → same a word.Identifier ≡ true
same_through a k is e = subst (λ n. (n == 0) ≡ true) (sym (eqb-true (code a) (code k) is)) e

-- a literal stands for no more bytes than it has
unescaped_short : (taken : Bool) (bytes : List ℕ) → length (unescaped taken bytes) ≤ length bytes
unescaped_short true [] = omega arith
unescaped_short false [] = omega arith
unescaped_short true (b ∷ bytes) = let rest = unescaped_short false bytes in omega arith
unescaped_short false (b ∷ bytes) = escape_short (b == 92) b bytes (unescaped_short true bytes) (unescaped_short false bytes)
  where
    escape_short : (is : Bool) (b : ℕ) (bytes : List ℕ) → length (unescaped true bytes) ≤ length bytes → length (unescaped false bytes) ≤ length bytes
        → length (if is then unescaped true bytes else b ∷ unescaped false bytes) ≤ suc (length bytes)
    escape_short true b bytes l r = omega arith
    escape_short false b bytes l r = omega arith

literal_short : (bytes : List ℕ) → length (literal_bytes bytes) ≤ length bytes
unfolding literal_bytes
literal_short bytes =
    let inside = take (length bytes - 2) (drop 1 bytes) in
    omega (arith, unescaped_short false inside, length-take (length bytes - 2) (drop 1 bytes), length-drop 1 bytes)

-- what is kept of a symbol
no_sign : (k : Terminal) → KeepsOne k no_leaf
no_sign k = record { names = λ t is h. tt; few = λ t. omega arith }

a_word : (k : Terminal) → KeepsOne k (word_leaf k)
a_word k = record { names = λ t is h. tt; few = λ t. omega arith }

a_flag : (k : Terminal) → KeepsOne k (flag_leaf k)
a_flag k = record { names = λ t is h. tt; few = λ t. omega arith }

a_number : (k : Terminal) → KeepsOne k number_leaf
a_number k = record { names = λ t is h. tt; few = λ t. omega arith }

a_text : (k : Terminal) → KeepsOne k (text_leaf k)
a_text k = record { names = λ t is h. (λ name. h.0 (same_through t.what k is name), h.1); few = λ t. omega arith }

a_literal : KeepsOne word.Literal (literal_leaf word.Literal)
a_literal = record { names = λ t is h. (λ name. cc, omega (arith, literal_short t.bytes, h.1)); few = λ t. omega arith }

-- what is made of trees
in_pair : KeepsBoth pair
in_pair = record { names = λ a b h k. (h, k); few = λ a b. omega arith }

of_neither : KeepsBoth neither
of_neither = record { names = λ a b h k. tt; few = λ a b. omega arith }

of_left : KeepsBoth left_tree
of_left = record { names = λ a b h k. h; few = λ a b. omega arith }

of_right : KeepsBoth right_tree
of_right = record { names = λ a b h k. k; few = λ a b. omega arith }

header_names : (a b : Node) → HasTexts a → HasTexts b → HasTexts (with_header a b)
header_names none b h k = k
header_names (word_node j at) b h k = (h, k)
header_names (flag j) b h k = (h, k)
header_names (text j bytes at) b h k = (h, k)
header_names (number z at) b h k = (h, k)
header_names (given x) b h k = (h, k)
header_names (pair x y) b h k = (h, k)
header_names (placed at x) b h k = (h, k)

header_few : (a b : Node) → leaves (with_header a b) ≤ leaves a + leaves b
header_few none b = omega arith
header_few (word_node j at) b = omega arith
header_few (flag j) b = omega arith
header_few (text j bytes at) b = omega arith
header_few (number z at) b = omega arith
header_few (given x) b = omega arith
header_few (pair x y) b = omega arith
header_few (placed at x) b = omega arith

of_header : KeepsBoth with_header
of_header = record { names = header_names; few = header_few }

in_given : KeepsPart given
in_given = record { names = λ a h. h; few = λ a. omega arith }

of_none : KeepsPart dropped
of_none = record { names = λ a h. tt; few = λ a. omega arith }

-- parts
keeps_separator : Keeps separator
unfolding separator
keeps_separator = (of_none, (no_sign _, no_sign _))

keeps_annotation_value : Keeps annotation_value
unfolding annotation_value
keeps_annotation_value = (of_none, (of_neither, no_sign _, no_sign _))

keeps_annotation_entry : Keeps annotation_entry
unfolding annotation_entry
keeps_annotation_entry = (of_neither, no_sign _, (of_neither, keeps_annotation_value, keeps_separator))

keeps_annotation : Keeps annotation
unfolding annotation
keeps_annotation = (of_none, (of_neither, no_sign _, (of_neither, (of_neither, keeps_annotation_entry), no_sign _)))

keeps_annotated : (p : Phrase) → Keeps p → Keeps (annotated p)
keeps_annotated p h = (of_left, h, keeps_annotation)

-- types
keeps_base : Keeps base
unfolding base
keeps_base = (a_word _, (a_word _, (a_word _, (a_word _, (a_word _, (a_word _, (a_word _, (a_word _, (a_word _, a_word _)))))))))

keeps_cpp_type : Keeps cpp_type
unfolding cpp_type
keeps_cpp_type = (of_none, (of_neither, no_sign _, no_sign _))

keeps_map_type : (inner : Phrase) → Keeps inner → Keeps (map_type_rest inner)
unfolding map_type_rest
keeps_map_type inner h = (of_right, keeps_cpp_type, (of_right, no_sign _, (in_pair, h, (of_right, no_sign _, (of_left, h, no_sign _)))))

keeps_set_type : (inner : Phrase) → Keeps inner → Keeps (set_type_rest inner)
unfolding set_type_rest
keeps_set_type inner h = (of_right, keeps_cpp_type, (of_right, no_sign _, (of_left, h, no_sign _)))

keeps_list_type : (inner : Phrase) → Keeps inner → Keeps (list_type_rest inner)
unfolding list_type_rest
keeps_list_type inner h = (of_right, keeps_cpp_type, (of_right, no_sign _, (of_left, h, (of_neither, no_sign _, keeps_cpp_type))))

keeps_container : (inner : Phrase) → Keeps inner → Keeps (container inner)
unfolding container
keeps_container inner h =
    ((in_pair, a_word _, keeps_map_type inner h), ((in_pair, a_word _, keeps_set_type inner h), (in_pair, a_word _, keeps_list_type inner h)))

keeps_bare : (other : Phrase) → Keeps other → Keeps (bare_or other)
keeps_bare other h = (keeps_base, (a_text _, h))

keeps_inner_type : (levels : ℕ) → Keeps (inner_type levels)
unfolding inner_type no_container
keeps_inner_type zero = (tt, (tt, tt))
keeps_inner_type (suc levels) =
    keeps_container (annotated (bare_or (inner_type levels))) (keeps_annotated (bare_or (inner_type levels)) (keeps_bare (inner_type levels) (keeps_inner_type levels)))

keeps_type : (levels : ℕ) → Keeps (type_of levels)
unfolding type_of bare_type
keeps_type levels = keeps_annotated (bare_or (inner_type levels)) (keeps_bare (inner_type levels) (keeps_inner_type levels))

-- values
keeps_list_item : (inner : Phrase) → Keeps inner → Keeps (list_item inner)
unfolding list_item
keeps_list_item inner h = (of_left, h, keeps_separator)

keeps_list_value : (inner : Phrase) → Keeps inner → Keeps (list_value_rest inner)
unfolding list_value_rest
keeps_list_value inner h = (of_left, (in_pair, keeps_list_item inner h), no_sign _)

keeps_map_entry : (inner : Phrase) → Keeps inner → Keeps (map_entry inner)
unfolding map_entry
keeps_map_entry inner h = (in_pair, h, (of_right, no_sign _, (of_left, h, keeps_separator)))

keeps_map_value : (inner : Phrase) → Keeps inner → Keeps (map_value_rest inner)
unfolding map_value_rest
keeps_map_value inner h = (of_left, (in_pair, keeps_map_entry inner h), no_sign _)

keeps_collection : (inner : Phrase) → Keeps inner → Keeps (collection inner)
unfolding collection
keeps_collection inner h = ((in_pair, a_word _, keeps_list_value inner h), (in_pair, a_word _, keeps_map_value inner h))

keeps_leaf : (other : Phrase) → Keeps other → Keeps (leaf_or other)
keeps_leaf other h = (a_number _, (a_text _, (a_literal, (a_text _, h))))

keeps_inner_value : (levels : ℕ) → Keeps (inner_value levels)
unfolding inner_value no_collection
keeps_inner_value zero = (tt, tt)
keeps_inner_value (suc levels) = keeps_collection (leaf_or (inner_value levels)) (keeps_leaf (inner_value levels) (keeps_inner_value levels))

keeps_value : (levels : ℕ) → Keeps (value_of levels)
unfolding value_of
keeps_value levels = keeps_leaf (inner_value levels) (keeps_inner_value levels)

-- fields
keeps_field_id : Keeps field_id
unfolding field_id
keeps_field_id = (in_given, (of_left, a_number _, no_sign _))

keeps_field_need : Keeps field_need
unfolding field_need
keeps_field_need = (in_given, (a_flag _, a_flag _))

keeps_field_default : (levels : ℕ) → Keeps (field_default levels)
unfolding field_default
keeps_field_default levels = (in_given, (of_right, no_sign _, keeps_value levels))

keeps_field_ending : Keeps field_ending
unfolding field_ending
keeps_field_ending = (of_neither, keeps_annotation, keeps_separator)

keeps_field : (levels : ℕ) → Keeps (field levels)
unfolding field
keeps_field levels =
    (in_pair, keeps_field_id, (in_pair, keeps_field_need, (in_pair, keeps_type levels, (in_pair, a_text _, (of_left, keeps_field_default levels, keeps_field_ending)))))

keeps_fields : (levels : ℕ) → Keeps (fields levels)
unfolding fields
keeps_fields levels = (in_pair, keeps_field levels)

-- definitions
keeps_constant : (levels : ℕ) → Keeps (constant_rest levels)
unfolding constant_rest
keeps_constant levels = (in_pair, keeps_type levels, (in_pair, a_text _, (of_right, no_sign _, keeps_value levels)))

keeps_typedef : (levels : ℕ) → Keeps (typedef_rest levels)
unfolding typedef_rest
keeps_typedef levels = (in_pair, keeps_type levels, (of_left, a_text _, keeps_annotation))

keeps_enum_number : Keeps enum_number
unfolding enum_number
keeps_enum_number = (in_given, (of_right, no_sign _, a_number _))

keeps_enum_value : Keeps enum_value
unfolding enum_value
keeps_enum_value = (in_pair, a_text _, (of_left, keeps_enum_number, keeps_field_ending))

keeps_closing : Keeps closing
unfolding closing
keeps_closing = (of_neither, no_sign _, keeps_annotation)

keeps_enum : Keeps enum_rest
unfolding enum_rest
keeps_enum = (in_pair, a_text _, (of_right, no_sign _, (of_left, (in_pair, keeps_enum_value), keeps_closing)))

keeps_struct_word : Keeps struct_word
unfolding struct_word
keeps_struct_word = (a_word _, (a_word _, a_word _))

keeps_struct : (levels : ℕ) → Keeps (struct_rest levels)
unfolding struct_rest
keeps_struct levels = (in_pair, a_text _, (of_right, no_sign _, (of_left, keeps_fields levels, keeps_closing)))

keeps_parentheses : (levels : ℕ) → Keeps (fields_in_parentheses levels)
unfolding fields_in_parentheses
keeps_parentheses levels = (of_right, no_sign _, (of_left, keeps_fields levels, no_sign _))

keeps_oneway : Keeps oneway
unfolding oneway
keeps_oneway = (in_given, a_flag _)

keeps_result : (levels : ℕ) → Keeps (result_type levels)
unfolding result_type
keeps_result levels = (a_flag _, keeps_type levels)

keeps_throws : (levels : ℕ) → Keeps (throws levels)
unfolding throws
keeps_throws levels = (in_given, (of_right, no_sign _, keeps_parentheses levels))

keeps_function : (levels : ℕ) → Keeps (function levels)
unfolding function
keeps_function levels =
    (in_pair, keeps_oneway, (in_pair, keeps_result levels, (in_pair, a_text _, (in_pair, keeps_parentheses levels, (of_left, keeps_throws levels, keeps_field_ending)))))

keeps_parent : Keeps parent
unfolding parent
keeps_parent = (in_given, (of_right, no_sign _, a_text _))

keeps_service : (levels : ℕ) → Keeps (service_rest levels)
unfolding service_rest
keeps_service levels = (in_pair, a_text _, (in_pair, keeps_parent, (of_right, no_sign _, (of_left, (in_pair, keeps_function levels), keeps_closing))))

keeps_bare_definition : (levels : ℕ) → Keeps (bare_definition levels)
unfolding bare_definition
keeps_bare_definition levels = (
  (in_pair, a_word _, keeps_constant levels),
  (
    (in_pair, a_word _, keeps_typedef levels),
    ((in_pair, a_word _, keeps_enum), ((in_pair, keeps_struct_word, keeps_struct levels), (in_pair, a_word _, keeps_service levels))),
  ),
)

keeps_definition : (levels : ℕ) → Keeps (definition levels)
unfolding definition
keeps_definition levels = (of_left, keeps_bare_definition levels, keeps_separator)

-- documents
keeps_namespace : Keeps namespace_rest
unfolding namespace_rest
keeps_namespace = (of_neither, (no_sign _, no_sign _), (of_neither, no_sign _, keeps_annotation))

keeps_header : Keeps header
unfolding header
keeps_header = ((in_pair, a_word _, a_literal), ((of_neither, no_sign _, no_sign _), (of_neither, no_sign _, keeps_namespace)))

pub keeps_document : (levels : ℕ) → Keeps (document levels)
unfolding document
keeps_document levels = (in_pair, (of_header, keeps_header), (in_pair, keeps_definition levels))
