-- Definitions, as they are printed.
use Rattle.std.proofs.Common.{◌≡◌, ℕ, Bool, true, false, List, ◌∷◌, ◌++◌, codes, Option, Some, None, refl, sym, ◌∙◌, inl, inr}
use Rattle.std.specs.Global.{Vec}
use Rattle.idl_token.specs.declared.Place.{Place}
use Rattle.idl_token.specs.Spellings.{parted, any}
use Rattle.idl_token.specs.declared.terminal.Terminal.{Terminal}
use Rattle.idl_token.specs.declared.terminal.Terminal.TheVariants as word
use Rattle.idl_parser.specs.declared.tree.Int.{Int}
use Rattle.idl_parser.specs.declared.tree.Name.{Name}
use Rattle.idl_parser.specs.declared.tree.Field.{Field}
use Rattle.idl_parser.specs.declared.tree.TypeTree.{TypeTree}
use Rattle.idl_parser.specs.declared.tree.TypeTree.TheOpen.{TypeTree-F}
use Rattle.idl_parser.specs.declared.tree.TypeTree.TheOpen as of_type
use Rattle.idl_parser.specs.declared.tree.TypeTree.TheFolds.{map-TypeTree, fold_out-TypeTree}
use Rattle.idl_parser.specs.declared.tree.TypeTree.TheViews.{out-TypeTree}
use Rattle.idl_parser.specs.declared.tree.Function.{Function}
use Rattle.idl_parser.specs.declared.tree.Const.{Const}
use Rattle.idl_parser.specs.declared.tree.Typedef.{Typedef}
use Rattle.idl_parser.specs.declared.tree.EnumValue.{EnumValue}
use Rattle.idl_parser.specs.declared.tree.Enum.{Enum}
use Rattle.idl_parser.specs.declared.tree.StructKind.{StructKind}
use Rattle.idl_parser.specs.declared.tree.StructKind.TheVariants as kind
use Rattle.idl_parser.specs.declared.tree.Struct.{Struct}
use Rattle.idl_parser.specs.declared.tree.Service.{Service}
use Rattle.idl_parser.specs.declared.tree.Definition.{Definition}
use Rattle.idl_parser.specs.declared.tree.Definition.TheVariants as variant
use Rattle.idl_parser.specs.Phrases.{Node, word as word_node, flag, text as leaf, pair}
use Rattle.idl_parser.specs.Leaves.{sign}
use Rattle.idl_parser.specs.Parts.{identifier}
use Rattle.idl_parser.specs.Types.{type_of, bare_type}
use Rattle.idl_parser.specs.Definitions.{constant_rest, constant, typedef_rest, typedef, enum_number, enum_value, closing, enum_rest, enumeration, struct_word, struct_rest, structure, oneway, result_type, throws, function, parent, service_rest, service, bare_definition, definition}
use Rattle.idl_parser.specs.Trees.{maybe_node, int_node, name_node, type_step, type_node, fields_node, oneway_node, result_node, function_node, const_node, typedef_node, enum_value_node, enum_node, struct_word_of, struct_node, service_node, definition_node}
use Rattle.idl_printer.specs.Printed.{maybe_text, number_text, opening_line, closing_line, oneway_text, result_text, throws_text, signature_text, function_text, function_line, const_text, typedef_text, enum_value_text, enum_value_line, enum_text, struct_word_text, spaced_word, struct_text, parent_text, service_text, definition_text}
use Rattle.idl_printer.proofs.PrintedPhrases.{Prints, IsWord, IsWordOf, Glue, prints_pair, prints_after, prints_before, prints_quiet, prints_either, prints_never, prints_given, prints_missing, prints_marked, prints_kept, prints_flagged, prints_front, prints_end, prints_lines, sign_word, word_front, word_end, word_quiet, word_of_front, word_of_end}
use Rattle.idl_printer.proofs.PrintedWords.{const_word, typedef_word, enum_word, struct_word as struct_keyword, union_word, exception_word, service_word, extends_word, throws_word, oneway_word, void_word, open_brace_sign, close_brace_sign}
use Rattle.idl_printer.proofs.PrintedLeaves.{prints_identifier, prints_integer}
use Rattle.idl_printer.proofs.PrintedTypes.{inner_is_pair, by_words, no_annotation, other_word, prints_type}
use Rattle.idl_printer.proofs.PrintedValues.{no_separator, prints_value}
use Rattle.idl_printer.proofs.PrintedFields.{no_ending, equals_word, prints_field_lines, prints_arguments}

prints_name : (name : Name) → Prints parted identifier (name_node name) name.text
prints_name name = prints_identifier word.Identifier name.text name.at

prints_const : (levels : ℕ) (c : Const) → Prints any (constant levels) (const_node c) (const_text c)
unfolding constant_rest const_node const_text
prints_const levels c =
    prints_pair (prints_kept word.Const word.Const c.at (word_of_end 32 refl (λ more. refl) const_word))
    (prints_pair (prints_type levels c.kind)
    (prints_front 32 refl (prints_pair (prints_name c.name)
    (prints_after equals_word (prints_end 10 refl (λ more. refl) (prints_value levels c.value)) (λ more q. refl))
    (λ more q. refl)))
    (λ more q. refl))
    (λ more q. refl)

prints_typedef : (levels : ℕ) (t : Typedef) → Prints any (typedef levels) (typedef_node t) (typedef_text t)
unfolding typedef_rest typedef_node typedef_text
prints_typedef levels t =
    prints_pair (prints_kept word.Typedef word.Typedef t.at (word_of_end 32 refl (λ more. refl) typedef_word))
    (prints_pair (prints_type levels t.kind)
    (prints_front 32 refl (prints_end 10 refl (λ more. refl) (prints_quiet (prints_name t.name) no_annotation)))
    (λ more q. refl))
    (λ more q. refl)

opening_word : IsWord any (sign word.OpenBrace) opening_line
opening_word = word_front 32 refl (word_end 10 refl (λ more. refl) (sign_word open_brace_sign))

closing_word : IsWord any closing closing_line
unfolding closing
closing_word = word_end 10 refl (λ more. refl) (word_quiet (sign_word close_brace_sign) no_annotation)

prints_number : (n : Option Int) → Prints parted enum_number (maybe_node int_node n) (maybe_text number_text n)
unfolding enum_number
prints_number None = prints_missing
prints_number (Some n) = prints_given (prints_after equals_word (prints_integer n.value n.at) (λ more q. refl))

glue_number : (n : Option Int) → Glue parted parted (maybe_text number_text n)
glue_number None more q = q
glue_number (Some n) more q = refl

prints_enum_value : (v : EnumValue) → Prints parted enum_value (enum_value_node v) (enum_value_text v)
unfolding enum_value enum_value_node enum_value_text
prints_enum_value v = prints_pair (prints_name v.name) (prints_quiet (prints_number v.number) no_ending) (glue_number v.number)

prints_enum : (e : Enum) → Prints any enumeration (enum_node e) (enum_text e)
unfolding enum_rest enum_node enum_text
prints_enum e =
    prints_pair (prints_kept word.Enum word.Enum e.at (word_of_front 10 refl (word_of_end 32 refl (λ more. refl) enum_word)))
    (prints_pair (prints_name e.name)
    (prints_after opening_word
    (prints_before
    (prints_lines enum_value enum_value_node enum_value_line
    (λ v. prints_front 32 refl (prints_front 32 refl (prints_end 10 refl (λ more. refl) (prints_enum_value v)))) e.values.items)
    closing_word (λ more q. refl))
    (λ more q. refl))
    (λ more q. refl))
    (λ more q. refl)

struct_keyword_of : (k : StructKind) → IsWordOf any (struct_word_of k) (10 ∷ struct_word_text k)
struct_keyword_of kind.Struct = word_of_front 10 refl (word_of_end 32 refl (λ more. refl) struct_keyword)
struct_keyword_of kind.Union = word_of_front 10 refl (word_of_end 32 refl (λ more. refl) union_word)
struct_keyword_of kind.Exception = word_of_front 10 refl (word_of_end 32 refl (λ more. refl) exception_word)

prints_struct : (levels : ℕ) (s : Struct) → Prints any (structure levels) (struct_node s) (struct_text s)
unfolding struct_word struct_rest struct_node struct_text
prints_struct levels s =
    let w = struct_keyword_of s.kind in
    prints_pair
    (prints_either (prints_kept word.Struct (struct_word_of s.kind) s.at w)
    (prints_either (prints_kept word.Union (struct_word_of s.kind) s.at w) (prints_kept word.Exception (struct_word_of s.kind) s.at w)))
    (prints_pair (prints_name s.name)
    (prints_after opening_word (prints_before (prints_field_lines levels s.fields.items) closing_word (λ more q. refl)) (λ more q. refl))
    (λ more q. refl))
    (λ more q. refl)

prints_oneway : (b : Bool) → Prints any oneway (oneway_node b) (oneway_text b)
unfolding oneway
prints_oneway false = prints_missing
prints_oneway true = prints_given (prints_flagged word.Oneway word.Oneway (word_of_end 32 refl (λ more. refl) oneway_word))

-- the tree of a type is no flag
layer_no_flag : (k : Terminal) (y : TypeTree-F TypeTree) → type_step (map-TypeTree TypeTree Node type_node y) ≡ flag k → ⊥
layer_no_flag k (of_type.Base at b) e = cc
layer_no_flag k (of_type.Named name) e = cc
layer_no_flag k (of_type.Map at a b) e = cc
layer_no_flag k (of_type.Set at a) e = cc
layer_no_flag k (of_type.List at a) e = cc

type_no_flag : (k : Terminal) (x : TypeTree) → type_node x ≡ flag k → ⊥
type_no_flag k x e = layer_no_flag k (out-TypeTree x) (sym (fold_out-TypeTree Node type_step x) ∙ e)

-- and a flag is the tree of no type
flag_no_type : {P : List ℕ → Bool} {text : List ℕ} (levels : ℕ) (k : Terminal) → Prints P (type_of levels) (flag k) text
unfolding type_of bare_type
flag_no_type {P} {text} levels k = prints_quiet {P = P} {text = text}
    (prints_either (by_words (λ j. prints_never (λ ts rest h. let e : flag k ≡ word_node j h.0.place = h.3 in cc)))
    (prints_either (prints_never (λ ts rest h. let e : flag k ≡ leaf word.Identifier h.0.bytes h.0.place = h.3 in cc))
    (prints_never (λ ts rest h. inner_is_pair levels ts (flag k) rest h))))
    no_annotation

prints_result : (levels : ℕ) (r : Option TypeTree) → Prints parted (result_type levels) (result_node r) (result_text r)
unfolding result_type
prints_result levels None = prints_either (prints_flagged word.Void word.Void void_word) (flag_no_type levels word.Void)
prints_result levels (Some t) = prints_either (prints_never (λ ts rest h. type_no_flag word.Void t h.3)) (prints_type levels t)

throws_keyword : IsWord any (sign word.Throws) (codes " " ++ spaced_word word.Throws)
throws_keyword = word_front 32 refl (word_end 32 refl (λ more. refl) (sign_word throws_word))

prints_throws : (levels : ℕ) (t : Option (Vec Field)) → Prints any (throws levels) (maybe_node (λ v. fields_node v.items) t) (maybe_text (λ v. throws_text v.items) t)
unfolding throws
prints_throws levels None = prints_missing
prints_throws levels (Some v) = prints_given (prints_after throws_keyword (prints_arguments levels v.items) (λ more q. refl))

prints_function : (levels : ℕ) (f : Function) → Prints any (function levels) (function_node f) (function_text f)
unfolding function function_node function_text signature_text
prints_function levels f =
    prints_marked f.at
    (prints_pair (prints_oneway f.oneway)
    (prints_pair (prints_result levels f.result)
    (prints_front 32 refl (prints_pair (prints_name f.name)
    (prints_pair (prints_arguments levels f.arguments.items) (prints_quiet (prints_throws levels f.throws) no_ending) (λ more q. refl))
    (λ more q. refl)))
    (λ more q. refl))
    (λ more q. refl))

prints_parent : (p : Option Name) → Prints parted parent (maybe_node name_node p) (maybe_text parent_text p)
unfolding parent
prints_parent None = prints_missing
prints_parent (Some name) =
    prints_given (prints_after (word_front 32 refl (word_end 32 refl (λ more. refl) (sign_word extends_word))) (prints_name name) (λ more q. refl))

glue_parent : (p : Option Name) (t : List ℕ) → Glue parted any (maybe_text parent_text p ++ (opening_line ++ t))
glue_parent None t more q = refl
glue_parent (Some name) t more q = refl

prints_service : (levels : ℕ) (s : Service) → Prints any (service levels) (service_node s) (service_text s)
unfolding service_rest service_node service_text
prints_service levels s =
    prints_pair (prints_kept word.Service word.Service s.at (word_of_front 10 refl (word_of_end 32 refl (λ more. refl) service_word)))
    (prints_pair (prints_name s.name)
    (prints_pair (prints_parent s.parent)
    (prints_after opening_word
    (prints_before
    (prints_lines (function levels) function_node function_line
    (λ f. prints_front 32 refl (prints_front 32 refl (prints_end 10 refl (λ more. refl) (prints_function levels f)))) s.functions.items)
    closing_word (λ more q. refl))
    (λ more q. refl))
    (λ more q. refl))
    (glue_parent s.parent _))
    (λ more q. refl)

-- a definition that begins with another word than a struct
no_struct : {P : List ℕ → Bool} {text : List ℕ} (levels : ℕ) (j : Terminal) (at : Place) (y : Node) → (word.Struct ≡ j → ⊥) → (word.Union ≡ j → ⊥) → (word.Exception ≡ j → ⊥)
    → Prints P (structure levels) (pair (word_node j at) y) text
unfolding struct_word
no_struct levels j at y a b c = prints_never (λ ts rest h.
    let e : pair (word_node j at) y ≡ pair h.1 h.2 = h.5 in
    elim h.3 [
      | inl l ↦ let f : h.1 ≡ word_node word.Struct l.0.place = l.3 in let is : word.Struct ≡ j = cc in a is
      | inr r ↦ elim r [
        | inl m ↦ let f : h.1 ≡ word_node word.Union m.0.place = m.3 in let is : word.Union ≡ j = cc in b is
        | inr n ↦ let f : h.1 ≡ word_node word.Exception n.0.place = n.3 in let is : word.Exception ≡ j = cc in c is
      ]
    ])

distinct_struct : (k : StructKind) (j : Terminal) → (j ≡ word.Struct → ⊥) → (j ≡ word.Union → ⊥) → (j ≡ word.Exception → ⊥) → j ≡ struct_word_of k → ⊥
distinct_struct kind.Struct j a b c e = a e
distinct_struct kind.Union j a b c e = b e
distinct_struct kind.Exception j a b c e = c e

prints_bare : (levels : ℕ) (d : Definition) → Prints any (bare_definition levels) (definition_node d) (definition_text d)
unfolding bare_definition definition_node definition_text const_node typedef_node enum_node struct_node service_node
prints_bare levels (variant.Const c) =
    prints_either (prints_const levels c)
    (prints_either (other_word word.Typedef word.Const c.at _ (λ e. cc)) (prints_either (other_word word.Enum word.Const c.at _ (λ e. cc))
    (prints_either (no_struct levels word.Const c.at _ (λ e. cc) (λ e. cc) (λ e. cc)) (other_word word.Service word.Const c.at _ (λ e. cc)))))
prints_bare levels (variant.Typedef t) =
    prints_either (other_word word.Const word.Typedef t.at _ (λ e. cc))
    (prints_either (prints_typedef levels t) (prints_either (other_word word.Enum word.Typedef t.at _ (λ e. cc))
    (prints_either (no_struct levels word.Typedef t.at _ (λ e. cc) (λ e. cc) (λ e. cc)) (other_word word.Service word.Typedef t.at _ (λ e. cc)))))
prints_bare levels (variant.Enum n) =
    prints_either (other_word word.Const word.Enum n.at _ (λ e. cc))
    (prints_either (other_word word.Typedef word.Enum n.at _ (λ e. cc)) (prints_either (prints_enum n)
    (prints_either (no_struct levels word.Enum n.at _ (λ e. cc) (λ e. cc) (λ e. cc)) (other_word word.Service word.Enum n.at _ (λ e. cc)))))
prints_bare levels (variant.Struct s) =
    prints_either (other_word word.Const (struct_word_of s.kind) s.at _ (distinct_struct s.kind word.Const (λ e. cc) (λ e. cc) (λ e. cc)))
    (prints_either (other_word word.Typedef (struct_word_of s.kind) s.at _ (distinct_struct s.kind word.Typedef (λ e. cc) (λ e. cc) (λ e. cc)))
    (prints_either (other_word word.Enum (struct_word_of s.kind) s.at _ (distinct_struct s.kind word.Enum (λ e. cc) (λ e. cc) (λ e. cc)))
    (prints_either (prints_struct levels s)
    (other_word word.Service (struct_word_of s.kind) s.at _ (distinct_struct s.kind word.Service (λ e. cc) (λ e. cc) (λ e. cc))))))
prints_bare levels (variant.Service s) =
    prints_either (other_word word.Const word.Service s.at _ (λ e. cc))
    (prints_either (other_word word.Typedef word.Service s.at _ (λ e. cc)) (prints_either (other_word word.Enum word.Service s.at _ (λ e. cc))
    (prints_either (no_struct levels word.Service s.at _ (λ e. cc) (λ e. cc) (λ e. cc)) (prints_service levels s))))

-- each definition
pub prints_definition : (levels : ℕ) (d : Definition) → Prints any (definition levels) (definition_node d) (definition_text d)
unfolding definition
prints_definition levels d = prints_quiet (prints_bare levels d) no_separator
