-- Fields, as they are printed.
use Rattle.std.proofs.Common.{◌≡◌, ℕ, Bool, List, ◌++◌, codes, Option, Some, None, refl, sym, ap, ◌∙◌, subst}
use Rattle.std.proofs.lemmas.List.{append_assoc}
use Rattle.idl_token.specs.Spellings.{parted, any}
use Rattle.idl_token.specs.declared.terminal.Terminal.TheVariants as word
use Rattle.idl_parser.specs.declared.tree.Int.{Int}
use Rattle.idl_parser.specs.declared.tree.Need.{Need}
use Rattle.idl_parser.specs.declared.tree.Need.TheVariants as need
use Rattle.idl_parser.specs.declared.tree.ConstTree.{ConstTree}
use Rattle.idl_parser.specs.declared.tree.Field.{Field}
use Rattle.idl_parser.specs.Phrases.{chain}
use Rattle.idl_parser.specs.Leaves.{sign, left_tree}
use Rattle.idl_parser.specs.Fields.{field_id, field_need, field_default, field_ending, field, fields}
use Rattle.idl_parser.specs.Definitions.{fields_in_parentheses}
use Rattle.idl_parser.specs.Trees.{maybe_node, int_node, need_node, value_node, field_node, fields_node}
use Rattle.idl_printer.specs.Printed.{maybe_text, id_text, need_text, type_text, default_text, typed_text, field_text, field_line, field_lines, arguments_text}
use Rattle.idl_printer.proofs.PrintedPhrases.{Prints, IsWord, IsNothing, Glue, prints_pair, prints_after, prints_before, prints_quiet, prints_either, prints_given, prints_missing, prints_marked, prints_flagged, prints_front, prints_end, prints_lines, prints_separated, nothing_both, quiet_word, sign_word, word_front, word_end, word_of_end}
use Rattle.idl_printer.proofs.PrintedWords.{required_word, optional_word, equals_sign, open_paren_sign, close_paren_sign}
use Rattle.idl_printer.proofs.PrintedLeaves.{prints_identifier, prints_integer}
use Rattle.idl_printer.proofs.PrintedTypes.{no_annotation, prints_type}
use Rattle.idl_printer.proofs.PrintedValues.{no_separator, comma_separator, colon_word, prints_value}

pub no_ending : IsNothing field_ending
unfolding field_ending
no_ending = nothing_both no_annotation no_separator

comma_ending : IsWord any field_ending (codes ", ")
unfolding field_ending
comma_ending = quiet_word no_annotation comma_separator

pub equals_word : IsWord any (sign word.Equals) (codes " = ")
equals_word = word_front 32 refl (word_end 32 refl (λ more. refl) (sign_word equals_sign))

prints_id : (id : Option Int) → Prints any field_id (maybe_node int_node id) (maybe_text id_text id)
unfolding field_id
prints_id None = prints_missing
prints_id (Some id) = prints_given (prints_before (prints_integer id.value id.at) colon_word (λ more q. refl))

prints_need : (n : Need) → Prints any field_need (need_node n) (need_text n)
unfolding field_need
prints_need need.Default = prints_missing
prints_need need.Required =
    let w = word_of_end 32 refl (λ more. refl) required_word in
    prints_given (prints_either (prints_flagged word.Required word.Required w) (prints_flagged word.Optional word.Required w))
prints_need need.Optional =
    let w = word_of_end 32 refl (λ more. refl) optional_word in
    prints_given (prints_either (prints_flagged word.Required word.Optional w) (prints_flagged word.Optional word.Optional w))

prints_default : (levels : ℕ) (d : Option ConstTree) → Prints parted (field_default levels) (maybe_node value_node d) (maybe_text default_text d)
unfolding field_default
prints_default levels None = prints_missing
prints_default levels (Some v) = prints_given (prints_after equals_word (prints_value levels v) (λ more q. refl))

-- a field with what stands behind its name
field_by : {Q : List ℕ → Bool} (levels : ℕ) (f : Field) (t : List ℕ)
    → Prints Q (chain left_tree (field_default levels) field_ending) (maybe_node value_node f.default) t → Glue parted Q t
    → Prints Q (field levels) (field_node f) (maybe_text id_text f.id ++ (need_text f.need ++ (type_text f.kind ++ (codes " " ++ (f.name.text ++ t)))))
unfolding field field_node
field_by levels f t behind glue =
    prints_marked f.at
    (prints_pair (prints_id f.id)
    (prints_pair (prints_need f.need)
    (prints_pair (prints_type levels f.kind)
    (prints_front 32 refl (prints_pair (prints_identifier word.Identifier f.name.text f.name.at) behind glue))
    (λ more q. refl))
    (λ more q. refl))
    (λ more q. refl))

glue_default : (d : Option ConstTree) → Glue parted parted (maybe_text default_text d)
glue_default None more q = q
glue_default (Some v) more q = refl

glue_comma : (d : Option ConstTree) → Glue parted any (maybe_text default_text d ++ codes ", ")
glue_comma None more q = refl
glue_comma (Some v) more q = refl

field_last : (levels : ℕ) (f : Field) → Prints parted (field levels) (field_node f) (field_text f)
unfolding field_text typed_text
field_last levels f = field_by levels f (maybe_text default_text f.default) (prints_quiet (prints_default levels f.default) no_ending) (glue_default f.default)

with_comma : (a b c d e tail : List ℕ) → (a ++ (b ++ (c ++ (codes " " ++ (d ++ e))))) ++ tail ≡ a ++ (b ++ (c ++ (codes " " ++ (d ++ (e ++ tail)))))
with_comma a b c d e tail =
    append_assoc a (b ++ (c ++ (codes " " ++ (d ++ e)))) tail
    ∙ ap (λ t. a ++ t) (append_assoc b (c ++ (codes " " ++ (d ++ e))) tail
    ∙ ap (λ t. b ++ t) (append_assoc c (codes " " ++ (d ++ e)) tail
    ∙ ap (λ t. c ++ (codes " " ++ t)) (append_assoc d e tail)))

field_other : (levels : ℕ) (f : Field) → Prints any (field levels) (field_node f) (field_text f ++ codes ", ")
unfolding field_text typed_text
field_other levels f =
    subst (λ t. Prints any (field levels) (field_node f) t)
    (sym (with_comma (maybe_text id_text f.id) (need_text f.need) (type_text f.kind) f.name.text (maybe_text default_text f.default) (codes ", ")))
    (field_by levels f (maybe_text default_text f.default ++ codes ", ")
    (prints_before (prints_default levels f.default) comma_ending (λ more q. refl)) (glue_comma f.default))

-- fields on lines of their own
pub prints_field_lines : (levels : ℕ) (fs : List Field) → Prints any (fields levels) (fields_node fs) (field_lines fs)
unfolding fields
prints_field_lines levels fs =
    prints_lines (field levels) field_node field_line
    (λ f. prints_front 32 refl (prints_front 32 refl (prints_end 10 refl (λ more. refl) (field_last levels f)))) fs

-- fields in parentheses
pub prints_arguments : (levels : ℕ) (fs : List Field) → Prints any (fields_in_parentheses levels) (fields_node fs) (arguments_text fs)
unfolding fields_in_parentheses fields
prints_arguments levels fs =
    prints_after (sign_word open_paren_sign)
    (prints_before (prints_separated (field levels) field_node field_text (field_last levels) (field_other levels) fs) (sign_word close_paren_sign) (λ more q. refl))
    (λ more q. refl)
