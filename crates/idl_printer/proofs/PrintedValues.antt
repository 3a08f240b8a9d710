-- Constant values, as they are printed.
use Rattle.std.proofs.Common.{◌≡◌, ℕ, zero, suc, Bool, List, [], ◌∷◌, ◌++◌, map, codes, refl, sym, ap, subst, inl, inr}
use Rattle.std.specs.List.{flat_map}
use Rattle.std.proofs.lemmas.List.{append_assoc}
use Rattle.idl_token.specs.declared.Place.{Place}
use Rattle.idl_token.specs.Spellings.{parted, any}
use Rattle.idl_token.specs.declared.terminal.Terminal.{Terminal}
use Rattle.idl_token.specs.declared.terminal.Terminal.TheVariants as word
use Rattle.idl_parser.specs.declared.tree.ConstTree.{ConstTree}
use Rattle.idl_parser.specs.declared.tree.ConstTree.TheOpen.{ConstTree-F}
use Rattle.idl_parser.specs.declared.tree.ConstTree.TheOpen as of_value
use Rattle.idl_parser.specs.declared.tree.ConstTree.TheFolds.{map-ConstTree, fold_out-ConstTree}
use Rattle.idl_parser.specs.declared.tree.ConstTree.TheViews.{out-ConstTree}
use Rattle.idl_parser.specs.Phrases.{Lexeme, Node, word as word_node, text as leaf, number, pair, Phrase, one, Derives}
use Rattle.idl_parser.specs.Leaves.{sign, text_leaf, literal_leaf, number_leaf}
use Rattle.idl_parser.specs.Parts.{literal, separator}
use Rattle.idl_parser.specs.Constants.{list_item, list_value_rest, map_entry, map_value_rest, collection, no_collection, leaf_or, inner_value, value_of}
use Rattle.idl_parser.specs.Trees.{row, value_step, value_node, entry_node, both_nodes, pair_row}
use Rattle.idl_printer.specs.Printed.{separated, separated_pairs, behind_comma, pair_behind_comma, pair_text, both_texts, value_text_step, value_text}
use Rattle.idl_parser.proofs.Rows.{row_of_entries}
use Rattle.idl_printer.proofs.PrintedPhrases.{Prints, IsWord, IsNothing, prints_pair, prints_after, prints_before, prints_quiet, prints_either, prints_never, prints_kept, prints_anywhere, prints_separated, nothing_maybe, sign_word, word_end, word_maybe, word_either}
use Rattle.idl_printer.proofs.PrintedWords.{open_bracket_sign, close_bracket_sign, open_brace_sign, close_brace_sign, comma_sign, colon_sign}
use Rattle.idl_printer.proofs.PrintedLeaves.{prints_identifier, prints_decimal, prints_literal, prints_integer}
use Rattle.idl_printer.proofs.PrintedTypes.{IsPair, other_word}

pub no_separator : IsNothing separator
unfolding separator
no_separator = nothing_maybe

pub comma_separator : IsWord any separator (codes ", ")
unfolding separator
comma_separator = word_maybe (word_either (word_end 32 refl (λ more. refl) (sign_word comma_sign)))

pub colon_word : IsWord any (sign word.Colon) (codes ": ")
colon_word = word_end 32 refl (λ more. refl) (sign_word colon_sign)

-- one symbol of which no such tree is made
one_never : {P : List ℕ → Bool} {text : List ℕ} {x : Node} (k : Terminal) (f : Lexeme → Node) → ((t : Lexeme) → x ≡ f t → ⊥) → Prints P (one k f) x text
one_never k f refuses = prints_never (λ ts rest h. refuses h.0 h.3)

kept_pair : (a b x : Node) → x ≡ pair a b → IsPair x
kept_pair a b x e = subst IsPair (sym e) tt

inner_is_pair : (levels : ℕ) (ts : List Lexeme) (x : Node) (rest : List Lexeme) → Derives (inner_value levels) ts x rest → IsPair x
unfolding inner_value no_collection collection
inner_is_pair zero ts x rest h = elim h [ inl l ↦ absurd l | inr r ↦ absurd r ]
inner_is_pair (suc levels) ts x rest h = elim h [ inl l ↦ kept_pair l.1 l.2 x l.5 | inr r ↦ kept_pair r.1 r.2 x r.5 ]

-- values such as the inner ones
abbrev PrintsValues : Phrase → Type 0
PrintsValues inner = (x : ConstTree) → Prints parted inner (value_node x) (value_text x)

prints_items : (inner : Phrase) (at : Place) (xs : List ConstTree) → PrintsValues inner
    → Prints parted (collection inner) (pair (word_node word.OpenBracket at) (row (map value_node xs))) (codes "[" ++ (separated (map value_text xs) ++ codes "]"))
unfolding collection list_value_rest list_item
prints_items inner at xs each =
    prints_either
    (prints_pair (prints_kept word.OpenBracket word.OpenBracket at open_bracket_sign)
    (prints_anywhere (prints_before
    (prints_separated (list_item inner) value_node value_text (λ x. prints_quiet (each x) no_separator)
    (λ x. prints_before (each x) comma_separator (λ more q. refl)) xs)
    (sign_word close_bracket_sign) (λ more q. refl)))
    (λ more q. refl))
    (other_word word.OpenBrace word.OpenBracket at _ (λ e. cc))

abbrev entry_of : ConstTree × ConstTree → List ℕ
entry_of p = pair_text (both_texts p)

rest_of_entries : (ps : List (ConstTree × ConstTree)) → flat_map behind_comma (map entry_of ps) ≡ flat_map pair_behind_comma (map both_texts ps)
rest_of_entries [] = refl
rest_of_entries (p ∷ ps) = ap (λ t. behind_comma (entry_of p) ++ t) (rest_of_entries ps)

text_of_entries : (ps : List (ConstTree × ConstTree)) → separated (map entry_of ps) ≡ separated_pairs (map both_texts ps)
text_of_entries [] = refl
text_of_entries (p ∷ ps) = ap (λ t. entry_of p ++ t) (rest_of_entries ps)

last_entry : (inner : Phrase) → PrintsValues inner → (p : ConstTree × ConstTree) → Prints parted (map_entry inner) (entry_node p) (entry_of p)
unfolding map_entry
last_entry inner each p = prints_pair (each p.0) (prints_after colon_word (prints_quiet (each p.1) no_separator) (λ more q. refl)) (λ more q. refl)

other_entry : (inner : Phrase) → PrintsValues inner → (p : ConstTree × ConstTree) → Prints any (map_entry inner) (entry_node p) (entry_of p ++ codes ", ")
unfolding map_entry
other_entry inner each p =
    subst (λ t. Prints any (map_entry inner) (entry_node p) t) (sym (append_assoc (value_text p.0) (codes ": " ++ value_text p.1) (codes ", ")))
    (prints_pair (each p.0) (prints_after colon_word (prints_before (each p.1) comma_separator (λ more q. refl)) (λ more q. refl)) (λ more q. refl))

prints_pairs : (inner : Phrase) (at : Place) (ps : List (ConstTree × ConstTree)) → PrintsValues inner
    → Prints parted (collection inner) (pair (word_node word.OpenBrace at) (pair_row (map both_nodes ps))) (codes "{" ++ (separated_pairs (map both_texts ps) ++ codes "}"))
unfolding collection map_value_rest
prints_pairs inner at ps each =
    subst (λ x. Prints parted (collection inner) (pair (word_node word.OpenBrace at) x) (codes "{" ++ (separated_pairs (map both_texts ps) ++ codes "}"))) (row_of_entries ps)
    (subst (λ t. Prints parted (collection inner) (pair (word_node word.OpenBrace at) (row (map entry_node ps))) (codes "{" ++ (t ++ codes "}"))) (text_of_entries ps)
    (prints_either
    (other_word word.OpenBracket word.OpenBrace at _ (λ e. cc))
    (prints_pair (prints_kept word.OpenBrace word.OpenBrace at open_brace_sign)
    (prints_anywhere (prints_before
    (prints_separated (map_entry inner) entry_node entry_of (last_entry inner each) (other_entry inner each) ps)
    (sign_word close_brace_sign) (λ more q. refl)))
    (λ more q. refl))))

-- the values of fewer levels
abbrev Below : ℕ → Type 0
Below zero = Unit {0}
Below (suc levels) = PrintsValues (leaf_or (inner_value levels))

nothing_inside : {P : List ℕ → Bool} {x : Node} {text : List ℕ} → Prints P (inner_value zero) x text
unfolding inner_value no_collection
nothing_inside = prints_never (λ ts rest h. elim h [ inl l ↦ l | inr r ↦ r ])

a_collection : (levels : ℕ) (a b : Node) (text : List ℕ) → Prints parted (inner_value levels) (pair a b) text → Prints parted (leaf_or (inner_value levels)) (pair a b) text
a_collection levels a b text inner =
    prints_either (one_never word.Int number_leaf (λ t e. cc))
    (prints_either (one_never word.Double (text_leaf word.Double) (λ t e. cc))
    (prints_either (one_never word.Literal (literal_leaf word.Literal) (λ t e. cc))
    (prints_either (one_never word.Identifier (text_leaf word.Identifier) (λ t e. cc)) inner)))

layer : (levels : ℕ) (y : ConstTree-F ConstTree) → Below levels
    → Prints parted (leaf_or (inner_value levels)) (value_step (map-ConstTree ConstTree Node value_node y)) (value_text_step (map-ConstTree ConstTree (List ℕ) value_text y))
unfolding inner_value
layer levels (of_value.Int int) below =
    prints_either (prints_integer int.value int.at)
    (prints_either (one_never word.Double (text_leaf word.Double) (λ t e. cc))
    (prints_either (one_never word.Literal (literal_leaf word.Literal) (λ t e. cc))
    (prints_either (one_never word.Identifier (text_leaf word.Identifier) (λ t e. cc))
    (prints_never (λ ts rest h. inner_is_pair levels ts (number int.value int.at) rest h)))))
layer levels (of_value.Double double) below =
    prints_either (one_never word.Int number_leaf (λ t e. cc))
    (prints_either (prints_decimal word.Double double.text double.at)
    (prints_either (one_never word.Literal (literal_leaf word.Literal) (λ t e. cc))
    (prints_either (one_never word.Identifier (text_leaf word.Identifier) (λ t e. cc))
    (prints_never (λ ts rest h. inner_is_pair levels ts (leaf word.Double double.text double.at) rest h)))))
layer levels (of_value.Literal literal) below =
    prints_either (one_never word.Int number_leaf (λ t e. cc))
    (prints_either (one_never word.Double (text_leaf word.Double) (λ t e. cc))
    (prints_either (prints_literal word.Literal literal.bytes literal.at)
    (prints_either (one_never word.Identifier (text_leaf word.Identifier) (λ t e. cc))
    (prints_never (λ ts rest h. inner_is_pair levels ts (leaf word.Literal literal.bytes literal.at) rest h)))))
layer levels (of_value.Name name) below =
    prints_either (one_never word.Int number_leaf (λ t e. cc))
    (prints_either (one_never word.Double (text_leaf word.Double) (λ t e. cc))
    (prints_either (one_never word.Literal (literal_leaf word.Literal) (λ t e. cc))
    (prints_either (prints_identifier word.Identifier name.text name.at)
    (prints_never (λ ts rest h. inner_is_pair levels ts (leaf word.Identifier name.text name.at) rest h)))))
layer zero (of_value.List at items) below = a_collection zero _ _ _ nothing_inside
layer zero (of_value.Map at pairs) below = a_collection zero _ _ _ nothing_inside
layer (suc levels) (of_value.List at items) below = a_collection (suc levels) _ _ _ (prints_items (leaf_or (inner_value levels)) at items.items below)
layer (suc levels) (of_value.Map at pairs) below = a_collection (suc levels) _ _ _ (prints_pairs (leaf_or (inner_value levels)) at pairs.items below)

opened : (levels : ℕ) → Below levels → PrintsValues (leaf_or (inner_value levels))
opened levels below x =
    let nodes = fold_out-ConstTree Node value_step x in
    let texts = fold_out-ConstTree (List ℕ) value_text_step x in
    subst (λ n. Prints parted (leaf_or (inner_value levels)) n (value_text x)) (sym nodes)
    (subst (λ t. Prints parted (leaf_or (inner_value levels)) (value_step (map-ConstTree ConstTree Node value_node (out-ConstTree x))) t) (sym texts)
    (layer levels (out-ConstTree x) below))

each_value : (levels : ℕ) → PrintsValues (leaf_or (inner_value levels))
each_value zero = opened zero tt
each_value (suc levels) = opened (suc levels) (each_value levels)

-- each value
pub prints_value : (levels : ℕ) (x : ConstTree) → Prints parted (value_of levels) (value_node x) (value_text x)
unfolding value_of
prints_value levels x = each_value levels x
