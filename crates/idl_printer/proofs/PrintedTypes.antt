-- Types, as they are printed.
use Rattle.std.proofs.Common.{◌≡◌, ℕ, zero, suc, Bool, List, ◌++◌, codes, refl, sym, subst, inl, inr}
use Rattle.idl_token.specs.declared.Place.{Place}
use Rattle.idl_token.specs.Spellings.{parted}
use Rattle.idl_token.specs.declared.terminal.Terminal.{Terminal}
use Rattle.idl_token.specs.declared.terminal.Terminal.TheVariants as word
use Rattle.idl_parser.specs.declared.tree.Base.{Base}
use Rattle.idl_parser.specs.declared.tree.Base.TheVariants as base
use Rattle.idl_parser.specs.declared.tree.TypeTree.{TypeTree}
use Rattle.idl_parser.specs.declared.tree.TypeTree.TheOpen.{TypeTree-F}
use Rattle.idl_parser.specs.declared.tree.TypeTree.TheOpen as of_type
use Rattle.idl_parser.specs.declared.tree.TypeTree.TheFolds.{map-TypeTree, fold_out-TypeTree}
use Rattle.idl_parser.specs.declared.tree.TypeTree.TheViews.{out-TypeTree}
use Rattle.idl_token.specs.Words.{keyword_text}
use Rattle.idl_parser.specs.Phrases.{Lexeme, Node, word as word_node, text as leaf, pair, Phrase, chain, Derives}
use Rattle.idl_parser.specs.Leaves.{kept_word}
use Rattle.idl_parser.specs.Parts.{identifier, annotation, annotated}
use Rattle.idl_parser.specs.Types.{base as base_phrase, cpp_type, map_type_rest, set_type_rest, list_type_rest, container, no_container, bare_or, inner_type, bare_type, type_of}
use Rattle.idl_parser.specs.Trees.{base_word, type_step, type_node}
use Rattle.idl_printer.specs.Printed.{base_text, type_text_step, type_text}
use Rattle.idl_printer.proofs.PrintedPhrases.{Prints, IsWordOf, IsNothing, prints_pair, prints_after, prints_before, prints_quiet, prints_quiet_front, prints_either, prints_never, prints_kept, prints_anywhere, nothing_maybe, sign_word, word_end, word_quiet}
use Rattle.idl_printer.proofs.PrintedWords.{bool_word, byte_word, i8_word, i16_word, i32_word, i64_word, double_word, string_word, binary_word, uuid_word, map_word, set_word, list_word, less_sign, greater_sign, comma_sign}
use Rattle.idl_printer.proofs.PrintedLeaves.{prints_identifier}

pub no_annotation : IsNothing annotation
unfolding annotation
no_annotation = nothing_maybe

no_cpp_type : IsNothing cpp_type
unfolding cpp_type
no_cpp_type = nothing_maybe

base_word_of : (b : Base) → IsWordOf parted (base_word b) (base_text b)
base_word_of base.Bool = bool_word
base_word_of base.Byte = byte_word
base_word_of base.I8 = i8_word
base_word_of base.I16 = i16_word
base_word_of base.I32 = i32_word
base_word_of base.I64 = i64_word
base_word_of base.Double = double_word
base_word_of base.String = string_word
base_word_of base.Binary = binary_word
base_word_of base.Uuid = uuid_word

pub by_words : {P : List ℕ → Bool} {x : Node} {text : List ℕ} → ((k : Terminal) → Prints P (kept_word k) x text) → Prints P base_phrase x text
unfolding base_phrase
by_words each =
    prints_either (each word.Bool) (prints_either (each word.Byte) (prints_either (each word.I8) (prints_either (each word.I16) (prints_either (each word.I32)
    (prints_either (each word.I64) (prints_either (each word.DoubleWord) (prints_either (each word.StringWord) (prints_either (each word.Binary) (each word.Uuid)))))))))

-- phrases of which no such tree is made
pub word_no_leaf : {P : List ℕ → Bool} {text : List ℕ} (k j : Terminal) (bytes : List ℕ) (at : Place) → Prints P (kept_word k) (leaf j bytes at) text
word_no_leaf k j bytes at = prints_never (λ ts rest h. let e : leaf j bytes at ≡ word_node k h.0.place = h.3 in cc)

pub word_no_pair : {P : List ℕ → Bool} {text : List ℕ} (k : Terminal) (a b : Node) → Prints P (kept_word k) (pair a b) text
word_no_pair k a b = prints_never (λ ts rest h. let e : pair a b ≡ word_node k h.0.place = h.3 in cc)

pub name_no_pair : {P : List ℕ → Bool} {text : List ℕ} (a b : Node) → Prints P identifier (pair a b) text
name_no_pair a b = prints_never (λ ts rest h. let e : pair a b ≡ leaf word.Identifier h.0.bytes h.0.place = h.3 in cc)

name_no_word : {P : List ℕ → Bool} {text : List ℕ} (k : Terminal) (at : Place) → Prints P identifier (word_node k at) text
name_no_word k at = prints_never (λ ts rest h. let e : word_node k at ≡ leaf word.Identifier h.0.bytes h.0.place = h.3 in cc)

-- what begins with another word
pub other_word : {P : List ℕ → Bool} {text : List ℕ} {q : Phrase} (k j : Terminal) (at : Place) (y : Node) → (k ≡ j → ⊥) → Prints P (chain pair (kept_word k) q) (pair (word_node j at) y) text
other_word k j at y distinct = prints_never (λ ts rest h.
    let e : pair (word_node j at) y ≡ pair h.1 h.2 = h.5 in
    let f : h.1 ≡ word_node k h.3.0.place = h.3.3 in
    let is : k ≡ j = cc in
    distinct is)

-- whether a tree is a pair
abbrev pub IsPair : Node → Type 0
IsPair (pair a b) = Unit {0}
IsPair x = ⊥

kept_pair : (a b x : Node) → x ≡ pair a b → IsPair x
kept_pair a b x e = subst IsPair (sym e) tt

pub inner_is_pair : (levels : ℕ) (ts : List Lexeme) (x : Node) (rest : List Lexeme) → Derives (inner_type levels) ts x rest → IsPair x
unfolding inner_type no_container container
inner_is_pair zero ts x rest h = elim h [ inl l ↦ absurd l | inr r ↦ elim r [ inl m ↦ absurd m | inr n ↦ absurd n ] ]
inner_is_pair (suc levels) ts x rest h = elim h [
  | inl l ↦ kept_pair l.1 l.2 x l.5
  | inr r ↦ elim r [ inl m ↦ kept_pair m.1 m.2 x m.5 | inr n ↦ kept_pair n.1 n.2 x n.5 ]
]

-- types such as the inner ones
abbrev PrintsTypes : Phrase → Type 0
PrintsTypes inner = (x : TypeTree) → Prints parted inner (type_node x) (type_text x)

prints_map : (inner : Phrase) (at : Place) (k v : TypeTree) → PrintsTypes inner
    → Prints parted (container inner) (pair (word_node word.Map at) (pair (type_node k) (type_node v))) (keyword_text word.Map ++ (codes "<" ++ (type_text k ++ (codes ", " ++ (type_text v ++ codes ">")))))
unfolding container map_type_rest
prints_map inner at k v each =
    prints_either
    (prints_pair (prints_kept word.Map word.Map at map_word)
    (prints_quiet_front no_cpp_type (prints_after (sign_word less_sign)
    (prints_pair (each k) (prints_after (word_end 32 refl (λ more. refl) (sign_word comma_sign))
    (prints_anywhere (prints_before (each v) (sign_word greater_sign) (λ more q. refl))) (λ more q. refl)) (λ more q. refl)) (λ more q. refl)))
    (λ more q. refl))
    (prints_either (other_word word.Set word.Map at _ (λ e. cc)) (other_word word.List word.Map at _ (λ e. cc)))

prints_set : (inner : Phrase) (at : Place) (x : TypeTree) → PrintsTypes inner
    → Prints parted (container inner) (pair (word_node word.Set at) (type_node x)) (keyword_text word.Set ++ (codes "<" ++ (type_text x ++ codes ">")))
unfolding container set_type_rest
prints_set inner at x each =
    prints_either (other_word word.Map word.Set at _ (λ e. cc))
    (prints_either
    (prints_pair (prints_kept word.Set word.Set at set_word)
    (prints_quiet_front no_cpp_type (prints_after (sign_word less_sign)
    (prints_anywhere (prints_before (each x) (sign_word greater_sign) (λ more q. refl))) (λ more q. refl)))
    (λ more q. refl))
    (other_word word.List word.Set at _ (λ e. cc)))

prints_list : (inner : Phrase) (at : Place) (x : TypeTree) → PrintsTypes inner
    → Prints parted (container inner) (pair (word_node word.List at) (type_node x)) (keyword_text word.List ++ (codes "<" ++ (type_text x ++ codes ">")))
unfolding container list_type_rest
prints_list inner at x each =
    prints_either (other_word word.Map word.List at _ (λ e. cc))
    (prints_either (other_word word.Set word.List at _ (λ e. cc))
    (prints_pair (prints_kept word.List word.List at list_word)
    (prints_quiet_front no_cpp_type (prints_after (sign_word less_sign)
    (prints_anywhere (prints_before (each x) (word_quiet (sign_word greater_sign) no_cpp_type) (λ more q. refl))) (λ more q. refl)))
    (λ more q. refl)))

-- the types of fewer levels
abbrev Below : ℕ → Type 0
Below zero = Unit {0}
Below (suc levels) = PrintsTypes (annotated (bare_or (inner_type levels)))

nothing_inside : {P : List ℕ → Bool} {x : Node} {text : List ℕ} → Prints P (inner_type zero) x text
unfolding inner_type no_container
nothing_inside = prints_never (λ ts rest h. elim h [ inl l ↦ l | inr r ↦ elim r [ inl m ↦ m | inr n ↦ n ] ])

a_container : (levels : ℕ) (a b : Node) (text : List ℕ) → Prints parted (inner_type levels) (pair a b) text → Prints parted (bare_or (inner_type levels)) (pair a b) text
a_container levels a b text inner = prints_either (by_words (λ k. word_no_pair k a b)) (prints_either (name_no_pair a b) inner)

layer : (levels : ℕ) (y : TypeTree-F TypeTree) → Below levels
    → Prints parted (bare_or (inner_type levels)) (type_step (map-TypeTree TypeTree Node type_node y)) (type_text_step (map-TypeTree TypeTree (List ℕ) type_text y))
unfolding inner_type
layer levels (of_type.Base at b) below =
    prints_either (by_words (λ k. prints_kept k (base_word b) at (base_word_of b)))
    (prints_either (name_no_word (base_word b) at) (prints_never (λ ts rest h. inner_is_pair levels ts (word_node (base_word b) at) rest h)))
layer levels (of_type.Named name) below =
    prints_either (by_words (λ k. word_no_leaf k word.Identifier name.text name.at))
    (prints_either (prints_identifier word.Identifier name.text name.at)
    (prints_never (λ ts rest h. inner_is_pair levels ts (leaf word.Identifier name.text name.at) rest h)))
layer zero (of_type.Map at k v) below = a_container zero _ _ _ nothing_inside
layer zero (of_type.Set at x) below = a_container zero _ _ _ nothing_inside
layer zero (of_type.List at x) below = a_container zero _ _ _ nothing_inside
layer (suc levels) (of_type.Map at k v) below = a_container (suc levels) _ _ _ (prints_map (annotated (bare_or (inner_type levels))) at k.value v.value below)
layer (suc levels) (of_type.Set at x) below = a_container (suc levels) _ _ _ (prints_set (annotated (bare_or (inner_type levels))) at x.value below)
layer (suc levels) (of_type.List at x) below = a_container (suc levels) _ _ _ (prints_list (annotated (bare_or (inner_type levels))) at x.value below)

opened : (levels : ℕ) → Below levels → PrintsTypes (annotated (bare_or (inner_type levels)))
opened levels below x =
    let nodes = fold_out-TypeTree Node type_step x in
    let texts = fold_out-TypeTree (List ℕ) type_text_step x in
    prints_quiet
    (subst (λ n. Prints parted (bare_or (inner_type levels)) n (type_text x)) (sym nodes)
    (subst (λ t. Prints parted (bare_or (inner_type levels)) (type_step (map-TypeTree TypeTree Node type_node (out-TypeTree x))) t) (sym texts)
    (layer levels (out-TypeTree x) below)))
    no_annotation

each_type : (levels : ℕ) → PrintsTypes (annotated (bare_or (inner_type levels)))
each_type zero = opened zero tt
each_type (suc levels) = opened (suc levels) (each_type levels)

-- each type
pub prints_type : (levels : ℕ) (x : TypeTree) → Prints parted (type_of levels) (type_node x) (type_text x)
unfolding type_of bare_type
prints_type levels x = each_type levels x
