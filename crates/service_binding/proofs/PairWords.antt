-- The word of a pair.
use Rattle.std.proofs.Common.{◌≡◌, ℕ, ◌+◌, ◌<◌, Bool, true, false, cond, nat_le, List, [], ◌∷◌, ◌++◌, length, take, drop, get_or, codes, Option, Some, None, refl, sym, ap, ap₂, ◌∙◌, subst, arith, take-append-drop, eqb-true}
use Rattle.std.specs.Prelude.{option_map, option_and_then, position}
use Rattle.std.specs.Str.{bytes_eq}
use Rattle.std.proofs.lemmas.List.{drop_more}
use Rattle.std.proofs.lemmas.List.Quantifiers.{position-Some}
use Rattle.std.proofs.lemmas.Slice.Eq.{bytes_eq-Decides}
use Rattle.call_rules.specs.declared.kind.Kind.{Kind}
use Rattle.call_rules.specs.declared.kind.Kind.TheVariants.{Calculator, Store, Mirror}
use Rattle.service_binding.specs.Equals.{at_equals, is_equals}
use Rattle.service_binding.specs.Pairs.{NamedKind, handler_kind, pair_of_parts, pair_of_word, word_of_kind, word_of_pair}

-- the word of a kind is the one that names it
third : (word : List ℕ) (kind : Kind) (b : Bool) → bytes_eq word (codes "mirror") ≡ b → cond b (Some Mirror) None ≡ Some kind → word_of_kind kind ≡ word
third word kind true is e =
    let named : Mirror ≡ kind = cc in
    ap word_of_kind (sym named) ∙ sym ((bytes_eq-Decides word (codes "mirror")).0 is)
third word kind false is e = absurd (let f : ⊥ = cc in f)

second : (word : List ℕ) (kind : Kind) (b : Bool) → bytes_eq word (codes "store") ≡ b → cond b (Some Store) (cond (bytes_eq word (codes "mirror")) (Some Mirror) None) ≡ Some kind → word_of_kind kind ≡ word
second word kind true is e =
    let named : Store ≡ kind = cc in
    ap word_of_kind (sym named) ∙ sym ((bytes_eq-Decides word (codes "store")).0 is)
second word kind false is e = third word kind (bytes_eq word (codes "mirror")) refl e

first : (word : List ℕ) (kind : Kind) (b : Bool) → bytes_eq word (codes "calculator") ≡ b
    → cond b (Some Calculator) (cond (bytes_eq word (codes "store")) (Some Store) (cond (bytes_eq word (codes "mirror")) (Some Mirror) None)) ≡ Some kind → word_of_kind kind ≡ word
first word kind true is e =
    let named : Calculator ≡ kind = cc in
    ap word_of_kind (sym named) ∙ sym ((bytes_eq-Decides word (codes "calculator")).0 is)
first word kind false is e = second word kind (bytes_eq word (codes "store")) refl e

-- a word is what stands before its first `=`, that, and what stands behind it
cut_again : (word : List ℕ) (at : ℕ) → position is_equals word ≡ Some at → take at word ++ (codes "=" ++ drop (at + 1) word) ≡ word
cut_again word at is =
    let found = position-Some is_equals word at 0 is in
    let equals : get_or word at 0 ≡ 61 = eqb-true (get_or word at 0) 61 found.1 in
    let back : drop at word ≡ 61 ∷ drop (at + 1) word = drop_more word at 0 found.0 ∙ ap (λ b. b ∷ drop (at + 1) word) equals in
    ap (λ l. take at word ++ l) (sym back) ∙ take-append-drop at word

parts_word : (word : List ℕ) (o : Option ℕ) → position is_equals word ≡ o → (parts : List ℕ × List ℕ) → option_map (λ (at : ℕ). (take at word, drop (at + 1) word)) o ≡ Some parts
    → parts.0 ++ (codes "=" ++ parts.1) ≡ word
parts_word word None is parts e = absurd (let f : ⊥ = cc in f)
parts_word word (Some at) is parts e =
    let same : (take at word, drop (at + 1) word) ≡ parts = cc in
    ap (λ (p : List ℕ × List ℕ). p.0 ++ (codes "=" ++ p.1)) (sym same) ∙ cut_again word at is

-- a pair of parts has them again
kind_again : (name kind : List ℕ) (o : Option Kind) → handler_kind kind ≡ o → (pair : NamedKind) → option_map (λ (k : Kind). (name, k)) o ≡ Some pair → word_of_pair pair ≡ name ++ (codes "=" ++ kind)
kind_again name kind None is pair e = absurd (let f : ⊥ = cc in f)
kind_again name kind (Some k) is pair e =
    let same : (name, k) ≡ pair = cc in
    ap word_of_pair (sym same) ∙ ap (λ w. name ++ (codes "=" ++ w)) (first kind k (bytes_eq kind (codes "calculator")) refl is)

parts_again : (parts : List ℕ × List ℕ) (b : Bool) → (pair : NamedKind) → cond b (option_map (λ (k : Kind). (parts.0, k)) (handler_kind parts.1)) None ≡ Some pair
    → word_of_pair pair ≡ parts.0 ++ (codes "=" ++ parts.1)
parts_again parts true pair e = kind_again parts.0 parts.1 (handler_kind parts.1) refl pair e
parts_again parts false pair e = absurd (let f : ⊥ = cc in f)

by_parts : (word : List ℕ) (o : Option (List ℕ × List ℕ)) → at_equals word ≡ o → (pair : NamedKind) → option_and_then pair_of_parts o ≡ Some pair → word_of_pair pair ≡ word
by_parts word None is pair e = absurd (let f : ⊥ = cc in f)
by_parts word (Some parts) is pair e = parts_again parts (nat_le 1 (length parts.0)) pair e ∙ parts_word word (position is_equals word) refl parts is

pub pair_has_its_word : (word : List ℕ) (pair : NamedKind) → pair_of_word word ≡ Some pair → word_of_pair pair ≡ word
pair_has_its_word word pair e = by_parts word (at_equals word) refl pair e
