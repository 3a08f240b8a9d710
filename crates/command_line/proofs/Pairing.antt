-- Pairs that are read one after another.
use Rattle.std.proofs.Common.{◌≡◌, ℕ, ◌+◌, ◌<◌, ◌≤◌, suc, List, length, drop, [], ◌∷◌, ◌++◌, Option, Some, None, refl, sym, ap, ap₂, ◌∙◌, append_assoc, append-nil, arith, Bor, drop-cons}
use Rattle.std.specs.List.{slice_index_or}
use Rattle.std.proofs.lemmas.List.{drop_all}
use Rattle.std.specs.Prelude.{option_map, option_and_then}
use Rattle.service_binding.specs.Pairs.{NamedKind, pair_of_word}
use Rattle.command_line.specs.CommandPairs.{pairs_of_words}
use Rattle.command_line.specs.Lent.{lent_words}

-- pairs in front of others
abbrev in_front : List NamedKind → Option (List NamedKind) → Option (List NamedKind)
in_front pairs others = option_map (λ (more : List NamedKind). pairs ++ more) others

-- by what the next word is
abbrev next_pair : List (List ℕ) → Option NamedKind → Option (List NamedKind)
next_pair words o = option_and_then (λ (pair : NamedKind). option_map (λ (pairs : List NamedKind). pair ∷ pairs) (pairs_of_words words)) o

no_pair : (pairs : List NamedKind) (word : List ℕ) (words : List (List ℕ)) → pair_of_word word ≡ None
    → option_map (λ (more : List NamedKind). pairs ++ more) (pairs_of_words (word ∷ words)) ≡ None
no_pair pairs word words is = ap (λ o. in_front pairs (next_pair words o)) is

moved : (pairs : List NamedKind) (pair : NamedKind) (others : Option (List NamedKind))
    → in_front pairs (option_map (λ (more : List NamedKind). pair ∷ more) others) ≡ in_front (pairs ++ pair ∷ []) others
moved pairs pair None = refl
moved pairs pair (Some more) = ap Some (sym (append_assoc pairs (pair ∷ []) more))

one_pair : (pairs : List NamedKind) (word : List ℕ) (words : List (List ℕ)) (pair : NamedKind) → pair_of_word word ≡ Some pair
    → option_map (λ (more : List NamedKind). pairs ++ more) (pairs_of_words (word ∷ words))
    ≡ option_map (λ (more : List NamedKind). (pairs ++ pair ∷ []) ++ more) (pairs_of_words words)
one_pair pairs word words pair is = ap (λ o. in_front pairs (next_pair words o)) is ∙ moved pairs pair (pairs_of_words words)

-- no pair was read yet
pub no_pairs_yet : (pairs : List NamedKind) (all : Option (List NamedKind)) → pairs ≡ [] → in_front pairs all ≡ all
no_pairs_yet pairs None none = refl
no_pairs_yet pairs (Some more) none = ap (λ (ps : List NamedKind). Some (ps ++ more)) none

-- one more word is a pair
pub pairs_next : (pairs made : List NamedKind) (pair : NamedKind) (words : List (Bor (List ℕ))) (i : ℕ) (d : Bor (List ℕ)) (all : Option (List NamedKind))
    → i < length words → Some pair ≡ pair_of_word (slice_index_or words i d).now → made ≡ pairs ++ pair ∷ []
    → in_front pairs (pairs_of_words (lent_words (drop i words))) ≡ all
    → in_front made (pairs_of_words (lent_words (drop (i + 1) words))) ≡ all
pairs_next pairs made pair words i d all within is grown so_far =
    let next : i + 1 ≡ suc i = omega arith in
    ap₂ (λ (ps : List NamedKind) (k : ℕ). in_front ps (pairs_of_words (lent_words (drop k words)))) grown next
    ∙ sym (one_pair pairs (slice_index_or words i d).now (lent_words (drop (suc i) words)) pair (sym is))
    ∙ sym (ap (λ ws. in_front pairs (pairs_of_words (lent_words ws))) (drop-cons words i d within)) ∙ so_far

-- one more word is no pair
pub pairs_stop : (pairs : List NamedKind) (words : List (Bor (List ℕ))) (i : ℕ) (d : Bor (List ℕ)) (all : Option (List NamedKind))
    → i < length words → None ≡ pair_of_word (slice_index_or words i d).now
    → in_front pairs (pairs_of_words (lent_words (drop i words))) ≡ all → None ≡ all
pairs_stop pairs words i d all within is so_far =
    sym (no_pair pairs (slice_index_or words i d).now (lent_words (drop (suc i) words)) (sym is))
    ∙ sym (ap (λ ws. in_front pairs (pairs_of_words (lent_words ws))) (drop-cons words i d within)) ∙ so_far

-- all words were read
pub pairs_end : (pairs : List NamedKind) (words : List (Bor (List ℕ))) (i : ℕ) (all : Option (List NamedKind))
    → length words ≤ i → in_front pairs (pairs_of_words (lent_words (drop i words))) ≡ all → Some pairs ≡ all
pairs_end pairs words i all end so_far =
    sym (ap Some (append-nil pairs)) ∙ sym (ap (λ ws. in_front pairs (pairs_of_words (lent_words ws))) (drop_all i words end)) ∙ so_far
