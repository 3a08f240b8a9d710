-- Words that are made free of flags, one after another.
use Rattle.std.proofs.Common.{◌≡◌, ℕ, ◌+◌, ◌<◌, ◌≤◌, suc, List, length, drop, map, [], ◌∷◌, ◌++◌, Option, Some, None, String, Global, string_bytes, refl, sym, ap, ap₂, ◌∙◌, append_assoc, append-nil, arith, drop-cons}
use Rattle.std.specs.List.{slice_index_or}
use Rattle.std.proofs.lemmas.List.{drop_all, map-append}
use Rattle.std.specs.Prelude.{option_map, option_and_then}
use Rattle.command_line.specs.Flagless.{flagless_word, flagless_words}

abbrev in_front : List (List ℕ) → Option (List (List ℕ)) → Option (List (List ℕ))
in_front made others = option_map (λ (more : List (List ℕ)). made ++ more) others

abbrev next_word : List (List ℕ) → List (List ℕ) → Option (List ℕ) → Option (List (List ℕ))
next_word flags words o = option_and_then (λ (first : List ℕ). option_map (λ (rest : List (List ℕ)). first ∷ rest) (flagless_words flags words)) o

no_word : (flags made : List (List ℕ)) (word : List ℕ) (words : List (List ℕ)) → flagless_word flags word ≡ None
    → option_map (λ (more : List (List ℕ)). made ++ more) (flagless_words flags (word ∷ words)) ≡ None
no_word flags made word words is = ap (λ o. in_front made (next_word flags words o)) is

moved : (made : List (List ℕ)) (word : List ℕ) (others : Option (List (List ℕ)))
    → in_front made (option_map (λ (more : List (List ℕ)). word ∷ more) others) ≡ in_front (made ++ word ∷ []) others
moved made word None = refl
moved made word (Some more) = ap Some (sym (append_assoc made (word ∷ []) more))

one_word : (flags made : List (List ℕ)) (word : List ℕ) (words : List (List ℕ)) (next : List ℕ) → flagless_word flags word ≡ Some next
    → option_map (λ (more : List (List ℕ)). made ++ more) (flagless_words flags (word ∷ words))
    ≡ option_map (λ (more : List (List ℕ)). (made ++ next ∷ []) ++ more) (flagless_words flags words)
one_word flags made word words next is = ap (λ o. in_front made (next_word flags words o)) is ∙ moved made next (flagless_words flags words)

-- no word was made yet
pub no_words_yet : (made : List (String Global)) (all : Option (List (List ℕ))) → made ≡ [] → in_front (map string_bytes made) all ≡ all
no_words_yet made None none = refl
no_words_yet made (Some more) none = ap (λ (ws : List (String Global)). Some (map string_bytes ws ++ more)) none

-- one more word was made
pub words_next : (flags : List (List ℕ)) (before after : List (String Global)) (made : String Global) (words : List (String Global)) (i : ℕ) (d : String Global) (word : List ℕ)
    (all : Option (List (List ℕ))) → i < length words → word ≡ string_bytes (slice_index_or words i d) → Some (string_bytes made) ≡ flagless_word flags word
    → after ≡ before ++ made ∷ []
    → in_front (map string_bytes before) (flagless_words flags (map string_bytes (drop i words))) ≡ all
    → in_front (map string_bytes after) (flagless_words flags (map string_bytes (drop (i + 1) words))) ≡ all
words_next flags before after made words i d word all within same is grown so_far =
    let next : i + 1 ≡ suc i = omega arith in
    ap₂ (λ (ws : List (List ℕ)) (k : ℕ). in_front ws (flagless_words flags (map string_bytes (drop k words)))) (ap (map string_bytes) grown ∙ map-append string_bytes before (made ∷ [])) next
    ∙ sym (one_word flags (map string_bytes before) (string_bytes (slice_index_or words i d)) (map string_bytes (drop (suc i) words)) (string_bytes made)
    (sym (is ∙ ap (flagless_word flags) same)))
    ∙ sym (ap (λ ws. in_front (map string_bytes before) (flagless_words flags (map string_bytes ws))) (drop-cons words i d within)) ∙ so_far

-- one more word is a flag with a value
pub words_stop : (flags : List (List ℕ)) (made words : List (String Global)) (i : ℕ) (d : String Global) (word : List ℕ) (all : Option (List (List ℕ)))
    → i < length words → word ≡ string_bytes (slice_index_or words i d) → None ≡ flagless_word flags word
    → in_front (map string_bytes made) (flagless_words flags (map string_bytes (drop i words))) ≡ all → None ≡ all
words_stop flags made words i d word all within same is so_far =
    sym (no_word flags (map string_bytes made) (string_bytes (slice_index_or words i d)) (map string_bytes (drop (suc i) words)) (sym (is ∙ ap (flagless_word flags) same)))
    ∙ sym (ap (λ ws. in_front (map string_bytes made) (flagless_words flags (map string_bytes ws))) (drop-cons words i d within)) ∙ so_far

-- all words were read
pub words_end : (flags : List (List ℕ)) (made words : List (String Global)) (i : ℕ) (all : Option (List (List ℕ))) → length words ≤ i
    → in_front (map string_bytes made) (flagless_words flags (map string_bytes (drop i words))) ≡ all → Some (map string_bytes made) ≡ all
words_end flags made words i all end so_far =
    sym (ap Some (append-nil (map string_bytes made)))
    ∙ sym (ap (λ ws. in_front (map string_bytes made) (flagless_words flags (map string_bytes ws))) (drop_all i words end)) ∙ so_far
