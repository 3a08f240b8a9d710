-- Segments with `/` between them.
use Rattle.std.proofs.Common.{◌≡◌, ℕ, List, [], ◌∷◌, ◌++◌, reverse, refl, ap, sym, ◌∙◌}
use Rattle.std.specs.List.{join_by, join_with_byte}
use Rattle.std.proofs.lemmas.List.{append-nil, reverse-reverse}
use Rattle.idl_include.specs.Texts.{texts}
use denote.Ref.{Bor}

by_byte : (xs : List (Bor (List ℕ))) → join_by (λ (text : Bor (List ℕ)). text.now) (47 ∷ []) xs ≡ join_with_byte 47 (texts xs)
by_byte [] = refl
by_byte (x ∷ []) = append-nil x.now
by_byte (x ∷ y ∷ xs) = ap (λ rest. x.now ++ (47 ∷ rest)) (by_byte (y ∷ xs))

pub joined_is : (xs : List (Bor (List ℕ))) (all : List (List ℕ)) → reverse (texts xs) ≡ all
    → join_by (λ (text : Bor (List ℕ)). text.now) (47 ∷ []) xs ≡ join_with_byte 47 (reverse all)
joined_is xs all e = by_byte xs ∙ ap (join_with_byte 47) (sym (reverse-reverse (texts xs)) ∙ ap reverse e)
