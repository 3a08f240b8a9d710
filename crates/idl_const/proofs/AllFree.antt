-- Where no given value is under evaluation.
use Rattle.std.proofs.Common.{◌≡◌, ℕ, suc, true, List, [], ◌∷◌, map, length, replicate, refl, ap, ◌∙◌}
use Rattle.idl_const.specs.Marks.{free_count}

pub marks_are : {A : Type 0} (xs : List A) (n : ℕ) → n ≡ length xs → replicate n true ≡ map (λ (x : A). true) xs
marks_are [] n e = ap (λ m. replicate m true) e
marks_are (x ∷ xs) n e = ap (λ m. replicate m true) e ∙ ap (λ l. true ∷ l) (marks_are xs (length xs) refl)

pub count_all : {A : Type 0} (xs : List A) → free_count (map (λ (x : A). true) xs) ≡ length xs
count_all [] = refl
count_all (x ∷ xs) = ap suc (count_all xs)
