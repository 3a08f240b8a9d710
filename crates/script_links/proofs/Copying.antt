-- A list that is copied item by item.
use Rattle.std.proofs.Common.{◌≡◌, ℕ, zero, suc, ◌+◌, ◌<◌, ◌≤◌, List, [], ◌∷◌, ◌++◌, length, take, get_or, refl, sym, ap, ◌∙◌, arith, length-append}
use Rattle.std.proofs.lemmas.List.{take_all}

one_more : {X : Type 0} (n : ℕ) (xs : List X) (x : X) → n < length xs → x ≡ get_or xs n x → take (suc n) xs ≡ take n xs ++ x ∷ []
one_more n [] x below is = absurd (let f : ⊥ = omega arith in f)
one_more zero (y ∷ xs) x below is = ap (λ z. z ∷ []) (sym is)
one_more (suc n) (y ∷ xs) x below is = ap (λ zs. y ∷ zs) (one_more n xs x (omega arith) is)

-- one item more is copied
pub copied_on : {X : Type 0} (copy now xs : List X) (x : X) → copy ≡ take (length copy) xs → length copy < length xs → x ≡ get_or xs (length copy) x → now ≡ copy ++ x ∷ [] → now ≡ take (length now) xs
copied_on copy now xs x are below is more =
    let long : length now ≡ length copy + 1 = ap length more ∙ length-append copy (x ∷ []) in
    let next : suc (length copy) ≡ length now = omega arith in
    more ∙ ap (λ ys. ys ++ x ∷ []) are ∙ sym (one_more (length copy) xs x below is) ∙ ap (λ n. take n xs) next

-- all are
pub copied_all : {X : Type 0} (copy xs : List X) → copy ≡ take (length copy) xs → length xs ≤ length copy → copy ≡ xs
copied_all copy xs are whole = are ∙ take_all (length copy) xs whole
