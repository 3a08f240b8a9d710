-- Lists that are told place by place, one more at a time.
use Rattle.std.proofs.Common.{◌≡◌, ◌≤◌, ◌<◌, ◌+◌, ◌++◌, ℕ, List, [], ◌∷◌, map, length, get_or, take, ap, sym, subst, ◌∙◌}
use Rattle.std.specs.List.{AllZip}
use Rattle.std.proofs.lemmas.List.{map-append, take_all}
use Rattle.idl_names.proofs.Marked.{taken_more}

pub zip_push : {A B : Type 0} (R : A → B → Type 0) (xs : List A) (ys : List B) (x : A) (y : B) → AllZip R xs ys → R x y → AllZip R (xs ++ x ∷ []) (ys ++ y ∷ [])
zip_push R [] [] x y h r = (r, tt)
zip_push R [] (b ∷ ys) x y h r = absurd h
zip_push R (a ∷ xs) [] x y h r = absurd h
zip_push R (a ∷ xs) (b ∷ ys) x y h r = (h.0, zip_push R xs ys x y h.1 r)

-- one more at the end of a list, by what it stands for
pub mapped_push : {A B : Type 0} (f : A → B) (xs new : List A) (x : A) → new ≡ xs ++ x ∷ [] → map f new ≡ map f xs ++ f x ∷ []
mapped_push f xs new x pushed = ap (map f) pushed ∙ map-append f xs (x ∷ [])

-- the first of a list and one more, by what they stand for
pub taken_push : {A B : Type 0} (f : A → B) (xs : List A) (i : ℕ) (x : A) → i < length xs → x ≡ get_or xs i x → map f (take (i + 1) xs) ≡ map f (take i xs) ++ f x ∷ []
taken_push f xs i x l here = ap (map f) (taken_more xs i x l here) ∙ map-append f (take i xs) (x ∷ [])

pub zip_next : {A B D T : Type 0} (R : A → B → Type 0) (declared : D → A) (plain : T → B) (items : List D) (i : ℕ) (x : D) (t : T) (old new : List T)
    → i < length items → x ≡ get_or items i x → new ≡ old ++ t ∷ [] → R (declared x) (plain t)
    → AllZip R (map declared (take i items)) (map plain old) → AllZip R (map declared (take (i + 1) items)) (map plain new)
zip_next {A} {B} R declared plain items i x t old new l here pushed own so_far =
    let P : List A → Type 0 = λ xs. AllZip R xs (map plain new) in
    let Q : List B → Type 0 = λ ps. AllZip R (map declared (take i items) ++ declared x ∷ []) ps in
    subst P (sym (taken_push declared items i x l here))
    (subst Q (sym (mapped_push plain old new t pushed)) (zip_push R (map declared (take i items)) (map plain old) (declared x) (plain t) so_far own))

pub zip_end : {A B D : Type 0} (R : A → B → Type 0) (declared : D → A) (items : List D) (n : ℕ) (ys : List B) → length items ≤ n
    → AllZip R (map declared (take n items)) ys → AllZip R (map declared items) ys
zip_end {A} R declared items n ys past so_far =
    let P : List A → Type 0 = λ xs. AllZip R xs ys in
    subst P (ap (map declared) (take_all n items past)) so_far
