-- Two splits of one list at the first element at fault are the same, and lists that are told place by place are one.
use Rattle.std.proofs.Common.{◌≡◌, List, [], ◌∷◌, ◌++◌, None, Some, refl, ap, sym, subst}
use Rattle.std.specs.Option.{unwrap_or}
use Rattle.std.specs.List.{AllByRecursion, AllZip}

-- the first element
pub head_or : {A : Type 0} → A → List A → A
head_or d [] = d
head_or d (x ∷ xs) = x

-- what stands behind the first element
pub rest_of : {A : Type 0} → List A → List A
rest_of [] = []
rest_of (x ∷ xs) = xs

pub heads : {A : Type 0} (x y : A) (xs ys : List A) → x ∷ xs ≡ y ∷ ys → x ≡ y
unfolding head_or
heads x y xs ys e = ap (head_or x) e

pub rests : {A : Type 0} (x y : A) (xs ys : List A) → x ∷ xs ≡ y ∷ ys → xs ≡ ys
unfolding rest_of
rests x y xs ys e = ap rest_of e

pub somes : {A : Type 0} (x y : A) → Some x ≡ Some y → x ≡ y
somes x y e = ap (λ o. unwrap_or o x) e

pub none_some : {A : Type 0} (x : A) → None ≡ Some x → ⊥
none_some x e = cc

-- the first elements at fault of two splits of one list are the same
pub first_is_one : {A : Type 0} (Q R : A → Type 0) → ((x : A) → Q x → R x → ⊥) → (before : List A) (x : A) (after : List A) (front : List A) (y : A) (back : List A)
    → before ++ x ∷ after ≡ front ++ y ∷ back → AllByRecursion Q before → R x → AllByRecursion Q front → R y → x ≡ y
first_is_one Q R apart [] x after [] y back e q r s t = heads x y after back e
first_is_one Q R apart [] x after (z ∷ front) y back e q r s t =
    absurd (apart z s.0 (subst R (heads x z after (front ++ y ∷ back) e) r))
first_is_one Q R apart (z ∷ before) x after [] y back e q r s t =
    absurd (apart z q.0 (subst R (sym (heads z y (before ++ x ∷ after) back e)) t))
first_is_one Q R apart (z ∷ before) x after (w ∷ front) y back e q r s t =
    first_is_one Q R apart before x after front y back (rests z w (before ++ x ∷ after) (front ++ y ∷ back) e) q.1 r s.1 t

-- what holds of each element of a split list holds of the one at the split
pub holds_at_split : {A : Type 0} (Q : A → Type 0) (before : List A) (x : A) (after : List A) → AllByRecursion Q (before ++ x ∷ after) → Q x
holds_at_split Q [] x after q = q.0
holds_at_split Q (z ∷ before) x after q = holds_at_split Q before x after q.1

-- a list whose elements are told one by one is one
pub zip_is_one : {A B : Type 0} (R : A → B → Type 0) → ((x : A) (y z : B) → R x y → R x z → y ≡ z) → (xs : List A) (ys zs : List B)
    → AllZip R xs ys → AllZip R xs zs → ys ≡ zs
zip_is_one R one [] [] [] p q = refl
zip_is_one R one [] [] (z ∷ zs) p q = absurd q
zip_is_one R one [] (y ∷ ys) zs p q = absurd p
zip_is_one R one (x ∷ xs) [] zs p q = absurd p
zip_is_one R one (x ∷ xs) (y ∷ ys) [] p q = absurd q
zip_is_one R one (x ∷ xs) (y ∷ ys) (z ∷ zs) p q = λ i. one x y z p.0 q.0 i ∷ zip_is_one R one xs ys zs p.1 q.1 i
