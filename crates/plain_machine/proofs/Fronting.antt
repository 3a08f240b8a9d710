-- Definitions over lists, computed from the front: what was made so far, and what the definition makes of the rest.
use Rattle.std.proofs.Common.{◌≡◌, ℕ, suc, ◌+◌, ◌<◌, Bool, true, false, cond, List, [], ◌∷◌, ◌++◌, length, drop, get_or, filter, sym, ap, ◌∙◌, arith, append_assoc, append-nil}
use Rattle.std.specs.List.{flat_map}
use Rattle.std.proofs.Math.Seq.{drop-cons, drop-length}

-- behind its first i elements a list goes on with element i
pub next_of : {X : Type 0} (xs : List X) (i : ℕ) (x : X) → i < length xs → x ≡ get_or xs i x → drop i xs ≡ x ∷ drop (i + 1) xs
next_of xs i x l is =
    let n : i + 1 ≡ suc i = omega arith in
    drop-cons xs i x l ∙ (λ j. sym is j ∷ drop (sym n j) xs)

-- what was made, and what a function makes of each further element, are what it makes of all
pub record Flat {X Y : Type 0} (f : X → List Y) (xs : List X) (i : ℕ) (out : List Y) : Type 0 where
  pub so_far : out ++ flat_map f (drop i xs) ≡ flat_map f xs

pub flat_on : {X Y : Type 0} (f : X → List Y) (xs : List X) (i : ℕ) (x : X) (out next : List Y) → Flat f xs i out → i < length xs → x ≡ get_or xs i x
    → next ≡ out ++ f x → Flat f xs (i + 1) next
flat_on f xs i x out next w l is e =
    record {
      so_far = ap (λ t. t ++ flat_map f (drop (i + 1) xs)) e ∙ append_assoc out (f x) (flat_map f (drop (i + 1) xs))
          ∙ ap (λ t. out ++ flat_map f t) (sym (next_of xs i x l is)) ∙ w.so_far;
    }

pub flat_all : {X Y : Type 0} (f : X → List Y) (xs : List X) (out : List Y) → Flat f xs (length xs) out → out ≡ flat_map f xs
flat_all f xs out w = sym (append-nil out) ∙ ap (λ t. out ++ flat_map f t) (sym (drop-length xs)) ∙ w.so_far

-- what was kept, and what a test keeps of the rest, are what it keeps of all
pub record Kept {X : Type 0} (p : X → Bool) (xs : List X) (i : ℕ) (out : List X) : Type 0 where
  pub so_far : out ++ filter p (drop i xs) ≡ filter p xs

pub kept_on : {X : Type 0} (p : X → Bool) (xs : List X) (i : ℕ) (x y : X) (out next : List X) → Kept p xs i out → i < length xs → x ≡ get_or xs i x
    → p x ≡ true → y ≡ x → next ≡ out ++ y ∷ [] → Kept p xs (i + 1) next
kept_on {X} p xs i x y out next w l is t same e =
    let rest : List X = filter p (drop (i + 1) xs) in
    record {
      so_far = ap (λ s. s ++ rest) (e ∙ ap (λ z. out ++ z ∷ []) same) ∙ append_assoc out (x ∷ []) rest ∙ ap (λ b. out ++ cond b (x ∷ rest) rest) (sym t)
          ∙ ap (λ s. out ++ filter p s) (sym (next_of xs i x l is)) ∙ w.so_far;
    }

pub passed_on : {X : Type 0} (p : X → Bool) (xs : List X) (i : ℕ) (x : X) (out next : List X) → Kept p xs i out → i < length xs → x ≡ get_or xs i x
    → p x ≡ false → next ≡ out → Kept p xs (i + 1) next
passed_on {X} p xs i x out next w l is t e =
    let rest : List X = filter p (drop (i + 1) xs) in
    record {
      so_far = ap (λ s. s ++ rest) e ∙ ap (λ b. out ++ cond b (x ∷ rest) rest) (sym t) ∙ ap (λ s. out ++ filter p s) (sym (next_of xs i x l is)) ∙ w.so_far;
    }

pub kept_all : {X : Type 0} (p : X → Bool) (xs : List X) (out : List X) → Kept p xs (length xs) out → out ≡ filter p xs
kept_all p xs out w = sym (append-nil out) ∙ ap (λ t. out ++ filter p t) (sym (drop-length xs)) ∙ w.so_far
