-- A name is a base name, a dot and another name.
use Rattle.std.proofs.Common.{◌≡◌, ℕ, Bool, true, false, ◌&&◌, List, [], ◌∷◌, ◌++◌, length, take, drop, nat_eq, refl, ap, ◌∙◌}
use Rattle.std.specs.Str.{bytes_eq}

regroup : (a b c : Bool) → (a && (b && c)) ≡ ((a && b) && c)
regroup true b c = refl
regroup false b c = refl

-- two texts are alike where their fronts are and what stands behind
pub parted : (xs front back : List ℕ) → bytes_eq xs (front ++ back) ≡ (bytes_eq (take (length front) xs) front && bytes_eq (drop (length front) xs) back)
parted xs [] back = refl
parted [] (f ∷ front) back = refl
parted (x ∷ xs) (f ∷ front) back = ap (λ b. nat_eq x f && b) (parted xs front back) ∙ regroup (nat_eq x f) _ _
