-- Sums over numbers below one: a list is no longer than its parts together, and what is within a share each is within all shares.
use Rattle.std.proofs.Common.{◌≡◌, ℕ, zero, suc, ◌+◌, ◌*◌, ◌≤◌, ◌<◌, Bool, ◌==◌, cond, if◌then◌else◌, List, [], ◌∷◌, filter, length, ap, subst, inl, inr, ◌⊎◌, arith, eq-eqb}
use Rattle.std.proofs.lemmas.Bool.{cases_eq}
use Rattle.std.proofs.Math.Nat.{suc-mul}
use Rattle.hub_model.proofs.AsksSeen.{both}

-- the sum over the first k
abbrev pub sum_to : (ℕ → ℕ) → ℕ → ℕ
sum_to f zero = 0
sum_to f (suc k) = sum_to f k + f k

pub sum_more : (f g : ℕ → ℕ) (k : ℕ) → ((m : ℕ) → f m ≤ g m) → sum_to f k ≤ sum_to g k
sum_more f g zero h = omega arith
sum_more f g (suc k) h =
    let rec : sum_to f k ≤ sum_to g k = sum_more f g k h in
    let last : f k ≤ g k = h k in omega arith

pub sum_plus : (f g : ℕ → ℕ) (k : ℕ) → sum_to (λ m. f m + g m) k ≡ sum_to f k + sum_to g k
sum_plus f g zero = omega arith
sum_plus f g (suc k) =
    let rec : sum_to (λ m. f m + g m) k ≡ sum_to f k + sum_to g k = sum_plus f g k in omega arith

below : (x k : ℕ) → x < suc k → (x ≡ k → ⊥) → x < k
below x k lt other = grind arith

abbrev one_at : ℕ → ℕ → ℕ
one_at x m = if x == m then 1 else 0

sum_one : (x k : ℕ) → x < k → 1 ≤ sum_to (one_at x) k
sum_one x zero lt = omega arith
sum_one x (suc k) lt = go (cases_eq x k) (λ less. sum_one x k less)
  where
    go : (x ≡ k) ⊎ (x ≡ k → ⊥) → (x < k → 1 ≤ sum_to (one_at x) k) → 1 ≤ sum_to (one_at x) k + one_at x k
    go (inl e) rec =
        let one : one_at x k ≡ 1 = ap (λ (b : Bool). if b then 1 else 0) (eq-eqb x k e) in omega arith
    go (inr m) rec =
        let less : 1 ≤ sum_to (one_at x) k = rec (below x k lt m) in omega arith

-- a list has no more elements than its parts
pub parted : {X : Type 0} (f : X → ℕ) (k : ℕ) → ((x : X) → f x < k) → (xs : List X) → length xs ≤ sum_to (λ m. length (filter (λ (x : X). f x == m) xs)) k
parted f k w [] = omega arith
parted {X} f k w (x ∷ xs) =
    let one : 1 ≤ sum_to (one_at (f x)) k = sum_one (f x) k (w x) in
    let rec : length xs ≤ sum_to part k = parted f k w xs in
    let plus : sum_to (λ m. one_at (f x) m + part m) k ≡ sum_to (one_at (f x)) k + sum_to part k = sum_plus (one_at (f x)) part k in
    let more : sum_to (λ m. one_at (f x) m + part m) k ≤ sum_to (λ m. length (filter (λ (y : X). f y == m) (x ∷ xs))) k =
    sum_more (λ m. one_at (f x) m + part m) (λ m. length (filter (λ (y : X). f y == m) (x ∷ xs))) k one_more in omega arith
  where
    part : ℕ → ℕ
    part m = length (filter (λ (y : X). f y == m) xs)

    one_more : (m : ℕ) → one_at (f x) m + part m ≤ length (filter (λ (y : X). f y == m) (x ∷ xs))
    one_more m = both (λ b. (if b then 1 else 0) + part m ≤ length (cond b (x ∷ filter (λ (y : X). f y == m) xs) (filter (λ (y : X). f y == m) xs))) (omega arith) (omega arith) (f x == m)

sum_under : (f : ℕ → ℕ) (k b : ℕ) → ((m : ℕ) → m < k → f m ≤ b) → sum_to f k ≤ k * b
sum_under f zero b h = omega arith
sum_under f (suc k) b h =
    let rec : sum_to f k ≤ k * b = sum_under f k b (λ m lt. h m (let more : m < suc k = omega arith in more)) in
    let last : f k ≤ b = h k (let more : k < suc k = omega arith in more) in
    let times : suc k * b ≡ k * b + b = suc-mul k b in omega arith

pub sum_strictly : (f : ℕ → ℕ) (k b l : ℕ) → ((m : ℕ) → m < k → f m ≤ b) → l < k → f l < b → sum_to f k < k * b
sum_strictly f zero b l h lt less = omega arith
sum_strictly f (suc k) b l h lt less = go (cases_eq l k) (λ inner small. sum_strictly f k b l inner small less)
  where
    times : suc k * b ≡ k * b + b
    times = suc-mul k b

    inner : (m : ℕ) → m < k → f m ≤ b
    inner m small = h m (let more : m < suc k = omega arith in more)

    go : (l ≡ k) ⊎ (l ≡ k → ⊥) → (((m : ℕ) → m < k → f m ≤ b) → l < k → sum_to f k < k * b) → sum_to f k + f k < suc k * b
    go (inl e) rec =
        let rest : sum_to f k ≤ k * b = sum_under f k b inner in
        let last : f k < b = subst (λ (x : ℕ). f x < b) e less in
        let t : suc k * b ≡ k * b + b = times in omega arith
    go (inr m) rec =
        let rest : sum_to f k < k * b = rec inner (below l k lt m) in
        let last : f k ≤ b = h k (let more : k < suc k = omega arith in more) in
        let t : suc k * b ≡ k * b + b = times in omega arith
