-- Sums over connections, of which one changes.
use Rattle.std.proofs.Common.{◌≡◌, ℕ, zero, suc, ◌+◌, ◌<◌, ◌≤◌, ◌⊎◌, refl, ap, ◌∙◌, inl, inr, arith}
use Rattle.std.proofs.lemmas.Bool.{cases_eq}
use Rattle.machine_model.specs.Loop.{LoopConn, with_conn, count_if_open, open_among}
use Rattle.machine_model.specs.Bounds.{sum_among}
use Rattle.machine_model.proofs.Lists.{put_same, put_other}

-- a connection that isn't among them
pub sum_outside : (f : LoopConn → ℕ) (conns : ℕ → LoopConn) (c : ℕ) (conn : LoopConn) (n : ℕ) → n ≤ c → sum_among f (with_conn conns c conn) n ≡ sum_among f conns n
sum_outside f conns c conn zero l = refl
sum_outside f conns c conn (suc n) l =
    let h : f (with_conn conns c conn n) ≡ f (conns n) = ap f (put_other conns c conn n (λ e. let g : ⊥ = omega arith in g)) in
    let t : sum_among f (with_conn conns c conn) n ≡ sum_among f conns n = sum_outside f conns c conn n (omega arith) in
    omega arith

-- one that is
pub sum_changed : (f : LoopConn → ℕ) (conns : ℕ → LoopConn) (c : ℕ) (conn : LoopConn) (n : ℕ) → c < n
    → sum_among f (with_conn conns c conn) n + f (conns c) ≡ sum_among f conns n + f conn
sum_changed f conns c conn zero l = absurd (let g : ⊥ = omega arith in g)
sum_changed f conns c conn (suc n) l = go (cases_eq n c) (sum_changed f conns c conn n)
  where
    go : (n ≡ c) ⊎ (n ≡ c → ⊥) → (c < n → sum_among f (with_conn conns c conn) n + f (conns c) ≡ sum_among f conns n + f conn)
        → f (with_conn conns c conn n) + sum_among f (with_conn conns c conn) n + f (conns c) ≡ f (conns n) + sum_among f conns n + f conn
    go (inl e) rec =
        let h : f (with_conn conns c conn n) ≡ f conn = ap (λ x. f (with_conn conns c conn x)) e ∙ ap f (put_same conns c conn) in
        let k : f (conns n) ≡ f (conns c) = ap (λ x. f (conns x)) e in
        let t : sum_among f (with_conn conns c conn) n ≡ sum_among f conns n = sum_outside f conns c conn n (omega arith) in
        omega arith
    go (inr m) rec =
        let h : f (with_conn conns c conn n) ≡ f (conns n) = ap f (put_other conns c conn n m) in
        let t : sum_among f (with_conn conns c conn) n + f (conns c) ≡ sum_among f conns n + f conn = rec (omega arith) in
        omega arith

-- how many are open is such a sum
pub open_sum : (conns : ℕ → LoopConn) (n : ℕ) → open_among conns n ≡ sum_among (λ conn. count_if_open conn.cause) conns n
open_sum conns zero = refl
open_sum conns (suc n) = ap (λ k. count_if_open (conns n).cause + k) (open_sum conns n)

-- the sum of two sums
pub sum_both : (f g : LoopConn → ℕ) (conns : ℕ → LoopConn) (n : ℕ) → sum_among (λ conn. f conn + g conn) conns n ≡ sum_among f conns n + sum_among g conns n
sum_both f g conns zero = refl
sum_both f g conns (suc n) =
    let t : sum_among (λ conn. f conn + g conn) conns n ≡ sum_among f conns n + sum_among g conns n = sum_both f g conns n in omega arith

-- a sum whose parts are no greater, and one that is less
pub sum_within : (f g : LoopConn → ℕ) (conns : ℕ → LoopConn) (n : ℕ) → ((x : ℕ) → x < n → f (conns x) ≤ g (conns x)) → sum_among f conns n ≤ sum_among g conns n
sum_within f g conns zero each = omega arith
sum_within f g conns (suc n) each =
    let h : f (conns n) ≤ g (conns n) = each n (omega arith) in
    let t : sum_among f conns n ≤ sum_among g conns n = sum_within f g conns n (λ x l. each x (omega arith)) in
    omega arith

pub sum_below : (f g : LoopConn → ℕ) (conns : ℕ → LoopConn) (n c : ℕ) → ((x : ℕ) → x < n → f (conns x) ≤ g (conns x)) → c < n → f (conns c) < g (conns c)
    → sum_among f conns n < sum_among g conns n
sum_below f g conns zero c each l less = absurd (let h : ⊥ = omega arith in h)
sum_below f g conns (suc n) c each l less = go (cases_eq n c) (λ k. sum_below f g conns n c (λ x h. each x (omega arith)) k less)
  where
    go : (n ≡ c) ⊎ (n ≡ c → ⊥) → (c < n → sum_among f conns n < sum_among g conns n) → f (conns n) + sum_among f conns n < g (conns n) + sum_among g conns n
    go (inl e) rec =
        let a : f (conns n) ≡ f (conns c) = ap (λ x. f (conns x)) e in
        let b : g (conns n) ≡ g (conns c) = ap (λ x. g (conns x)) e in
        let t : sum_among f conns n ≤ sum_among g conns n = sum_within f g conns n (λ x k. each x (omega arith)) in
        omega arith
    go (inr m) rec =
        let h : f (conns n) ≤ g (conns n) = each n (omega arith) in
        let t : sum_among f conns n < sum_among g conns n = rec (omega arith) in
        omega arith
