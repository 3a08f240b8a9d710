-- Where a name's last dot stands.
use Rattle.std.proofs.Common.{◌≡◌, ◌≢◌, ◌≤◌, ◌<◌, ◌-◌, ℕ, Bool, not, List, length, get_or, take, drop, ap, sym, arith}
use Rattle.std.specs.List.{suffix_len}
use Rattle.std.proofs.lemmas.Bool.{ne_eqb}
use Rattle.std.proofs.lemmas.List.Sums.{suffix_len_is}
use Rattle.idl_include.specs.Names.{is_dot, qualifier, bare_name}

-- a byte that is no dot
abbrev is_other : ℕ → Bool
is_other b = not (is_dot b)

start_is : (name : List ℕ) (at : ℕ) → at ≤ length name → ((k : ℕ) → at ≤ k → k < length name → get_or name k 0 ≢ 46)
    → (0 < at → get_or name (at - 1) 0 ≡ 46) → length name - suffix_len is_other name ≡ at
start_is name at h none here =
    let e : suffix_len is_other name ≡ length name - at =
    suffix_len_is is_other name at 0 h (λ k p q. ap not (ne_eqb (get_or name k 0) 46 (none k p q))) (λ p. ap is_other (here p)) in
    omega (arith, e, h)

pub before_is : (name : List ℕ) (at : ℕ) → at ≤ length name → ((k : ℕ) → at ≤ k → k < length name → get_or name k 0 ≢ 46)
    → (0 < at → get_or name (at - 1) 0 ≡ 46) → take (at - 1) name ≡ qualifier name
before_is name at h none here = ap (λ n. take (n - 1) name) (sym (start_is name at h none here))

pub behind_is : (name : List ℕ) (at : ℕ) → at ≤ length name → ((k : ℕ) → at ≤ k → k < length name → get_or name k 0 ≢ 46)
    → (0 < at → get_or name (at - 1) 0 ≡ 46) → drop at name ≡ bare_name name
behind_is name at h none here = ap (λ n. drop n name) (sym (start_is name at h none here))

-- where there is no dot, all of the name stands behind it
pub none_before : (name : List ℕ) (at : ℕ) → at ≤ 0 → ((k : ℕ) → at ≤ k → k < length name → get_or name k 0 ≢ 46)
    → (take 0 name ≡ qualifier name) × (name ≡ bare_name name)
none_before name at end none =
    let all : (k : ℕ) → 0 ≤ k → k < length name → get_or name k 0 ≢ 46 = λ k p q. none k (omega (arith, end, p)) q in
    let here : 0 < 0 → get_or name (0 - 1) 0 ≡ 46 = λ p. absurd (let no : ⊥ = omega (arith, p) in no) in
    (before_is name 0 (omega arith) all here, behind_is name 0 (omega arith) all here)
