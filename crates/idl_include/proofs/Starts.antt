-- Where a name's last segment begins.
use Rattle.std.proofs.Common.{◌≡◌, ◌≢◌, ◌≤◌, ◌<◌, ◌-◌, ◌+◌, ℕ, zero, suc, subst, Bool, not, List, length, get_or, take, drop, ap, sym, arith}
use Rattle.std.specs.List.{suffix_len}
use Rattle.std.proofs.lemmas.Bool.{ne_eqb}
use Rattle.std.proofs.lemmas.List.{length-drop}
use Rattle.std.proofs.lemmas.List.Sums.{suffix_len_is, suffix_len-le-length}
use Rattle.std.specs.Str.{IsUtf8, IsCharBoundary}
use Rattle.std.proofs.lemmas.Str.{IsCharBoundary-start, IsCharBoundary-after_ascii}
use Rattle.idl_include.specs.FileNames.{is_slash, last_segment, folder_of}

-- a byte of a segment
abbrev pub is_plain : ℕ → Bool
is_plain b = not (is_slash b)

pub start_is : (name : List ℕ) (at : ℕ) → at ≤ length name → ((k : ℕ) → at ≤ k → k < length name → get_or name k 0 ≢ 47)
    → (0 < at → get_or name (at - 1) 0 ≡ 47) → length name - suffix_len is_plain name ≡ at
start_is name at h none here =
    let e : suffix_len is_plain name ≡ length name - at =
    suffix_len_is is_plain name at 0 h (λ k p q. ap not (ne_eqb (get_or name k 0) 47 (none k p q))) (λ p. ap is_plain (here p)) in
    omega (arith, e, h)

pub last_is : (name : List ℕ) (at : ℕ) → length name - suffix_len is_plain name ≡ at → drop at name ≡ last_segment name
last_is name at e = ap (λ n. drop n name) (sym e)

pub folder_is : (name : List ℕ) (at : ℕ) → length name - suffix_len is_plain name ≡ at → take at name ≡ folder_of name
folder_is name at e =
    let most = suffix_len-le-length is_plain name in
    let size : length (last_segment name) ≡ length name - (length name - suffix_len is_plain name) = length-drop (length name - suffix_len is_plain name) name in
    let same : at ≡ length name - length (last_segment name) = omega (arith, e, most, size) in
    ap (λ n. take n name) same

pub whole_is : (name : List ℕ) (at : ℕ) → at ≤ 0 → ((k : ℕ) → at ≤ k → k < length name → get_or name k 0 ≢ 47) → length name - suffix_len is_plain name ≡ 0
whole_is name at end none =
    start_is name 0 (omega arith) (λ k p q. none k (omega (arith, end, p)) q) (λ (p : 0 < 0). absurd (let no : ⊥ = omega (arith, p) in no))

-- a name may be cut there
pub cut_is : (name : List ℕ) (at : ℕ) → IsUtf8 name → at ≤ length name → (0 < at → get_or name (at - 1) 0 ≡ 47) → IsCharBoundary name at
cut_is name zero text h here = IsCharBoundary-start name text
cut_is name (suc k) text h here =
    let P : ℕ → Type 0 = λ n. get_or name n 0 ≡ 47 in
    let B : ℕ → Type 0 = λ n. IsCharBoundary name n in
    let before : suc k - 1 ≡ k = omega arith in
    let next : k + 1 ≡ suc k = omega arith in
    let e : get_or name k 0 ≡ 47 = subst P before (here (omega arith)) in
    let small : get_or name k 0 < 128 = omega (arith, e) in
    let inside : k < length name = omega (arith, h) in
    subst B next (IsCharBoundary-after_ascii name k text inside small)
