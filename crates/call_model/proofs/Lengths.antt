-- How long the parts of a written message are.
use Rattle.std.proofs.Common.{ℕ, zero, suc, ◌+◌, ◌/◌, ◌%◌, ◌≤◌, ◌==◌, Bool, true, false, if◌then◌else◌, List, [], ◌∷◌, length, nat_lt, arith}
use Rattle.std.specs.Int.{w32}
use Rattle.std.specs.Fmt.{digits, digits_onto, digit_glyph, decimal}
use Rattle.wire_num.specs.Varint.{groups_of, varint_bytes}

-- no more groups than this
groups_length : (most n : ℕ) → length (groups_of most n) ≤ most
groups_length zero n = omega arith
groups_length (suc most) n = either (nat_lt n 128) (groups_length most (n / 128))
  where
    either : (b : Bool) → length (groups_of most (n / 128)) ≤ most → length (if b then n ∷ [] else (128 + n % 128) ∷ groups_of most (n / 128)) ≤ suc most
    either true rest = omega arith
    either false rest = omega (arith, rest)

-- a varint of 32 bits
pub varint_length : (n : ℕ) → length (varint_bytes w32 n) ≤ 5
varint_length n = groups_length 5 n

-- no more digits than this, and what stands behind them
digits_length : (k n : ℕ) (acc : List ℕ) → length (digits_onto k 10 false n acc) ≤ k + length acc
digits_length zero n acc = omega arith
digits_length (suc k) n acc = either (n / 10 == 0) (digits_length k (n / 10) (digit_glyph false (n % 10) ∷ acc))
  where
    either : (b : Bool) → length (digits_onto k 10 false (n / 10) (digit_glyph false (n % 10) ∷ acc)) ≤ k + suc (length acc)
        → length (if b then digit_glyph false (n % 10) ∷ acc else digits_onto k 10 false (n / 10) (digit_glyph false (n % 10) ∷ acc)) ≤ suc k + length acc
    either true rest = omega arith
    either false rest = omega (arith, rest)

-- a decimal
pub decimal_length : (n : ℕ) → length (decimal n) ≤ 64
unfolding digits
decimal_length n = omega (arith, digits_length 64 n [])
