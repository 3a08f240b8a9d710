-- Sixteen bytes are two halves of eight, the high one first: so what holds of the bytes of 64 bits holds of those of 128.
use Rattle.std.specs.Prelude.{ℤ, pos, negsuc, FitsSigned}
use Rattle.std.specs.Int.{w64, w128, from_be_bytes, to_be_bytes, cast_unsigned}
use Rattle.std.proofs.Common.{◌≡◌, ◌<◌, ◌+◌, ◌*◌, ◌/◌, ◌%◌, ◌^◌, ℕ, List, [], ◌∷◌, ◌++◌, length, take, drop, refl, sym, ap, ◌∙◌, arith}
use Rattle.std.proofs.Math.Facts.{sfits_to_z}
use Rattle.std.proofs.Math.Nat.{div-div-eq-div-mul, mul-add-div}
use Rattle.std.proofs.lemmas.Int.{of_z-to_z}
use Rattle.std.proofs.lemmas.List.{length-take, length-drop, take-append-drop}
use Rattle.std.proofs.lemmas.List.Elements.{All-take, All-drop}
use Rattle.std.proofs.lemmas.Nat.{div-mul-add, div_below}
use Rattle.wire_num.specs.Encoded.{AreByteSized}
use Rattle.wire_num.proofs.Widths.{byte_at, IsWide, wide_64}

-- a byte of the high half, which has this worth in it
high_byte : (high low p : ℕ) → low < 2 ^ 64 → (high * 2 ^ 64 + low) / (2 ^ 64 * p) % 256 ≡ high / p % 256
high_byte high low p small =
    ap (λ (n : ℕ). n % 256) (sym (div-div-eq-div-mul (high * 2 ^ 64 + low) (2 ^ 64) p) ∙ ap (λ (n : ℕ). n / p) (div-mul-add high (2 ^ 64) low small))

-- a byte of the low half, where this worth and another byte's make the high half's
low_byte : (high low p q : ℕ) → 0 < p → (high * 2 ^ 64 + low ≡ p * (256 * q) + low) → (high * 2 ^ 64 + low) / p % 256 ≡ low / p % 256
low_byte high low p q some split =
    ap (λ (n : ℕ). n / p % 256) split ∙ ap (λ (n : ℕ). n % 256) (mul-add-div some (256 * q) low) ∙ (let e : (256 * q + low / p) % 256 ≡ low / p % 256 = omega arith in e)

-- the bytes of two halves stand one behind the other
bytes_of_halves : (high low : ℕ) → low < 2 ^ 64 → to_be_bytes w128 (high * 2 ^ 64 + low) ≡ to_be_bytes w64 high ++ to_be_bytes w64 low
bytes_of_halves high low small =
    let a = high_byte high low (256 ^ 7) small in
    let b = high_byte high low (256 ^ 6) small in
    let c = high_byte high low (256 ^ 5) small in
    let d = high_byte high low (256 ^ 4) small in
    let e = high_byte high low (256 ^ 3) small in
    let f = high_byte high low (256 ^ 2) small in
    let g = high_byte high low 256 small in
    let h : (high * 2 ^ 64 + low) / 2 ^ 64 % 256 ≡ high % 256 = ap (λ (n : ℕ). n % 256) (div-mul-add high (2 ^ 64) low small) in
    let i = low_byte high low (256 ^ 7) high (omega arith) (omega arith) in
    let j = low_byte high low (256 ^ 6) (256 * high) (omega arith) (omega arith) in
    let k = low_byte high low (256 ^ 5) (256 ^ 2 * high) (omega arith) (omega arith) in
    let l = low_byte high low (256 ^ 4) (256 ^ 3 * high) (omega arith) (omega arith) in
    let m = low_byte high low (256 ^ 3) (256 ^ 4 * high) (omega arith) (omega arith) in
    let n = low_byte high low (256 ^ 2) (256 ^ 5 * high) (omega arith) (omega arith) in
    let o = low_byte high low 256 (256 ^ 6 * high) (omega arith) (omega arith) in
    let p : (high * 2 ^ 64 + low) % 256 ≡ low % 256 = omega arith in
    λ t. a t ∷ b t ∷ c t ∷ d t ∷ e t ∷ f t ∷ g t ∷ h t ∷ i t ∷ j t ∷ k t ∷ l t ∷ m t ∷ n t ∷ o t ∷ p t ∷ []

-- and make one number
number_of_halves : (front back : List ℕ) → length front ≡ 8 → from_be_bytes w128 (front ++ back) ≡ from_be_bytes w64 front * 2 ^ 64 + from_be_bytes w64 back
number_of_halves [] back len = absurd (let f : ⊥ = omega arith in f)
number_of_halves (a ∷ []) back len = absurd (let f : ⊥ = omega arith in f)
number_of_halves (a ∷ b ∷ []) back len = absurd (let f : ⊥ = omega arith in f)
number_of_halves (a ∷ b ∷ c ∷ []) back len = absurd (let f : ⊥ = omega arith in f)
number_of_halves (a ∷ b ∷ c ∷ d ∷ []) back len = absurd (let f : ⊥ = omega arith in f)
number_of_halves (a ∷ b ∷ c ∷ d ∷ e ∷ []) back len = absurd (let f : ⊥ = omega arith in f)
number_of_halves (a ∷ b ∷ c ∷ d ∷ e ∷ f ∷ []) back len = absurd (let f : ⊥ = omega arith in f)
number_of_halves (a ∷ b ∷ c ∷ d ∷ e ∷ f ∷ g ∷ []) back len = absurd (let f : ⊥ = omega arith in f)
number_of_halves (a ∷ b ∷ c ∷ d ∷ e ∷ f ∷ g ∷ h ∷ []) back len = omega arith
number_of_halves (a ∷ b ∷ c ∷ d ∷ e ∷ f ∷ g ∷ h ∷ i ∷ more) back len = absurd (let f : ⊥ = omega arith in f)

back_128 : (bytes : List ℕ) → length bytes ≡ 16 → AreByteSized bytes → to_be_bytes w128 (from_be_bytes w128 bytes) ≡ bytes
back_128 bytes len fits =
    let front = take 8 bytes in
    let back = drop 8 bytes in
    let halves : front ++ back ≡ bytes = take-append-drop 8 bytes in
    let first : length front ≡ 8 = omega (arith, length-take 8 bytes) in
    let second : length back ≡ 8 = omega (arith, length-drop 8 bytes) in
    let fits_back = All-drop (λ b. b < 256) 8 bytes fits in
    let e : to_be_bytes w128 (from_be_bytes w128 (front ++ back)) ≡ front ++ back =
    ap (to_be_bytes w128) (number_of_halves front back first)
    ∙ bytes_of_halves (from_be_bytes w64 front) (from_be_bytes w64 back) (wide_64.below back fits_back)
    ∙ ap (λ (t : List ℕ). t ++ to_be_bytes w64 (from_be_bytes w64 back)) (wide_64.back front first (All-take (λ b. b < 256) 8 bytes fits))
    ∙ ap (λ (t : List ℕ). front ++ t) (wide_64.back back second fits_back) in
    ap (λ (t : List ℕ). to_be_bytes w128 (from_be_bytes w128 t)) (sym halves) ∙ e ∙ halves

again_128 : (n : ℕ) → n < 2 ^ 128 → from_be_bytes w128 (to_be_bytes w128 n) ≡ n
again_128 n lt =
    let high : ℕ = n / 2 ^ 64 in
    let low : ℕ = n % 2 ^ 64 in
    let split : n ≡ high * 2 ^ 64 + low = omega arith in
    let high_small : high < 2 ^ 64 = div_below n (2 ^ 64) (2 ^ 64) (omega arith) (omega (arith, lt)) in
    let low_small : low < 2 ^ 64 = omega arith in
    ap (λ (t : ℕ). from_be_bytes w128 (to_be_bytes w128 t)) split
    ∙ ap (from_be_bytes w128) (bytes_of_halves high low low_small)
    ∙ number_of_halves (to_be_bytes w64 high) (to_be_bytes w64 low) (wide_64.len high)
    ∙ ap (λ (t : ℕ). t * 2 ^ 64 + from_be_bytes w64 (to_be_bytes w64 low)) (wide_64.again high high_small)
    ∙ ap (λ (t : ℕ). high * 2 ^ 64 + t) (wide_64.again low low_small)
    ∙ sym split

unsigned_128 : (z : ℤ) → FitsSigned w128 z → cast_unsigned w128 z < 2 ^ 128
unsigned_128 (pos n) h = omega (arith, h.sfits)
unsigned_128 (negsuc n) h = omega (arith, h.sfits)

pub wide_128 : IsWide w128
wide_128 = record {
  len = λ n. refl;
  back = back_128;
  again = again_128;
  below = λ bytes fits. omega (arith, byte_at bytes fits 0, byte_at bytes fits 1, byte_at bytes fits 2, byte_at bytes fits 3, byte_at bytes fits 4, byte_at bytes fits 5, byte_at bytes fits 6, byte_at bytes fits 7, byte_at bytes fits 8, byte_at bytes fits 9, byte_at bytes fits 10, byte_at bytes fits 11, byte_at bytes fits 12, byte_at bytes fits 13, byte_at bytes fits 14, byte_at bytes fits 15);
  signs = λ n lt. of_z-to_z w128 n lt;
  fits = λ n lt. sfits_to_z {w = w128} {n = n} (record { fits = lt });
  unsigned = unsigned_128;
}
