-- The bits of whole numbers.
use Rattle.std.proofs.Common.{◌≡◌, ℕ, zero, suc, ℤ, pos, negsuc, ◌+◌, ◌-◌, ◌*◌, ◌^◌, ◌<◌, ◌≤◌, true, false, sym, ap, ◌∙◌, subst, arith, eqb, inl, inr, ◌⊎◌, ◌≢◌}
use Rattle.std.proofs.Math.Nat.{mul-le-mul_left}
use Rattle.std.proofs.lemmas.Bool.{false≢true}
use Rattle.std.proofs.lemmas.Nat.{pow-add, pow_pos}
use Rattle.std.specs.Bool.{if◌then◌else◌}
use Rattle.std.proofs.lemmas.Bool.Decides.{eqb_tells}
use Rattle.std.specs.Int.RustNames.{unsigned_abs}
use borrow.Author.Tests.{ltb-true}
use lib.Signed.{lt_z}
use Rattle.check_model.specs.WholeDoubles.{magnitude_bits, double_bits, highest_bit, bits_at}

-- a part of a power with the other part
narrowed : (place rest : ℕ) → place ≤ 52 → rest < 2 ^ place → rest * 2 ^ (52 - place) < 2 ^ 52
narrowed place rest most below =
    let whole : place + (52 - place) ≡ 52 = omega arith in
    let wide : 2 ^ place * 2 ^ (52 - place) ≡ 2 ^ 52 = sym (pow-add 2 place (52 - place)) ∙ ap (λ n. 2 ^ n) whole in
    let some = pow_pos (52 - place) in
    let scaled = mul-le-mul_left (2 ^ (52 - place)) below in
    omega (arith, scaled, wide, some)

-- what stands behind the highest bit of a number has room in a fraction
pub fraction_fits : (place rest : ℕ) → place ≤ 53 → rest < 2 ^ place → (place ≡ 53 → rest ≡ 0) → rest * 2 ^ (52 - place) < 2 ^ 52
fraction_fits place zero most below last = omega (arith, pow_pos 52)
fraction_fits place (suc rest) most below last =
    let other : place ≡ 53 → ⊥ = λ e. (let none = last e in omega arith) in
    let inside : place ≤ 52 = omega (arith, other) in
    narrowed place (suc rest) inside below

-- a number with its sign
pub bits_below_zero : (z : ℤ) (top size : ℕ) → top ≡ 2 ^ 63 → size ≡ magnitude_bits (unsigned_abs z) → lt_z z (pos 0) ≡ true → top + size ≡ double_bits z
unfolding double_bits
bits_below_zero (pos n) top size t s below = absurd (let h = ltb-true n 0 below in omega arith)
bits_below_zero (negsuc n) top size t s below = λ i. t i + s i

pub bits_from_zero : (z : ℤ) (size : ℕ) → size ≡ magnitude_bits (unsigned_abs z) → lt_z z (pos 0) ≡ false → size ≡ double_bits z
unfolding double_bits
bits_from_zero (pos n) size s above = s
bits_from_zero (negsuc n) size s above = absurd (false≢true (sym above))

-- the bits of an exponent and of a fraction together
pub bits_below : (exponent one part : ℕ) → exponent ≤ 53 → one ≡ 2 ^ 52 → part < 2 ^ 52 → (1023 + exponent) * one + part < 2 ^ 63
bits_below exponent one part most is below =
    let scaled : (1023 + exponent) * 2 ^ 52 + part < 2 ^ 63 = omega arith in
    subst (λ k. (1023 + exponent) * k + part < 2 ^ 63) (sym is) scaled

-- a number that isn't 0
no_zero : (n : ℕ) → (n ≡ 0 → ⊥) → ((eqb n 0 ≡ true) × (n ≡ 0)) ⊎ ((eqb n 0 ≡ false) × (n ≢ 0)) → eqb n 0 ≡ false
no_zero n some (inl (t, e)) = absurd (some e)
no_zero n some (inr (f, e)) = f

-- the bits of a number whose highest bit is there
pub bits_are : (n place exponent one part lower : ℕ) → (n ≡ 0 → ⊥) → place ≡ highest_bit 53 n → exponent ≡ place → one ≡ 2 ^ 52 → lower ≡ 2 ^ place
    → part ≡ (n - lower) * 2 ^ (52 - place) → (1023 + exponent) * one + part ≡ magnitude_bits n
bits_are n place exponent one part lower some highest e o l p =
    (λ j. (1023 + e j) * o j + p j)
    ∙ ap (λ k. (1023 + place) * 2 ^ 52 + (n - k) * 2 ^ (52 - place)) l
    ∙ ap (λ k. bits_at k n) highest
    ∙ sym (ap (λ b. if b then 0 else bits_at (highest_bit 53 n) n) (no_zero n some (eqb_tells n 0)))
