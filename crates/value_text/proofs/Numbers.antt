-- Decimals are read back, and what is read as a number is its decimal.
use Rattle.std.proofs.Common.{◌≡◌, ℕ, zero, suc, ◌+◌, ◌*◌, ◌-◌, ◌/◌, ◌%◌, ◌^◌, ◌<◌, ◌≤◌, true, false, cond, eqb, leb, ◌&&◌, ℤ, pos, negsuc, neg_ℤ, List, [], ◌∷◌, ◌++◌, length, Ok, Err, refl, sym, ap, subst, ◌∙◌, append_assoc, arith, inl, inr, le-leb, leb-true, ne_eqb, eqb-true}
use Rattle.std.proofs.lemmas.Bool.{and_parts, and_from}
use Rattle.std.proofs.lemmas.Fmt.{decimal_by_steps_wide, decimal_step_wide, decimal_digit}
use Rattle.text_out.specs.Decimal.{natural_of, decimal_of}
use Rattle.value_text.specs.Fronts.{◌>>=◌, is_digit, digits_at, positive_at, integer_at}
use Rattle.value_text.proofs.Choices.{went_on, chosen, held, one_ok}

-- a digit passes the test, and its number is what it adds
pub digit_passes : (d : ℕ) → d < 10 → is_digit (48 + d) ≡ true
digit_passes d low = and_from _ _ (le-leb 48 (48 + d) (omega arith)) (le-leb (48 + d) 57 (omega arith))

first_passes : (d : ℕ) → 0 < d → d < 10 → (leb 49 (48 + d) && leb (48 + d) 57) ≡ true
first_passes d some low = and_from _ _ (le-leb 49 (48 + d) (omega arith)) (le-leb (48 + d) 57 (omega arith))

-- one digit more
one_digit : (most n d : ℕ) (rest : List ℕ) → d < 10 → n * 10 + d ≤ most → digits_at most n ((48 + d) ∷ rest) ≡ digits_at most (n * 10 + d) rest
one_digit most n d rest low within =
    let worth : n * 10 + (48 + d - 48) ≡ n * 10 + d = omega arith in
    ap (λ b. cond b (cond (leb (n * 10 + (48 + d - 48)) most) (digits_at most (n * 10 + (48 + d - 48)) rest) (Err (length ((48 + d) ∷ rest)))) (Ok (n, (48 + d) ∷ rest))) (digit_passes d low)
    ∙ ap (λ m. cond (leb m most) (digits_at most m rest) (Err (length ((48 + d) ∷ rest)))) worth
    ∙ ap (λ b. cond b (digits_at most (n * 10 + d) rest) (Err (length ((48 + d) ∷ rest)))) (le-leb (n * 10 + d) most within)

-- the decimal of a number, whatever follows, is read up to that number
abbrev IsReadOn : ℕ → ℕ → List ℕ → Type 0
IsReadOn most n text = 0 < n → n ≤ most → (rest : List ℕ) → positive_at most (text ++ rest) ≡ digits_at most n rest

read_first : (most n : ℕ) → n < 10 → IsReadOn most n ((48 + n) ∷ [])
read_first most n low some within rest =
    let worth : 48 + n - 48 ≡ n = omega arith in
    ap (λ b. cond b (digits_at most (48 + n - 48) rest) (Err (length ((48 + n) ∷ rest)))) (first_passes n some low)
    ∙ ap (λ m. digits_at most m rest) worth

read_further : (most n : ℕ) (digits : List ℕ) → 10 ≤ n → IsReadOn most (n / 10) digits → IsReadOn most n (digits ++ (48 + n % 10) ∷ [])
read_further most n digits high before some within rest =
    let parts : n / 10 * 10 + n % 10 ≡ n = omega arith in
    ap (positive_at most) (append_assoc digits ((48 + n % 10) ∷ []) rest)
    ∙ before (omega arith) (omega arith) ((48 + n % 10) ∷ rest)
    ∙ one_digit most (n / 10) (n % 10) rest (omega arith) (omega arith)
    ∙ ap (λ m. digits_at most m rest) parts

pub decimal_read_on : (most n : ℕ) → n < 10 ^ 64 → IsReadOn most n (natural_of n)
decimal_read_on most n wide = decimal_by_steps_wide (IsReadOn most) (read_first most) (read_further most) n wide

-- no digit follows
pub digits_end : (most n c : ℕ) (rest : List ℕ) → is_digit c ≡ false → digits_at most n (c ∷ rest) ≡ Ok (n, c ∷ rest)
digits_end most n c rest none =
    ap (λ b. cond b (cond (leb (n * 10 + (c - 48)) most) (digits_at most (n * 10 + (c - 48)) rest) (Err (length (c ∷ rest)))) (Ok (n, c ∷ rest))) none

-- the first byte of a decimal from 1 on
abbrev BeginsWithDigit : ℕ → List ℕ → Type 0
BeginsWithDigit n text = 0 < n → (b : ℕ) × (bs : List ℕ) × (text ≡ b ∷ bs) × (49 ≤ b) × (b ≤ 57)

first_begins : (n : ℕ) → n < 10 → BeginsWithDigit n ((48 + n) ∷ [])
first_begins n low some = (48 + n, [], refl, omega arith, omega arith)

further_begins : (n : ℕ) (digits : List ℕ) → 10 ≤ n → BeginsWithDigit (n / 10) digits → BeginsWithDigit n (digits ++ (48 + n % 10) ∷ [])
further_begins n digits high before some =
    let found = before (omega arith) in
    (found.0, found.1 ++ (48 + n % 10) ∷ [], ap (λ ds. ds ++ (48 + n % 10) ∷ []) found.2, found.3, found.4)

pub decimal_begins : (n : ℕ) → n < 10 ^ 64 → BeginsWithDigit n (natural_of n)
decimal_begins n wide = decimal_by_steps_wide BeginsWithDigit first_begins further_begins n wide

-- an integer that begins with a digit from 1 on
no_zero_no_minus : (most b : ℕ) (bs : List ℕ) → 49 ≤ b → integer_at most (b ∷ bs) ≡ (positive_at most (b ∷ bs) >>= λ n. Ok (pos n.0, n.1))
unfolding integer_at
no_zero_no_minus most b bs high =
    ap (λ t. cond t (Ok (pos 0, bs)) (cond (eqb b 45) (positive_at (suc most) bs >>= λ n. Ok (neg_ℤ (pos n.0), n.1)) (positive_at most (b ∷ bs) >>= λ n. Ok (pos n.0, n.1)))) (ne_eqb b 48 (λ e. omega (arith, e)))
    ∙ ap (λ t. cond t (positive_at (suc most) bs >>= λ n. Ok (neg_ℤ (pos n.0), n.1)) (positive_at most (b ∷ bs) >>= λ n. Ok (pos n.0, n.1))) (ne_eqb b 45 (λ e. omega (arith, e)))

-- the integers that may stand there
abbrev pub IsWithin : ℕ → ℤ → Type 0
IsWithin most (pos n) = n ≤ most
IsWithin most (negsuc n) = n ≤ most

-- a decimal is read back, where no digit follows
pub integer_again : (most : ℕ) (z : ℤ) (c : ℕ) (rest : List ℕ) → most < 2 ^ 64 → IsWithin most z → is_digit c ≡ false
    → integer_at most (decimal_of z ++ c ∷ rest) ≡ Ok (z, c ∷ rest)
unfolding integer_at
integer_again most (pos zero) c rest wide within none = ap (λ ds. integer_at most (ds ++ c ∷ rest)) (decimal_digit 0 (omega arith))
integer_again most (pos (suc n)) c rest wide within none =
    let found = decimal_begins (suc n) (omega arith) (omega arith) in
    let whole : natural_of (suc n) ++ c ∷ rest ≡ found.0 ∷ (found.1 ++ c ∷ rest) = ap (λ ds. ds ++ c ∷ rest) found.2 in
    ap (integer_at most) whole ∙ no_zero_no_minus most found.0 (found.1 ++ c ∷ rest) found.3
    ∙ ap (λ t. positive_at most t >>= λ n. Ok (pos n.0, n.1)) (sym whole)
    ∙ ap (λ r. r >>= λ n. Ok (pos n.0, n.1)) (decimal_read_on most (suc n) (omega arith) (omega arith) within (c ∷ rest) ∙ digits_end most (suc n) c rest none)
integer_again most (negsuc n) c rest wide within none =
    ap (λ r. r >>= λ m. Ok (neg_ℤ (pos m.0), m.1)) (decimal_read_on (suc most) (suc n) (omega arith) (omega arith) (omega arith) (c ∷ rest) ∙ digits_end (suc most) (suc n) c rest none)

-- digits that were read stand there
pub digits_found : (most n : ℕ) (text : List ℕ) (m : ℕ) (rest : List ℕ) → most < 2 ^ 64 → 0 < n → n ≤ most → digits_at most n text ≡ Ok (m, rest)
    → (natural_of n ++ text ≡ natural_of m ++ rest) × (0 < m) × (m ≤ most)
digits_found most n [] m rest wide some within e =
    let same = one_ok (n, []) (m, rest) e in
    subst (λ (x : ℕ × List ℕ). (natural_of n ++ [] ≡ natural_of x.0 ++ x.1) × (0 < x.0) × (x.0 ≤ most)) same (refl, some, within)
digits_found most n (b ∷ bs) m rest wide some within e =
    elim (chosen (is_digit b) (cond (leb (n * 10 + (b - 48)) most) (digits_at most (n * 10 + (b - 48)) bs) (Err (length (b ∷ bs)))) (Ok (n, b ∷ bs)) (Ok (m, rest)) e) [
      | inl so ↦
          let range = and_parts (leb 48 b) (leb b 57) so.0 in
          let low : 48 ≤ b = leb-true 48 b range.0 in
          let high : b ≤ 57 = leb-true b 57 range.1 in
          let next : ℕ = n * 10 + (b - 48) in
          let fits = held (leb next most) (digits_at most next bs) (length (b ∷ bs)) (m, rest) so.1 in
          let below : next ≤ most = leb-true next most fits.0 in
          let more = digits_found most next bs m rest wide (omega arith) below fits.1 in
          let half : next / 10 ≡ n = omega arith in
          let last : 48 + next % 10 ≡ b = omega arith in
          let digits : natural_of next ≡ natural_of n ++ b ∷ [] = decimal_step_wide next (omega arith) (omega arith) ∙ ap (λ k. natural_of k ++ (48 + next % 10) ∷ []) half ∙ ap (λ d. natural_of n ++ d ∷ []) last in
          (sym (append_assoc (natural_of n) (b ∷ []) bs) ∙ ap (λ ds. ds ++ bs) (sym digits) ∙ more.0, more.1, more.2)
      | inr not ↦
          let same = one_ok (n, b ∷ bs) (m, rest) not.1 in
          subst (λ (x : ℕ × List ℕ). (natural_of n ++ b ∷ bs ≡ natural_of x.0 ++ x.1) × (0 < x.0) × (x.0 ≤ most)) same (refl, some, within)
    ]

pub positive_found : (most : ℕ) (text : List ℕ) (m : ℕ) (rest : List ℕ) → most < 2 ^ 64 → 9 ≤ most → positive_at most text ≡ Ok (m, rest)
    → (text ≡ natural_of m ++ rest) × (0 < m) × (m ≤ most)
positive_found most [] m rest wide wider e = absurd cc
positive_found most (b ∷ bs) m rest wide wider e =
    let first = held (leb 49 b && leb b 57) (digits_at most (b - 48) bs) (length (b ∷ bs)) (m, rest) e in
    let range = and_parts (leb 49 b) (leb b 57) first.0 in
    let low : 49 ≤ b = leb-true 49 b range.0 in
    let high : b ≤ 57 = leb-true b 57 range.1 in
    let more = digits_found most (b - 48) bs m rest wide (omega arith) (omega arith) first.1 in
    let byte : 48 + (b - 48) ≡ b = omega arith in
    let digit : natural_of (b - 48) ≡ b ∷ [] = decimal_digit (b - 48) (omega arith) ∙ ap (λ d. d ∷ []) byte in
    (ap (λ ds. ds ++ bs) (sym digit) ∙ more.0, more.1, more.2)

-- an integer that was read stands there
pub integer_found : (most : ℕ) (text : List ℕ) (z : ℤ) (rest : List ℕ) → most < 2 ^ 63 → 9 ≤ most → integer_at most text ≡ Ok (z, rest)
    → (text ≡ decimal_of z ++ rest) × IsWithin most z
unfolding integer_at
integer_found most [] z rest wide wider e = absurd cc
integer_found most (b ∷ bs) z rest wide wider e =
    elim (chosen (eqb b 48) (Ok (pos 0, bs)) (cond (eqb b 45) (positive_at (suc most) bs >>= λ n. Ok (neg_ℤ (pos n.0), n.1)) (positive_at most (b ∷ bs) >>= λ n. Ok (pos n.0, n.1))) (Ok (z, rest)) e) [
      | inl zero_in_front ↦
          let same = one_ok (pos 0, bs) (z, rest) zero_in_front.1 in
          let text_is : b ∷ bs ≡ natural_of 0 ++ bs = ap (λ c. c ∷ bs) (eqb-true b 48 zero_in_front.0) ∙ ap (λ ds. ds ++ bs) (sym (decimal_digit 0 (omega arith))) in
          subst (λ (x : ℤ × List ℕ). (b ∷ bs ≡ decimal_of x.0 ++ x.1) × IsWithin most x.0) same (text_is, omega arith)
      | inr other ↦
          elim (chosen (eqb b 45) (positive_at (suc most) bs >>= λ n. Ok (neg_ℤ (pos n.0), n.1)) (positive_at most (b ∷ bs) >>= λ n. Ok (pos n.0, n.1)) (Ok (z, rest)) other.1) [
            | inl minus ↦
                let size = went_on (positive_at (suc most) bs) (λ n. Ok (neg_ℤ (pos n.0), n.1)) (z, rest) minus.1 in
                let found = positive_found (suc most) bs size.0.0 size.0.1 (omega arith) (omega arith) size.1 in
                let same = one_ok (neg_ℤ (pos size.0.0), size.0.1) (z, rest) size.2 in
                let less : size.0.0 ≡ suc (size.0.0 - 1) = omega (arith, found.1) in
                let text_is : b ∷ bs ≡ decimal_of (negsuc (size.0.0 - 1)) ++ size.0.1 = ap (λ c. c ∷ bs) (eqb-true b 45 minus.0) ∙ ap (λ t. 45 ∷ t) (found.0 ∙ ap (λ k. natural_of k ++ size.0.1) less) in
                let number : negsuc (size.0.0 - 1) ≡ neg_ℤ (pos size.0.0) = sym (ap (λ k. neg_ℤ (pos k)) less) in
                subst (λ (x : ℤ × List ℕ). (b ∷ bs ≡ decimal_of x.0 ++ x.1) × IsWithin most x.0) same
                (subst (λ y. (b ∷ bs ≡ decimal_of y ++ size.0.1) × IsWithin most y) number (text_is, omega (arith, found.1, found.2)))
            | inr plus ↦
                let size = went_on (positive_at most (b ∷ bs)) (λ n. Ok (pos n.0, n.1)) (z, rest) plus.1 in
                let found = positive_found most (b ∷ bs) size.0.0 size.0.1 (omega arith) wider size.1 in
                let same = one_ok (pos size.0.0, size.0.1) (z, rest) size.2 in
                subst (λ (x : ℤ × List ℕ). (b ∷ bs ≡ decimal_of x.0 ++ x.1) × IsWithin most x.0) same (found.0, found.2)
          ]
    ]
