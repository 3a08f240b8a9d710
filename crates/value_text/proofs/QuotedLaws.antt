-- Hexadecimal digits and quoted bytes are read back, and what is read stands there.
use Rattle.std.proofs.Common.{◌≡◌, ℕ, zero, suc, ◌+◌, ◌*◌, ◌-◌, ◌/◌, ◌%◌, ◌<◌, ◌≤◌, true, false, cond, eqb, leb, ltb, ◌&&◌, List, [], ◌∷◌, ◌++◌, length, flat_map, Option, Some, None, Ok, Err, refl, sym, ap, subst, ◌∙◌, append_assoc, arith, inl, inr, le-leb, leb-true, leb-false, ne_eqb, eqb-true, lt-ltb, le-ltb}
use Rattle.std.proofs.lemmas.Bool.{lt-leb, eqb-false, and_parts, and_from, and_cases, and_left, and_right, cases_lt, cases_eq, cases_Bool}
use Rattle.std.specs.List.{AllByRecursion}
use Rattle.text_out.specs.Hex.{hex_digit_of, hex_of}
use Rattle.text_out.specs.Quoted.{quoted_byte}
use Rattle.value_text.specs.Fronts.{◌>>=◌, is_digit, nibble, nibble_or, nibble_at, hex_byte_at, hex_at, is_printable, low_half, hexed_at, escaped_at, quoted_byte_at, byte_before, quoted_at}
use Rattle.value_text.proofs.Choices.{went_on, chosen, held, held_not, one_ok}

-- all are bytes
abbrev pub AreBytes : List ℕ → Type 0
AreBytes bytes = AllByRecursion (λ b. b < 256) bytes

-- the digits of numbers below 16
hex_digit_is : (n : ℕ) → n < 16 → hex_digit_of n ≡ cond (ltb n 10) (48 + n) (87 + n)
hex_digit_is zero low = refl
hex_digit_is (suc zero) low = refl
hex_digit_is (suc (suc zero)) low = refl
hex_digit_is (suc (suc (suc zero))) low = refl
hex_digit_is (suc (suc (suc (suc zero)))) low = refl
hex_digit_is (suc (suc (suc (suc (suc zero))))) low = refl
hex_digit_is (suc (suc (suc (suc (suc (suc zero)))))) low = refl
hex_digit_is (suc (suc (suc (suc (suc (suc (suc zero))))))) low = refl
hex_digit_is (suc (suc (suc (suc (suc (suc (suc (suc zero)))))))) low = refl
hex_digit_is (suc (suc (suc (suc (suc (suc (suc (suc (suc zero))))))))) low = refl
hex_digit_is (suc (suc (suc (suc (suc (suc (suc (suc (suc (suc zero)))))))))) low = refl
hex_digit_is (suc (suc (suc (suc (suc (suc (suc (suc (suc (suc (suc zero))))))))))) low = refl
hex_digit_is (suc (suc (suc (suc (suc (suc (suc (suc (suc (suc (suc (suc zero)))))))))))) low = refl
hex_digit_is (suc (suc (suc (suc (suc (suc (suc (suc (suc (suc (suc (suc (suc zero))))))))))))) low = refl
hex_digit_is (suc (suc (suc (suc (suc (suc (suc (suc (suc (suc (suc (suc (suc (suc zero)))))))))))))) low = refl
hex_digit_is (suc (suc (suc (suc (suc (suc (suc (suc (suc (suc (suc (suc (suc (suc (suc zero))))))))))))))) low = refl
hex_digit_is (suc (suc (suc (suc (suc (suc (suc (suc (suc (suc (suc (suc (suc (suc (suc (suc n)))))))))))))))) low = absurd (omega (arith, low))

-- the value of a digit
pub nibble_again : (n : ℕ) → n < 16 → nibble (hex_digit_of n) ≡ Some n
nibble_again n low =
    elim (cases_lt n 10) [
      | inl small ↦
          ap nibble (hex_digit_is n low ∙ ap (λ b. cond b (48 + n) (87 + n)) (lt-ltb n 10 small))
          ∙ ap (λ b. cond b (Some (48 + n - 48)) (cond (leb 97 (48 + n) && leb (48 + n) 102) (Some (48 + n - 87)) None)) (and_from _ _ (le-leb 48 (48 + n) (omega arith)) (le-leb (48 + n) 57 (omega arith)))
          ∙ ap Some (let same : 48 + n - 48 ≡ n = omega arith in same)
      | inr great ↦
          ap nibble (hex_digit_is n low ∙ ap (λ b. cond b (48 + n) (87 + n)) (le-ltb n 10 great))
          ∙ ap (λ b. cond b (Some (87 + n - 48)) (cond (leb 97 (87 + n) && leb (87 + n) 102) (Some (87 + n - 87)) None)) (and_right (leb 48 (87 + n)) (leb (87 + n) 57) (lt-leb (87 + n) 57 (omega arith)))
          ∙ ap (λ b. cond b (Some (87 + n - 87)) None) (and_from _ _ (le-leb 97 (87 + n) (omega arith)) (le-leb (87 + n) 102 (omega arith)))
          ∙ ap Some (let same : 87 + n - 87 ≡ n = omega arith in same)
    ]

some_is : (n m : ℕ) → Some n ≡ Some m → n ≡ m
some_is n m e = cc

pub nibble_found : (b n : ℕ) → nibble b ≡ Some n → (b ≡ hex_digit_of n) × (n < 16)
nibble_found b n e =
    elim (chosen (is_digit b) (Some (b - 48)) (cond (leb 97 b && leb b 102) (Some (b - 87)) None) (Some n) e) [
      | inl digit ↦
          let range = and_parts (leb 48 b) (leb b 57) digit.0 in
          let low : 48 ≤ b = leb-true 48 b range.0 in
          let high : b ≤ 57 = leb-true b 57 range.1 in
          let same : b - 48 ≡ n = some_is (b - 48) n digit.1 in
          let byte : 48 + n ≡ b = omega arith in
          (sym (hex_digit_is n (omega arith) ∙ ap (λ t. cond t (48 + n) (87 + n)) (lt-ltb n 10 (omega arith)) ∙ byte), omega arith)
      | inr other ↦
          elim (chosen (leb 97 b && leb b 102) (Some (b - 87)) None (Some n) other.1) [
            | inl letter ↦
                let range = and_parts (leb 97 b) (leb b 102) letter.0 in
                let low : 97 ≤ b = leb-true 97 b range.0 in
                let high : b ≤ 102 = leb-true b 102 range.1 in
                let same : b - 87 ≡ n = some_is (b - 87) n letter.1 in
                let byte : 87 + n ≡ b = omega arith in
                (sym (hex_digit_is n (omega arith) ∙ ap (λ t. cond t (48 + n) (87 + n)) (le-ltb n 10 (omega arith)) ∙ byte), omega arith)
            | inr none ↦ absurd cc
          ]
    ]

nibble_at_again : (n : ℕ) (rest : List ℕ) → n < 16 → nibble_at (hex_digit_of n ∷ rest) ≡ Ok (n, rest)
nibble_at_again n rest low = ap (λ o. nibble_or o (hex_digit_of n ∷ rest) rest) (nibble_again n low)

-- a digit that was read
abbrev IsNibble : List ℕ → ℕ → List ℕ → Type 0
IsNibble text n rest = (text ≡ hex_digit_of n ∷ rest) × (n < 16)

nibble_or_found : (o : Option ℕ) (b n : ℕ) (bs rest : List ℕ) → nibble b ≡ o → nibble_or o (b ∷ bs) bs ≡ Ok (n, rest) → IsNibble (b ∷ bs) n rest
nibble_or_found None b n bs rest is e = absurd cc
nibble_or_found (Some m) b n bs rest is e =
    let found = nibble_found b m is in
    subst (λ (x : ℕ × List ℕ). IsNibble (b ∷ bs) x.0 x.1) (one_ok (m, bs) (n, rest) e) (ap (λ c. c ∷ bs) found.0, found.1)

nibble_at_found : (text : List ℕ) (n : ℕ) (rest : List ℕ) → nibble_at text ≡ Ok (n, rest) → IsNibble text n rest
nibble_at_found [] n rest e = absurd cc
nibble_at_found (b ∷ bs) n rest e = nibble_or_found (nibble b) b n bs rest refl e

-- a byte of two digits
pub hex_byte_again : (b : ℕ) (rest : List ℕ) → b < 256 → hex_byte_at (hex_digit_of (b / 16) ∷ hex_digit_of (b % 16) ∷ rest) ≡ Ok (b, rest)
unfolding hex_byte_at
hex_byte_again b rest low =
    let whole : b / 16 * 16 + b % 16 ≡ b = omega arith in
    ap (λ r. r >>= λ high. nibble_at high.1 >>= λ one. Ok (high.0 * 16 + one.0, one.1)) (nibble_at_again (b / 16) (hex_digit_of (b % 16) ∷ rest) (omega arith))
    ∙ ap (λ r. r >>= λ one. Ok (b / 16 * 16 + one.0, one.1)) (nibble_at_again (b % 16) rest (omega arith))
    ∙ ap (λ n. Ok (n, rest)) whole

abbrev IsHexByte : List ℕ → ℕ → List ℕ → Type 0
IsHexByte text b rest = (text ≡ hex_digit_of (b / 16) ∷ hex_digit_of (b % 16) ∷ rest) × (b < 256)

two_digits : (text : List ℕ) (high : ℕ) (behind : List ℕ) (one : ℕ) (rest : List ℕ) → IsNibble text high behind → IsNibble behind one rest → IsHexByte text (high * 16 + one) rest
two_digits text high behind one rest first second =
    let up : (high * 16 + one) / 16 ≡ high = omega (arith, first.1, second.1) in
    let down : (high * 16 + one) % 16 ≡ one = omega (arith, first.1, second.1) in
    (first.0 ∙ ap (λ t. hex_digit_of high ∷ t) second.0 ∙ ap (λ k. hex_digit_of k ∷ hex_digit_of one ∷ rest) (sym up) ∙ ap (λ k. hex_digit_of ((high * 16 + one) / 16) ∷ hex_digit_of k ∷ rest) (sym down), omega (arith, first.1, second.1))

pub hex_byte_found : (text : List ℕ) (b : ℕ) (rest : List ℕ) → hex_byte_at text ≡ Ok (b, rest) → IsHexByte text b rest
unfolding hex_byte_at
hex_byte_found text b rest e =
    let high = went_on (nibble_at text) (λ high. nibble_at high.1 >>= λ one. Ok (high.0 * 16 + one.0, one.1)) (b, rest) e in
    let one = went_on (nibble_at high.0.1) (λ one. Ok (high.0.0 * 16 + one.0, one.1)) (b, rest) high.2 in
    let first = nibble_at_found text high.0.0 high.0.1 high.1 in
    let second = nibble_at_found high.0.1 one.0.0 one.0.1 one.1 in
    subst (λ (x : ℕ × List ℕ). IsHexByte text x.0 x.1) (one_ok (high.0.0 * 16 + one.0.0, one.0.1) (b, rest) one.2)
    (two_digits text high.0.0 high.0.1 one.0.0 one.0.1 first second)

pub hex_again : (bytes rest : List ℕ) → AreBytes bytes → hex_at (length bytes) (hex_of bytes ++ rest) ≡ Ok (bytes, rest)
unfolding hex_at
hex_again [] rest fits = refl
hex_again (b ∷ bytes) rest fits =
    ap (λ r. r >>= λ byte. hex_at (length bytes) byte.1 >>= λ more. Ok (byte.0 ∷ more.0, more.1)) (hex_byte_again b (hex_of bytes ++ rest) fits.0)
    ∙ ap (λ r. r >>= λ more. Ok (b ∷ more.0, more.1)) (hex_again bytes rest fits.1)

abbrev pub IsHex : ℕ → List ℕ → List ℕ → List ℕ → Type 0
IsHex count text bytes rest = (text ≡ hex_of bytes ++ rest) × (length bytes ≡ count) × AreBytes bytes

pub hex_found : (count : ℕ) (text bytes rest : List ℕ) → hex_at count text ≡ Ok (bytes, rest) → IsHex count text bytes rest
unfolding hex_at
hex_found zero text bytes rest e = subst (λ (x : List ℕ × List ℕ). IsHex 0 text x.0 x.1) (one_ok ([], text) (bytes, rest) e) (refl, refl, tt)
hex_found (suc count) text bytes rest e =
    let byte = went_on (hex_byte_at text) (λ byte. hex_at count byte.1 >>= λ more. Ok (byte.0 ∷ more.0, more.1)) (bytes, rest) e in
    let more = went_on (hex_at count byte.0.1) (λ more. Ok (byte.0.0 ∷ more.0, more.1)) (bytes, rest) byte.2 in
    let first = hex_byte_found text byte.0.0 byte.0.1 byte.1 in
    let others = hex_found count byte.0.1 more.0.0 more.0.1 more.1 in
    subst (λ (x : List ℕ × List ℕ). IsHex (suc count) text x.0 x.1) (one_ok (byte.0.0 ∷ more.0.0, more.0.1) (bytes, rest) more.2)
    (first.0 ∙ ap (λ t. hex_digit_of (byte.0.0 / 16) ∷ hex_digit_of (byte.0.0 % 16) ∷ t) others.0, ap suc others.1, (first.1, others.2))

-- ---- a byte between quotation marks

-- no byte that is escaped by its digits begins with one from 2 to 6
not_middle : (b : ℕ) → b < 256 → is_printable b ≡ false → (leb 2 (b / 16) && leb (b / 16) 6) ≡ false
not_middle b low not =
    elim (and_cases (leb 32 b) (leb b 126) not) [
      | inl under ↦ let below : b < 32 = leb-false 32 b under in and_left (leb 2 (b / 16)) (leb (b / 16) 6) (lt-leb 2 (b / 16) (omega arith))
      | inr over ↦ let above : 126 < b = leb-false b 126 over in and_right (leb 2 (b / 16)) (leb (b / 16) 6) (lt-leb (b / 16) 6 (omega arith))
    ]

hexed_again : (b : ℕ) (rest : List ℕ) → b < 256 → is_printable b ≡ false → hexed_at (hex_digit_of (b / 16) ∷ hex_digit_of (b % 16) ∷ rest) ≡ Ok (Some b, rest)
unfolding hexed_at
hexed_again b rest low not =
    let text : List ℕ = hex_digit_of (b / 16) ∷ hex_digit_of (b % 16) ∷ rest in
    let behind : List ℕ = hex_digit_of (b % 16) ∷ rest in
    let whole : b / 16 * 16 + b % 16 ≡ b = omega arith in
    ap (λ r. r >>= λ high. cond (leb 2 high.0 && leb high.0 6) (Err (length text)) (nibble_at high.1 >>= λ one. low_half high.0 one high.1)) (nibble_at_again (b / 16) behind (omega arith))
    ∙ ap (λ t. cond t (Err (length text)) (nibble_at behind >>= λ one. low_half (b / 16) one behind)) (not_middle b low not)
    ∙ ap (λ r. r >>= λ one. low_half (b / 16) one behind) (nibble_at_again (b % 16) rest (omega arith))
    ∙ ap (λ n. cond (is_printable n) (Err (length behind)) (Ok (Some n, rest))) whole
    ∙ ap (λ t. cond t (Err (length behind)) (Ok (Some b, rest))) not

-- how a byte stands between quotation marks
written_mark : (b : ℕ) → b ≡ 34 → quoted_byte b ≡ 92 ∷ 34 ∷ []
written_mark b is = ap quoted_byte is

written_escape : (b : ℕ) → b ≡ 92 → quoted_byte b ≡ 92 ∷ 92 ∷ []
written_escape b is = ap quoted_byte is

abbrev pub written_digits : ℕ → List ℕ
written_digits b = 92 ∷ 120 ∷ hex_digit_of (b / 16) ∷ hex_digit_of (b % 16) ∷ []

pub written_other : (b : ℕ) → (b ≡ 34 → ⊥) → (b ≡ 92 → ⊥) → quoted_byte b ≡ cond (is_printable b) (b ∷ []) (written_digits b)
written_other b mark escape =
    ap (λ t. cond t (92 ∷ 34 ∷ []) (cond (eqb b 92) (92 ∷ 92 ∷ []) (cond (is_printable b) (b ∷ []) (written_digits b)))) (ne_eqb b 34 mark)
    ∙ ap (λ t. cond t (92 ∷ 92 ∷ []) (cond (is_printable b) (b ∷ []) (written_digits b))) (ne_eqb b 92 escape)

-- a byte that stands as it is
plain_byte : (b : ℕ) (rest : List ℕ) → (b ≡ 34 → ⊥) → (b ≡ 92 → ⊥) → is_printable b ≡ true → quoted_byte_at (b ∷ rest) ≡ Ok (Some b, rest)
unfolding quoted_byte_at
plain_byte b rest mark escape so =
    ap (λ t. cond t (Ok (None, rest)) (cond (eqb b 92) (escaped_at rest) (cond (is_printable b) (Ok (Some b, rest)) (Err (length (b ∷ rest)))))) (ne_eqb b 34 mark)
    ∙ ap (λ t. cond t (escaped_at rest) (cond (is_printable b) (Ok (Some b, rest)) (Err (length (b ∷ rest))))) (ne_eqb b 92 escape)
    ∙ ap (λ t. cond t (Ok (Some b, rest)) (Err (length (b ∷ rest)))) so

escaped_by_digits : (b : ℕ) (rest : List ℕ) → b < 256 → is_printable b ≡ false → quoted_byte_at (written_digits b ++ rest) ≡ Ok (Some b, rest)
unfolding quoted_byte_at escaped_at
escaped_by_digits b rest low not = hexed_again b rest low not

escaped_mark : (rest : List ℕ) → quoted_byte_at (92 ∷ 34 ∷ rest) ≡ Ok (Some 34, rest)
unfolding quoted_byte_at escaped_at
escaped_mark rest = refl

escaped_escape : (rest : List ℕ) → quoted_byte_at (92 ∷ 92 ∷ rest) ≡ Ok (Some 92, rest)
unfolding quoted_byte_at escaped_at
escaped_escape rest = refl

pub quoted_byte_again : (b : ℕ) (rest : List ℕ) → b < 256 → quoted_byte_at (quoted_byte b ++ rest) ≡ Ok (Some b, rest)
quoted_byte_again b rest low =
    elim (cases_eq b 34) [
      | inl mark ↦ ap (λ t. quoted_byte_at (t ++ rest)) (written_mark b mark) ∙ escaped_mark rest ∙ ap (λ k. Ok (Some k, rest)) (sym mark)
      | inr no_mark ↦
          elim (cases_eq b 92) [
            | inl escape ↦ ap (λ t. quoted_byte_at (t ++ rest)) (written_escape b escape) ∙ escaped_escape rest ∙ ap (λ k. Ok (Some k, rest)) (sym escape)
            | inr no_escape ↦
                elim (cases_Bool (is_printable b)) [
                  | inl so ↦ ap (λ t. quoted_byte_at (t ++ rest)) (written_other b no_mark no_escape ∙ ap (λ t. cond t (b ∷ []) (written_digits b)) so) ∙ plain_byte b rest no_mark no_escape so
                  | inr not ↦ ap (λ t. quoted_byte_at (t ++ rest)) (written_other b no_mark no_escape ∙ ap (λ t. cond t (b ∷ []) (written_digits b)) not) ∙ escaped_by_digits b rest low not
                ]
          ]
    ]

-- what was read as one byte, or as the mark that ends them, stands there
abbrev IsOneByte : List ℕ → Option ℕ → List ℕ → Type 0
IsOneByte text None rest = text ≡ 34 ∷ rest
IsOneByte text (Some b) rest = (text ≡ quoted_byte b ++ rest) × (b < 256)

not_both : false ≡ true → ⊥
not_both e = absurd cc

low_half_found : (high one : ℕ) (found : Option ℕ) (behind after rest text : List ℕ) → IsHexByte text (high * 16 + one) after → low_half high (one, after) behind ≡ Ok (found, rest)
    → IsOneByte (92 ∷ 120 ∷ text) found rest
low_half_found high one found behind after rest text is e =
    let b : ℕ = high * 16 + one in
    let test = held_not (is_printable b) (Ok (Some b, after)) (length behind) (found, rest) e in
    let no_mark : b ≡ 34 → ⊥ = λ same. not_both (sym test.0 ∙ ap is_printable same) in
    let no_escape : b ≡ 92 → ⊥ = λ same. not_both (sym test.0 ∙ ap is_printable same) in
    let written : quoted_byte b ≡ written_digits b = written_other b no_mark no_escape ∙ ap (λ t. cond t (b ∷ []) (written_digits b)) test.0 in
    subst (λ (x : Option ℕ × List ℕ). IsOneByte (92 ∷ 120 ∷ text) x.0 x.1) (one_ok (Some b, after) (found, rest) test.1)
    (ap (λ t. 92 ∷ 120 ∷ t) is.0 ∙ ap (λ t. t ++ after) (sym written), is.1)

hexed_found : (text : List ℕ) (found : Option ℕ) (rest : List ℕ) → hexed_at text ≡ Ok (found, rest) → IsOneByte (92 ∷ 120 ∷ text) found rest
unfolding hexed_at
hexed_found text found rest e =
    let high = went_on (nibble_at text) (λ high. cond (leb 2 high.0 && leb high.0 6) (Err (length text)) (nibble_at high.1 >>= λ one. low_half high.0 one high.1)) (found, rest) e in
    let test = held_not (leb 2 high.0.0 && leb high.0.0 6) (nibble_at high.0.1 >>= λ one. low_half high.0.0 one high.0.1) (length text) (found, rest) high.2 in
    let one = went_on (nibble_at high.0.1) (λ one. low_half high.0.0 one high.0.1) (found, rest) test.1 in
    low_half_found high.0.0 one.0.0 found high.0.1 one.0.1 rest text
    (two_digits text high.0.0 high.0.1 one.0.0 one.0.1 (nibble_at_found text high.0.0 high.0.1 high.1) (nibble_at_found high.0.1 one.0.0 one.0.1 one.1)) one.2

escaped_found : (text : List ℕ) (found : Option ℕ) (rest : List ℕ) → escaped_at text ≡ Ok (found, rest) → IsOneByte (92 ∷ text) found rest
unfolding escaped_at
escaped_found [] found rest e = absurd cc
escaped_found (b ∷ bs) found rest e =
    elim (chosen (eqb b 34) (Ok (Some 34, bs)) (cond (eqb b 92) (Ok (Some 92, bs)) (cond (eqb b 120) (hexed_at bs) (Err (length (b ∷ bs))))) (Ok (found, rest)) e) [
      | inl mark ↦ subst (λ (x : Option ℕ × List ℕ). IsOneByte (92 ∷ (b ∷ bs)) x.0 x.1) (one_ok (Some 34, bs) (found, rest) mark.1) (ap (λ c. 92 ∷ (c ∷ bs)) (eqb-true b 34 mark.0), omega arith)
      | inr other ↦
          elim (chosen (eqb b 92) (Ok (Some 92, bs)) (cond (eqb b 120) (hexed_at bs) (Err (length (b ∷ bs)))) (Ok (found, rest)) other.1) [
            | inl escape ↦ subst (λ (x : Option ℕ × List ℕ). IsOneByte (92 ∷ (b ∷ bs)) x.0 x.1) (one_ok (Some 92, bs) (found, rest) escape.1) (ap (λ c. 92 ∷ (c ∷ bs)) (eqb-true b 92 escape.0), omega arith)
            | inr more ↦
                let digits = held (eqb b 120) (hexed_at bs) (length (b ∷ bs)) (found, rest) more.1 in
                subst (λ c. IsOneByte (92 ∷ (c ∷ bs)) found rest) (sym (eqb-true b 120 digits.0)) (hexed_found bs found rest digits.1)
          ]
    ]

quoted_byte_found : (text : List ℕ) (found : Option ℕ) (rest : List ℕ) → quoted_byte_at text ≡ Ok (found, rest) → IsOneByte text found rest
unfolding quoted_byte_at
quoted_byte_found [] found rest e = absurd cc
quoted_byte_found (b ∷ bs) found rest e =
    elim (chosen (eqb b 34) (Ok (None, bs)) (cond (eqb b 92) (escaped_at bs) (cond (is_printable b) (Ok (Some b, bs)) (Err (length (b ∷ bs))))) (Ok (found, rest)) e) [
      | inl mark ↦ subst (λ (x : Option ℕ × List ℕ). IsOneByte (b ∷ bs) x.0 x.1) (one_ok (None, bs) (found, rest) mark.1) (ap (λ c. c ∷ bs) (eqb-true b 34 mark.0))
      | inr other ↦
          elim (chosen (eqb b 92) (escaped_at bs) (cond (is_printable b) (Ok (Some b, bs)) (Err (length (b ∷ bs)))) (Ok (found, rest)) other.1) [
            | inl escape ↦ subst (λ c. IsOneByte (c ∷ bs) found rest) (sym (eqb-true b 92 escape.0)) (escaped_found bs found rest escape.1)
            | inr more ↦
                let plain = held (is_printable b) (Ok (Some b, bs)) (length (b ∷ bs)) (found, rest) more.1 in
                let range = and_parts (leb 32 b) (leb b 126) plain.0 in
                let high : b ≤ 126 = leb-true b 126 range.1 in
                let written : quoted_byte b ≡ b ∷ [] = written_other b (eqb-false b 34 other.0) (eqb-false b 92 more.0) ∙ ap (λ t. cond t (b ∷ []) (written_digits b)) plain.0 in
                subst (λ (x : Option ℕ × List ℕ). IsOneByte (b ∷ bs) x.0 x.1) (one_ok (Some b, bs) (found, rest) plain.1) (ap (λ t. t ++ bs) (sym written), omega arith)
          ]
    ]

-- bytes between quotation marks, behind the first one
pub quoted_again : (most : ℕ) (bytes rest : List ℕ) → length bytes < most → AreBytes bytes → quoted_at most (flat_map quoted_byte bytes ++ 34 ∷ rest) ≡ Ok (bytes, rest)
unfolding quoted_at quoted_byte_at
quoted_again zero bytes rest room fits = absurd (omega (arith, room))
quoted_again (suc most) [] rest room fits = refl
quoted_again (suc most) (b ∷ bytes) rest room fits =
    ap (quoted_at (suc most)) (append_assoc (quoted_byte b) (flat_map quoted_byte bytes) (34 ∷ rest))
    ∙ ap (λ r. r >>= λ one. byte_before one.0 one.1 (quoted_at most)) (quoted_byte_again b (flat_map quoted_byte bytes ++ 34 ∷ rest) fits.0)
    ∙ ap (λ r. r >>= λ more. Ok (b ∷ more.0, more.1)) (quoted_again most bytes rest (omega (arith, room)) fits.1)

abbrev pub IsQuoted : List ℕ → List ℕ → List ℕ → Type 0
IsQuoted text bytes rest = (text ≡ flat_map quoted_byte bytes ++ 34 ∷ rest) × AreBytes bytes

-- the bytes behind one that was read
behind_one : (most : ℕ) → ((text bytes rest : List ℕ) → quoted_at most text ≡ Ok (bytes, rest) → IsQuoted text bytes rest)
    → (text : List ℕ) (one : Option ℕ) (after bytes rest : List ℕ) → IsOneByte text one after → byte_before one after (quoted_at most) ≡ Ok (bytes, rest) → IsQuoted text bytes rest
behind_one most found text None after bytes rest is e =
    subst (λ (x : List ℕ × List ℕ). IsQuoted text x.0 x.1) (one_ok ([], after) (bytes, rest) e) (is, tt)
behind_one most found text (Some b) after bytes rest is e =
    let more = went_on (quoted_at most after) (λ more. Ok (b ∷ more.0, more.1)) (bytes, rest) e in
    let others = found after more.0.0 more.0.1 more.1 in
    subst (λ (x : List ℕ × List ℕ). IsQuoted text x.0 x.1) (one_ok (b ∷ more.0.0, more.0.1) (bytes, rest) more.2)
    (is.0 ∙ ap (λ t. quoted_byte b ++ t) others.0 ∙ sym (append_assoc (quoted_byte b) (flat_map quoted_byte more.0.0) (34 ∷ more.0.1)), (is.1, others.1))

pub quoted_found : (most : ℕ) (text bytes rest : List ℕ) → quoted_at most text ≡ Ok (bytes, rest) → IsQuoted text bytes rest
unfolding quoted_at
quoted_found zero text bytes rest e = absurd cc
quoted_found (suc most) text bytes rest e =
    let one = went_on (quoted_byte_at text) (λ one. byte_before one.0 one.1 (quoted_at most)) (bytes, rest) e in
    behind_one most (quoted_found most) text one.0.0 one.0.1 bytes rest (quoted_byte_found text one.0.0 one.0.1 one.1) one.2
