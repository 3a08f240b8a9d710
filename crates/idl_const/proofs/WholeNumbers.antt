-- Whole numbers among those that digits and places write.
use Rattle.std.proofs.Common.{◌≡◌, ℕ, zero, suc, pos, ◌+◌, ◌-◌, ◌*◌, ◌/◌, ◌%◌, ◌^◌, ◌<◌, ◌≤◌, ◌==◌, min, nat_le, Bool, true, false, cond, List, [], ◌∷◌, ◌++◌, length, get_or, take, drop, Option, Some, None, refl, sym, ap, ◌∙◌, subst, arith, length-append, drop-cons, add-one}
use Rattle.std.specs.Option.{option_map}
use Rattle.std.specs.List.{prefix_len}
use Rattle.std.specs.Char.{is_ascii_digit}
use Rattle.std.proofs.Math.Nat.{mul-le-mul_left, mul-le-mul_right, pow-suc}
use Rattle.std.proofs.lemmas.Bool.Decides.{nat_tests}
use Rattle.std.proofs.lemmas.Nat.{pow-add, div-mul-add, mod-mul-add}
use lib.IntN.{neg_ℤ}
use Rattle.idl_token.specs.Numbers.{digit_value, value_behind}
use Rattle.check_model.specs.WholeDoubles.{whole_number, within_doubles, signed_within}
use Rattle.idl_const.specs.Digits.{AreDigits, capped}

-- the digits in front are digits, and so are parts of digits
in_front_by : (b : Bool) (x : ℕ) (xs : List ℕ) → is_ascii_digit x ≡ b → AreDigits (take (prefix_len is_ascii_digit xs) xs)
    → AreDigits (take (cond b (1 + prefix_len is_ascii_digit xs) 0) (x ∷ xs))
in_front_by true x xs is h =
    let both : AreDigits (take (suc (prefix_len is_ascii_digit xs)) (x ∷ xs)) = (is, h) in
    let one : suc (prefix_len is_ascii_digit xs) ≡ 1 + prefix_len is_ascii_digit xs = omega arith in
    subst (λ (n : ℕ). AreDigits (take n (x ∷ xs))) one both
in_front_by false x xs is h = tt

pub digits_in_front : (xs : List ℕ) → AreDigits (take (prefix_len is_ascii_digit xs) xs)
digits_in_front [] = tt
digits_in_front (x ∷ xs) = in_front_by (is_ascii_digit x) x xs refl (digits_in_front xs)

pub digits_behind : (n : ℕ) (xs : List ℕ) → AreDigits xs → AreDigits (drop n xs)
digits_behind zero [] h = tt
digits_behind zero (x ∷ xs) h = h
digits_behind (suc n) [] h = tt
digits_behind (suc n) (x ∷ xs) h = digits_behind n xs h.1

digit_small : (b : ℕ) → is_ascii_digit b ≡ true → digit_value b ≤ 9
digit_small b is = grind (arith, nat_tests)

-- what digits write

pub value_append : (n : ℕ) (xs ys : List ℕ) → value_behind 10 n (xs ++ ys) ≡ value_behind 10 (value_behind 10 n xs) ys
value_append n [] ys = refl
value_append n (x ∷ xs) ys = value_append (n * 10 + digit_value x) xs ys

value_split : (n : ℕ) (xs : List ℕ) → value_behind 10 n xs ≡ n * 10 ^ length xs + value_behind 10 0 xs
value_split n [] = omega arith
value_split n (x ∷ xs) =
    let d = digit_value x in
    let all = value_split (n * 10 + d) xs in
    let alone = value_split (0 * 10 + d) xs in
    let wide = ap (λ q. n * q) (pow-suc 10 (length xs)) in
    omega (arith, all, alone, wide)

value_below : (xs : List ℕ) → AreDigits xs → value_behind 10 0 xs < 10 ^ length xs
value_below [] h = omega arith
value_below (x ∷ xs) h =
    let d = digit_value x in
    let alone = value_split (0 * 10 + d) xs in
    let rest = value_below xs h.1 in
    let scaled : d * 10 ^ length xs ≤ 9 * 10 ^ length xs = mul-le-mul_right (10 ^ length xs) (digit_small x h.0) in
    omega (arith, alone, rest, scaled, pow-suc 10 (length xs))

-- a number by its quotient and remainder
whole_is : (digits up down q r : ℕ) → digits * 10 ^ up ≡ q * 10 ^ down + r → r < 10 ^ down
    → whole_number (record { digits = digits; up = up; down = down }) ≡ cond (r == 0) (Some q) None
whole_is digits up down q r e below =
    (λ i. cond (e i % 10 ^ down == 0) (Some (e i / 10 ^ down)) None)
    ∙ (λ i. cond (mod-mul-add q (10 ^ down) r below i == 0) (Some (div-mul-add q (10 ^ down) r below i)) None)

power_some : (n : ℕ) → 0 < 10 ^ n
power_some zero = omega arith
power_some (suc n) = omega (arith, pow-suc 10 n, power_some n)

-- no remainder
pub none_remains : (digits up down q : ℕ) → digits * 10 ^ up ≡ q * 10 ^ down → whole_number (record { digits = digits; up = up; down = down }) ≡ Some q
none_remains digits up down q e = whole_is digits up down q 0 (omega (arith, e)) (power_some down)

above_zero : (r : ℕ) → (suc r == 0) ≡ false
above_zero r = grind (arith, nat_tests)

-- a remainder
some_remains : (digits up down q r : ℕ) → digits * 10 ^ up ≡ q * 10 ^ down + r → r < 10 ^ down → (r ≡ 0 → ⊥)
    → whole_number (record { digits = digits; up = up; down = down }) ≡ None
some_remains digits up down q zero e below some = absurd (some refl)
some_remains digits up down q (suc r) e below some = whole_is digits up down q (suc r) e below ∙ ap (λ b. cond b (Some q) None) (above_zero r)

-- the point moves to the right over so many digits, and over as many zeros more
pub right_whole : (front more rest : List ℕ) (k z : ℕ) → length more ≡ k → value_behind 10 0 rest ≡ 0
    → whole_number (record { digits = value_behind 10 0 (front ++ (more ++ rest)); up = k + z; down = length (more ++ rest) })
    ≡ Some (value_behind 10 (value_behind 10 0 front) more * 10 ^ z)
right_whole front more rest k z size none =
    let number = value_behind 10 (value_behind 10 0 front) more in
    let w = length rest in
    let all : value_behind 10 0 (front ++ (more ++ rest)) ≡ number * 10 ^ w =
    value_append 0 front (more ++ rest) ∙ value_append (value_behind 10 0 front) more rest ∙ value_split number rest ∙ omega (arith, none) in
    let high : value_behind 10 0 (front ++ (more ++ rest)) * 10 ^ (k + z) ≡ number * 10 ^ w * (10 ^ k * 10 ^ z) = (λ i. all i * pow-add 10 k z i) in
    let low : number * 10 ^ z * 10 ^ length (more ++ rest) ≡ number * 10 ^ z * (10 ^ k * 10 ^ w) =
    ap (λ n. number * 10 ^ z * 10 ^ n) (length-append more rest ∙ ap (λ n. n + w) size) ∙ ap (λ q. number * 10 ^ z * q) (pow-add 10 k w) in
    none_remains _ _ _ _ (omega (arith, high, low))

-- digits are left behind the point
pub right_broken : (front more rest : List ℕ) (k : ℕ) → length more ≡ k → AreDigits rest → (value_behind 10 0 rest ≡ 0 → ⊥)
    → whole_number (record { digits = value_behind 10 0 (front ++ (more ++ rest)); up = k; down = length (more ++ rest) }) ≡ None
right_broken front more rest k size digits some =
    let number = value_behind 10 (value_behind 10 0 front) more in
    let w = length rest in
    let r = value_behind 10 0 rest in
    let all : value_behind 10 0 (front ++ (more ++ rest)) ≡ number * 10 ^ w + r =
    value_append 0 front (more ++ rest) ∙ value_append (value_behind 10 0 front) more rest ∙ value_split number rest in
    let wide : 10 ^ length (more ++ rest) ≡ 10 ^ k * 10 ^ w = ap (λ n. 10 ^ n) (length-append more rest ∙ ap (λ n. n + w) size) ∙ pow-add 10 k w in
    let high : value_behind 10 0 (front ++ (more ++ rest)) * 10 ^ k ≡ (number * 10 ^ w + r) * 10 ^ k = ap (λ n. n * 10 ^ k) all in
    let low : number * 10 ^ length (more ++ rest) ≡ number * (10 ^ k * 10 ^ w) = ap (λ q. number * q) wide in
    let scaled : suc r * 10 ^ k ≤ 10 ^ w * 10 ^ k = mul-le-mul_right (10 ^ k) (value_below rest digits) in
    let lifted : 1 * 10 ^ k ≤ r * 10 ^ k = mul-le-mul_right (10 ^ k) (omega (arith, some)) in
    some_remains _ _ _ number (r * 10 ^ k) (omega (arith, high, low)) (omega (arith, scaled, wide, power_some k)) (λ zero. omega (arith, zero, lifted, power_some k))

left_over : (r f : ℕ) → r * 10 ^ f ≡ 0 → r ≡ 0
left_over zero f is = refl
left_over (suc r) f is = absurd (let lifted : 1 * 10 ^ f ≤ suc r * 10 ^ f = mul-le-mul_right (10 ^ f) (omega arith) in omega (arith, is, lifted, power_some f))

-- the point moves to the left, over the digits behind the kept ones and perhaps further
module _ (kept rest fraction : List ℕ) (places : ℕ) where
  -- what is kept stands as many places higher as digits follow, or is nothing
  abbrev pub IsTied : Type 0
  IsTied = value_behind 10 0 kept * 10 ^ length rest ≡ value_behind 10 0 kept * 10 ^ places

  all_digits : value_behind 10 0 ((kept ++ rest) ++ fraction)
      ≡ (value_behind 10 0 kept * 10 ^ length rest + value_behind 10 0 rest) * 10 ^ length fraction + value_behind 10 0 fraction
  all_digits =
      value_append 0 (kept ++ rest) fraction ∙ value_split (value_behind 10 0 (kept ++ rest)) fraction
      ∙ ap (λ n. n * 10 ^ length fraction + value_behind 10 0 fraction) (value_append 0 kept rest ∙ value_split (value_behind 10 0 kept) rest)

  placed : IsTied → value_behind 10 0 ((kept ++ rest) ++ fraction) * 10 ^ 0
      ≡ value_behind 10 0 kept * 10 ^ (places + length fraction) + (value_behind 10 0 rest * 10 ^ length fraction + value_behind 10 0 fraction)
  placed tied =
      let scaled : value_behind 10 0 kept * 10 ^ length rest * 10 ^ length fraction ≡ value_behind 10 0 kept * 10 ^ places * 10 ^ length fraction = ap (λ n. n * 10 ^ length fraction) tied in
      let wide : value_behind 10 0 kept * 10 ^ (places + length fraction) ≡ value_behind 10 0 kept * (10 ^ places * 10 ^ length fraction) = ap (λ q. value_behind 10 0 kept * q) (pow-add 10 places (length fraction)) in
      omega (arith, all_digits, scaled, wide)

  pub left_whole : IsTied → value_behind 10 0 rest ≡ 0 → value_behind 10 0 fraction ≡ 0
      → whole_number (record { digits = value_behind 10 0 ((kept ++ rest) ++ fraction); up = 0; down = places + length fraction }) ≡ Some (value_behind 10 0 kept)
  left_whole tied none_left none_behind =
      let gone : value_behind 10 0 rest * 10 ^ length fraction ≡ 0 * 10 ^ length fraction = ap (λ n. n * 10 ^ length fraction) none_left in
      none_remains _ 0 (places + length fraction) (value_behind 10 0 kept) (omega (arith, placed tied, gone, none_behind))

  pub left_broken : IsTied → length rest ≤ places → AreDigits rest → AreDigits fraction
      → (value_behind 10 0 rest ≡ 0 → value_behind 10 0 fraction ≡ 0 → ⊥)
      → whole_number (record { digits = value_behind 10 0 ((kept ++ rest) ++ fraction); up = 0; down = places + length fraction }) ≡ None
  left_broken tied within digits more some =
      let f = length fraction in
      let r = value_behind 10 0 rest in
      let scaled : suc r * 10 ^ f ≤ 10 ^ length rest * 10 ^ f = mul-le-mul_right (10 ^ f) (value_below rest digits) in
      let gap : length rest + (places - length rest) ≡ places = omega arith in
      let wider : 10 ^ places ≡ 10 ^ length rest * 10 ^ (places - length rest) = ap (λ n. 10 ^ n) (sym gap) ∙ pow-add 10 (length rest) (places - length rest) in
      let grown : 10 ^ length rest * 1 ≤ 10 ^ length rest * 10 ^ (places - length rest) = mul-le-mul_left (10 ^ length rest) (power_some (places - length rest)) in
      let higher : 10 ^ length rest * 10 ^ f ≤ 10 ^ places * 10 ^ f = mul-le-mul_right (10 ^ f) (omega (arith, wider, grown)) in
      let behind = value_below fraction more in
      some_remains _ 0 (places + f) (value_behind 10 0 kept) (r * 10 ^ f + value_behind 10 0 fraction) (placed tied)
      (omega (arith, scaled, higher, behind, pow-add 10 places f))
      (λ zero. some (left_over r f (omega (arith, zero))) (omega (arith, zero)))

-- the digits that are kept where the point moves to the left
pub kept_tied : (front : List ℕ) (places left : ℕ) → left ≡ length front - places → length (drop left front) + left ≡ length front
    → value_behind 10 0 (take left front) * 10 ^ length (drop left front) ≡ value_behind 10 0 (take left front) * 10 ^ places
kept_tied front places zero is size = omega arith
kept_tied front places (suc left) is size = ap (λ n. value_behind 10 0 (take (suc left) front) * 10 ^ n) (omega (arith, is, size))

-- numbers up to the cap

-- a number that is capped stays the same where its cap is
capped_grows : (n m : ℕ) → capped n ≡ capped m → (d : ℕ) → capped (n * 10 + d) ≡ capped (m * 10 + d)
capped_grows n m e d = omega (arith, e)

pub capped_value : (n m : ℕ) (xs : List ℕ) → capped n ≡ capped m → capped (value_behind 10 n xs) ≡ capped (value_behind 10 m xs)
capped_value n m [] e = e
capped_value n m (x ∷ xs) e = capped_value (n * 10 + digit_value x) (m * 10 + digit_value x) xs (capped_grows n m e (digit_value x))

-- none where the number is none
pub capped_none : (n m : ℕ) → m ≡ capped n → m ≡ 0 → n ≡ 0
capped_none n m is none = omega (arith, is, none)

pub capped_some : (n m : ℕ) → m ≡ capped n → (m ≡ 0 → ⊥) → n ≡ 0 → ⊥
capped_some n m is some none = some (omega (arith, is, none))

-- zeros behind a number

pub ten_times : (n m k : ℕ) → capped n ≡ capped m → capped (n * 10 ^ k) ≡ capped (m * 10 ^ k)
ten_times n m zero e = omega (arith, e)
ten_times n m (suc k) e =
    let grown : capped (n * 10) ≡ capped (m * 10) = omega (arith, e) in
    let shifted : (x : ℕ) → x * 10 ^ suc k ≡ x * 10 * 10 ^ k = λ x. ap (λ q. x * q) (pow-suc 10 k) ∙ omega arith in
    ap capped (shifted n) ∙ ten_times (n * 10) (m * 10) k grown ∙ sym (ap capped (shifted m))

-- a sign doesn't see the cap
within_by : (negative : Bool) (n : ℕ) (b : Bool) → nat_le n (2 ^ 53) ≡ b → within_doubles negative (capped n) ≡ within_doubles negative n
within_by negative n true e =
    let same : capped n ≡ n = grind (arith, nat_tests) in
    ap (within_doubles negative) same
within_by negative n false e =
    let past : nat_le (capped n) (2 ^ 53) ≡ false = grind (arith, nat_tests) in
    ap (λ b. cond b (Some (cond negative (neg_ℤ (pos (capped n))) (pos (capped n)))) None) past
    ∙ sym (ap (λ b. cond b (Some (cond negative (neg_ℤ (pos n)) (pos n))) None) e)

pub sign_capped : (negative : Bool) (whole : Option ℕ) → signed_within negative (option_map capped whole) ≡ signed_within negative whole
sign_capped negative None = refl
sign_capped negative (Some n) = within_by negative n (nat_le n (2 ^ 53)) refl

-- steps of loops

-- one digit more, up to the cap
pub digits_step : (digits : List ℕ) (i value d next all : ℕ) → i < length digits → d ≡ digit_value (get_or digits i 0) → next ≡ capped (value * 10 + d)
    → capped (value_behind 10 value (drop i digits)) ≡ all → capped (value_behind 10 next (drop (i + 1) digits)) ≡ all
digits_step digits i value d next all inside is made kept =
    let read : value_behind 10 value (drop i digits) ≡ value_behind 10 (value * 10 + digit_value (get_or digits i 0)) (drop (suc i) digits) = ap (value_behind 10 value) (drop-cons digits i 0 inside) in
    let same : capped next ≡ capped (value * 10 + digit_value (get_or digits i 0)) = omega (arith, is, made) in
    ap (λ j. capped (value_behind 10 next (drop j digits))) (add-one i)
    ∙ capped_value next (value * 10 + digit_value (get_or digits i 0)) (drop (suc i) digits) same ∙ sym (ap capped read) ∙ kept

-- one zero more, up to the cap
pub zeros_step : (value next places place all : ℕ) → place < places → next ≡ capped (value * 10) → capped (value * 10 ^ (places - place)) ≡ all
    → capped (next * 10 ^ (places - (place + 1))) ≡ all
zeros_step value next places place all inside made kept =
    let k = places - (place + 1) in
    let same : capped next ≡ capped (value * 10) = omega (arith, made) in
    let one : places - place ≡ suc k = omega (arith, inside) in
    let shifted : value * 10 ^ (places - place) ≡ value * 10 * 10 ^ k = ap (λ n. value * 10 ^ n) one ∙ ap (λ q. value * q) (pow-suc 10 k) ∙ omega arith in
    ten_times next (value * 10) k same ∙ sym (ap capped shifted) ∙ kept

-- zeros behind the cap
pub cap_stays : (value n : ℕ) → value ≡ 2 ^ 53 + 1 → capped (value * 10 ^ n) ≡ 2 ^ 53 + 1
cap_stays value n is =
    let grown : value * 1 ≤ value * 10 ^ n = mul-le-mul_left value (power_some n) in
    omega (arith, is, grown)

some_digits : (rest : List ℕ) → (value_behind 10 0 rest ≡ 0 → ⊥) → 0 < length rest
some_digits [] some = absurd (some refl)
some_digits (x ∷ xs) some = omega arith

-- the point moves to the right

pub right_none : (front fraction more rest : List ℕ) (places k : ℕ) → fraction ≡ more ++ rest → length more ≡ k → k ≡ min places (length fraction) → AreDigits rest → (value_behind 10 0 rest ≡ 0 → ⊥)
    → None ≡ option_map capped (whole_number (record { digits = value_behind 10 0 (front ++ fraction); up = places; down = length fraction }))
right_none front fraction more rest places k is size taken digits some =
    let all : length fraction ≡ length more + length rest = ap length is ∙ length-append more rest in
    let up : places ≡ k = omega (arith, all, size, taken, some_digits rest some) in
    sym (ap (option_map capped) (
    (λ i. whole_number (record { digits = value_behind 10 0 (front ++ is i); up = up i; down = length (is i) }))
    ∙ right_broken front more rest k size digits some))

pub right_some : (front fraction more rest : List ℕ) (places k first number result : ℕ) → fraction ≡ more ++ rest → length more ≡ k → k ≤ places → value_behind 10 0 rest ≡ 0
    → first ≡ capped (value_behind 10 0 front) → number ≡ capped (value_behind 10 first more) → result ≡ capped (number * 10 ^ (places - k))
    → Some result ≡ option_map capped (whole_number (record { digits = value_behind 10 0 (front ++ fraction); up = places; down = length fraction }))
right_some front fraction more rest places k first number result is size taken none one two three =
    let z = places - k in
    let up : places ≡ k + z = omega (arith, taken) in
    let front_same : capped first ≡ capped (value_behind 10 0 front) = omega (arith, one) in
    let more_same : capped number ≡ capped (value_behind 10 first more) = omega (arith, two) in
    let same : capped number ≡ capped (value_behind 10 (value_behind 10 0 front) more) = more_same ∙ capped_value first (value_behind 10 0 front) more front_same in
    ap Some (three ∙ ten_times number (value_behind 10 (value_behind 10 0 front) more) z same)
    ∙ sym (ap (option_map capped) (
    (λ i. whole_number (record { digits = value_behind 10 0 (front ++ is i); up = up i; down = length (is i) }))
    ∙ right_whole front more rest k z size none))

-- the point moves to the left

module _ (front fraction kept rest : List ℕ) (places left : ℕ) (is : front ≡ kept ++ rest) (kept_is : kept ≡ take left front) (rest_is : rest ≡ drop left front)
    (left_is : left ≡ length front - places) (size : length rest + left ≡ length front) where
  tied : IsTied kept rest fraction places
  tied =
      let size_is : length (drop left front) + left ≡ length front = ap (λ (l : List ℕ). length l + left) (sym rest_is) ∙ size in
      let there = kept_tied front places left left_is size_is in
      (λ i. value_behind 10 0 (kept_is i) * 10 ^ length (rest_is i)) ∙ there ∙ (λ i. value_behind 10 0 (sym kept_is i) * 10 ^ places)

  pub left_none : AreDigits rest → AreDigits fraction → (value_behind 10 0 rest ≡ 0 → value_behind 10 0 fraction ≡ 0 → ⊥)
      → None ≡ option_map capped (whole_number (record { digits = value_behind 10 0 (front ++ fraction); up = 0; down = places + length fraction }))
  left_none digits more some =
      sym (ap (option_map capped) (
      (λ i. whole_number (record { digits = value_behind 10 0 (is i ++ fraction); up = 0; down = places + length fraction }))
      ∙ left_broken kept rest fraction places tied (omega (arith, left_is, size)) digits more some))

  pub left_some : (result : ℕ) → value_behind 10 0 rest ≡ 0 → value_behind 10 0 fraction ≡ 0 → result ≡ capped (value_behind 10 0 kept)
      → Some result ≡ option_map capped (whole_number (record { digits = value_behind 10 0 (front ++ fraction); up = 0; down = places + length fraction }))
  left_some result none none_behind made =
      ap Some made
      ∙ sym (ap (option_map capped) (
      (λ i. whole_number (record { digits = value_behind 10 0 (is i ++ fraction); up = 0; down = places + length fraction }))
      ∙ left_whole kept rest fraction places tied none none_behind))
