-- Steps of the loop over pairs of digits.
use Rattle.std.proofs.Common.{◌≡◌, ℕ, ◌+◌, ◌*◌, ◌%◌, ◌<◌, ◌≤◌, List, [], ◌∷◌, ◌++◌, length, take, drop, nat_cmp, slice_index, slice_set, Bool, true, false, Option, Some, None, refl, sym, ap, ◌∙◌, arith}
use Rattle.std.proofs.lemmas.List.{append_assoc, drop_more, take_more_set}
use Rattle.std.specs.Prelude.{max, nat_lt, option_and_then, if◌then◌else◌}
use Rattle.std.specs.Option.{option_map}
use Rattle.std.specs.Ordering.{ord_max}
use Rattle.hex.specs.Hex.{hex_digit_value}
use Rattle.text_out.specs.Hex.{pair_value, unhex_of}
use Rattle.script_text.specs.Pairs.{no_digit, digit_worth, IsDigitWorth}

-- bytes in front of others
abbrev pub prepend : List ℕ → Option (List ℕ) → Option (List ℕ)
prepend front rest = option_map (λ bytes. front ++ bytes) rest

-- bytes in front of others, where all so far were digits
abbrev pub joined : Bool → List ℕ → Option (List ℕ) → Option (List ℕ)
joined all front rest = if all then prepend front rest else None

-- a byte in front of others
abbrev pub cons_byte : Option (List ℕ) → ℕ → Option (List ℕ)
cons_byte rest byte = option_map (λ bytes. byte ∷ bytes) rest

-- the byte of two digits
abbrev pub byte_of : Option ℕ → Option ℕ → Option ℕ
byte_of high low = option_and_then (λ h. option_map (λ l. h * 16 + l) low) high

joined-none : (all : Bool) (front : List ℕ) → joined all front None ≡ None
joined-none true front = refl
joined-none false front = refl

prepend-cons : (front : List ℕ) (byte : ℕ) (rest : Option (List ℕ)) → prepend front (cons_byte rest byte) ≡ prepend (front ++ byte ∷ []) rest
prepend-cons front byte None = refl
prepend-cons front byte (Some bytes) = ap Some (sym (append_assoc front (byte ∷ []) bytes))

joined-cons : (all : Bool) (front : List ℕ) (byte : ℕ) (rest : Option (List ℕ)) → joined all front (cons_byte rest byte) ≡ joined all (front ++ byte ∷ []) rest
joined-cons true front byte rest = prepend-cons front byte rest
joined-cons false front byte rest = refl

not_less : (n : ℕ) → no_digit ≤ n → nat_lt n no_digit ≡ false
not_less n large = grind (arith, large)

-- a number is less than that of no digit, beside two that are, as it is alone
less_beside : (most high low : ℕ) → high < no_digit → low < no_digit → nat_lt (max most (max high low)) no_digit ≡ nat_lt most no_digit
less_beside most high low h l = grind (arith, h, l)

-- one pair more, by what its digits are worth
pair_on : (most : ℕ) (front : List ℕ) (high low : Option ℕ) (rest : Option (List ℕ)) → IsDigitWorth high → IsDigitWorth low
    → joined (nat_lt most no_digit) front (option_and_then (cons_byte rest) (byte_of high low))
    ≡ joined (nat_lt (max most (max (digit_worth high) (digit_worth low))) no_digit) (front ++ (digit_worth high % 16 * 16 + digit_worth low % 16) ∷ []) rest
pair_on most front None low rest h l =
    joined-none (nat_lt most no_digit) front
    ∙ sym (ap (λ (all : Bool). joined all (front ++ (no_digit % 16 * 16 + digit_worth low % 16) ∷ []) rest) (not_less (max most (max no_digit (digit_worth low))) (omega arith)))
pair_on most front (Some high) None rest h l =
    joined-none (nat_lt most no_digit) front
    ∙ sym (ap (λ (all : Bool). joined all (front ++ (high % 16 * 16 + no_digit % 16) ∷ []) rest) (not_less (max most (max high no_digit)) (omega arith)))
pair_on most front (Some high) (Some low) rest h l =
    let byte : high * 16 + low ≡ high % 16 * 16 + low % 16 = omega arith in
    ap (λ b. joined (nat_lt most no_digit) front (cons_byte rest b)) byte
    ∙ joined-cons (nat_lt most no_digit) front _ rest
    ∙ sym (ap (λ all. joined all (front ++ (high % 16 * 16 + low % 16) ∷ []) rest) (less_beside most high low h l))

-- what is left of the text, at a whole pair
drop-pair : (s : List ℕ) (i : ℕ) → 2 * i + 1 < length s
    → drop (2 * i) s ≡ slice_index s (2 * i) ∷ slice_index s (2 * i + 1) ∷ drop (2 * (i + 1)) s
drop-pair s i fits =
    let a = drop_more s (2 * i) 0 (omega arith) in
    let b = drop_more s (2 * i + 1) 0 (omega arith) in
    let two : 2 * i + 1 + 1 ≡ 2 * (i + 1) = omega arith in
    rw (a, b, two) refl

-- one byte more is put
pub pair_put : (s out : List ℕ) (i most high low : ℕ) → 2 * i + 1 < length s → i < length out
    → high ≡ digit_worth (hex_digit_value (slice_index s (2 * i))) → low ≡ digit_worth (hex_digit_value (slice_index s (2 * i + 1)))
    → IsDigitWorth (hex_digit_value (slice_index s (2 * i))) → IsDigitWorth (hex_digit_value (slice_index s (2 * i + 1)))
    → joined (nat_lt most no_digit) (take i out) (unhex_of (drop (2 * i) s)) ≡ unhex_of s
    → joined (nat_lt (max most (max high low)) no_digit) (take (i + 1) (slice_set out i (high % 16 * 16 + low % 16))) (unhex_of (drop (2 * (i + 1)) s)) ≡ unhex_of s
pair_put s out i most high low fits room high-is low-is h l inv =
    let rest : Option (List ℕ) = unhex_of (drop (2 * (i + 1)) s) in
    let on = pair_on most (take i out) (hex_digit_value (slice_index s (2 * i))) (hex_digit_value (slice_index s (2 * i + 1))) rest h l in
    let front = take_more_set out i (high % 16 * 16 + low % 16) room in
    ap (λ (f : List ℕ). joined (nat_lt (max most (max high low)) no_digit) f rest) front
    ∙ ap (λ (n : ℕ). joined (nat_lt (max most (max n low)) no_digit) (take i out ++ (n % 16 * 16 + low % 16) ∷ []) rest) high-is
    ∙ ap (λ (n : ℕ). joined (nat_lt (max most (max (digit_worth (hex_digit_value (slice_index s (2 * i)))) n)) no_digit)
    (take i out ++ (digit_worth (hex_digit_value (slice_index s (2 * i))) % 16 * 16 + n % 16) ∷ []) rest) low-is
    ∙ sym on ∙ ap (λ (left : List ℕ). joined (nat_lt most no_digit) (take i out) (unhex_of left)) (sym (drop-pair s i fits)) ∙ inv

nothing : (o : Option ℕ) → option_and_then (λ (_ : ℕ). let none : Option (List ℕ) = None in none) o ≡ None
nothing None = refl
nothing (Some x) = refl

-- a digit without a partner
pub odd_spells_nothing : (text : List ℕ) → length text % 2 ≡ 1 → unhex_of text ≡ None
odd_spells_nothing [] odd = absurd (omega arith)
odd_spells_nothing (digit ∷ []) odd = refl
odd_spells_nothing (high ∷ low ∷ text) odd =
    ap (λ read. option_and_then (λ b. option_map (λ bytes. b ∷ bytes) read) (pair_value high low)) (odd_spells_nothing text (omega arith))
    ∙ nothing (pair_value high low)

-- the larger of two numbers, as the order of numbers has it
pub larger : (a b : ℕ) → ord_max nat_cmp a b ≡ max a b
larger a b = grind (arith)
