-- Numbers of a script: what is read as one, and how one is written.
use Rattle.std.proofs.Common.{◌≡◌, ℕ, zero, suc, ◌+◌, ◌*◌, ◌<◌, ◌^◌, Bool, true, false, cond, ◌&&◌, nat_lt, List, [], ◌∷◌, length, get_or, Option, Some, None, refl, sym, ap, subst, ◌∙◌, arith}
use Rattle.std.proofs.lemmas.Bool.{ltb-true, lt-ltb, and_parts, and_from, ne_eqb}
use Rattle.std.proofs.lemmas.Slice.Eq.{bytes_eq-Decides}
use Rattle.std.proofs.lemmas.Fmt.{decimal_is_IsNumeral, decimal_digit, parse-decimal, decimal-digits_value, IsAscii-decimal}
use Rattle.std.proofs.lemmas.Str.{IsUtf8-from_ascii}
use Rattle.std.proofs.lemmas.Str.Parse.{numerals_by_value, tells_digits, parse_plain}
use Rattle.text_out.proofs.DecimalLemmas.{plain_natural}
use Rattle.std.specs.Prelude.{MatchOption, ⊤, OkIff, Result, Ok, option_and_then}
use Rattle.std.specs.Option.{option_map}
use Rattle.std.specs.Str.{bytes_eq, IsUtf8}
use Rattle.std.specs.Str.Parse.{AllDigits, ParsesUnsigned, digits_value}
use Rattle.std.specs.Char.{digit_value}
use Rattle.std.specs.List.{AllByRecursion}
use Rattle.hex.specs.Hex.{IsBytes, hex_digit_value}
use Rattle.text_out.specs.Decimal.{natural_of}
use Rattle.text_out.specs.Hex.{unhex_of, pair_value}
use Rattle.script_text.specs.TextLines.{is_space, is_line_end}
use Rattle.script_text.specs.LineForms.{decimal_read, spelled_bytes}
use Rattle.script_text.proofs.Cuts.{IsFree}

first_digit : (ds : List ℕ) → 0 < length ds → AllDigits 10 ds → digit_value (get_or ds 0 0) < 10
first_digit [] some digits = absurd (omega (arith, some))
first_digit (d ∷ ds) some digits = digits.0

-- the test of a number
abbrev is_number : List ℕ → Bool
is_number text = nat_lt (digits_value 10 text) (2 ^ 32) && bytes_eq text (natural_of (digits_value 10 text))

read_by : (text : List ℕ) (test : Bool) → is_number text ≡ test → decimal_read text ≡ cond test (Some (digits_value 10 text)) None
read_by text test is = ap (λ t. cond t (Some (digits_value 10 text)) None) is

-- the decimal of a number is read as it
pub number_read : (text : List ℕ) (n : ℕ) → n < 2 ^ 32 → text ≡ natural_of n → decimal_read text ≡ Some n
number_read text n small is =
    let value : digits_value 10 text ≡ n = ap (digits_value 10) is ∙ (decimal_is_IsNumeral n (omega arith)).1 in
    let within : nat_lt (digits_value 10 text) (2 ^ 32) ≡ true = lt-ltb _ _ (omega (arith, value)) in
    let same : bytes_eq text (natural_of (digits_value 10 text)) ≡ true = (bytes_eq-Decides _ _).1 (is ∙ ap natural_of (sym value)) in
    read_by text true (and_from _ _ within same) ∙ ap Some value

-- a text that is the decimal of none
unread_by : (text : List ℕ) (test : Bool) → is_number text ≡ test → ((n : ℕ) → n < 2 ^ 32 → text ≡ natural_of n → ⊥) → test ≡ false
unread_by text false is none = refl
unread_by text true is none =
    let both = and_parts _ _ is in
    absurd (none (digits_value 10 text) (ltb-true _ _ both.0) ((bytes_eq-Decides _ _).0 both.1))

pub number_unread : (text : List ℕ) → ((n : ℕ) → n < 2 ^ 32 → text ≡ natural_of n → ⊥) → decimal_read text ≡ None
number_unread text none = read_by text false (unread_by text (is_number text) refl none)

-- what was read is the decimal of a number of 32 bits
small_by : (text : List ℕ) (test : Bool) → is_number text ≡ test → MatchOption (cond test (Some (digits_value 10 text)) None) ⊤ (λ n. n < 2 ^ 32)
small_by text true is = ltb-true _ _ (and_parts _ _ is).0
small_by text false is = tt

pub number_small : (text : List ℕ) → MatchOption (decimal_read text) ⊤ (λ n. n < 2 ^ 32)
number_small text = small_by text (is_number text) refl

-- a text that begins with another byte than a digit
pub other_unread : (text : List ℕ) (b : ℕ) → get_or text 0 0 ≡ b → (digit_value b < 10 → ⊥) → decimal_read text ≡ None
other_unread text b is other =
    number_unread text (λ n small same.
    let numeral = (decimal_is_IsNumeral n (omega arith)).0 in
    other (subst (λ x. digit_value x < 10) (ap (λ t. get_or t 0 0) (sym same) ∙ is) (first_digit (natural_of n) numeral.0 numeral.1)))

no_plus : digit_value 43 < 10 → ⊥
no_plus h = omega (arith, h)

pub plus_unread : (text : List ℕ) → get_or text 0 0 ≡ 43 → decimal_read text ≡ None
plus_unread text is = other_unread text 43 is no_plus

pub empty_unread : (text : List ℕ) → length text ≡ 0 → decimal_read text ≡ None
empty_unread text none = number_unread text (λ n small same. omega (arith, ap length same, none, (decimal_is_IsNumeral n (omega arith)).0.0))

-- `0`, alone and in front of something
pub zero_read : (text : List ℕ) → get_or text 0 0 ≡ 48 → length text ≡ 1 → decimal_read text ≡ Some 0
zero_read [] is one = absurd (omega (arith, one))
zero_read (b ∷ []) is one = number_read (b ∷ []) 0 (omega arith) (ap (λ x. x ∷ []) is ∙ sym (decimal_digit 0 (omega arith)))
zero_read (b ∷ c ∷ text) is one = absurd (omega (arith, one))

pub zero_unread : (text : List ℕ) → get_or text 0 0 ≡ 48 → (length text ≡ 1 → ⊥) → decimal_read text ≡ None
zero_unread text is more =
    number_unread text (λ n small same.
    let plain = (plain_natural n (omega arith)).0 in
    more (ap length same ∙ plain.no_zero_in_front (ap (λ t. get_or t 0 0) (sym same) ∙ is)))

-- a text that isn't UTF-8
pub no_text_unread : (text : List ℕ) → (IsUtf8 text → ⊥) → decimal_read text ≡ None
no_text_unread text other = number_unread text (λ n small same. other (subst IsUtf8 (sym same) (IsUtf8-from_ascii (natural_of n) (IsAscii-decimal n (omega arith)))))

-- what `parse` reads, and what it doesn't
pub unparsed : {E : Type 0} (text : List ℕ) (r : Result ℕ E) → ParsesUnsigned 32 10 text r → ((n : ℕ) → r ≡ Ok n → ⊥) → decimal_read text ≡ None
unparsed text r parses none = number_unread text (λ n small same. none n (parse-decimal 32 n text r small (omega arith) same parses))

pub parsed : {E : Type 0} (text : List ℕ) (r : Result ℕ E) (n : ℕ) → ParsesUnsigned 32 10 text r → r ≡ Ok n → (get_or text 0 0 ≡ 43 → ⊥) → (get_or text 0 0 ≡ 48 → ⊥)
    → decimal_read text ≡ Some n
parsed {E} text r n parses is no_sign no_zero =
    let read = parse_plain (numerals_by_value _ tells_digits) 32 text r parses no_sign in
    let k = subst (λ (o : Result ℕ E). OkIff o (AllDigits 10 text × (0 < length text) × (digits_value 10 text < 2 ^ 32)) (digits_value 10 text)) is read in
    let written : natural_of (digits_value 10 text) ≡ text =
    decimal-digits_value (numerals_by_value _ tells_digits) text k.0.0 k.0.1 (λ zero_first. absurd (no_zero zero_first)) (omega (arith, k.0.2)) in
    number_read text n (omega (arith, k.0.2, k.1)) (sym written ∙ ap natural_of (sym k.1))

-- a digit is neither a space nor a newline
digit_no_space : (c : ℕ) → digit_value c < 10 → c ≡ 32 → ⊥
digit_no_space c digit is = let k = subst (λ x. digit_value x < 10) is digit in omega (arith, k)

digit_no_newline : (c : ℕ) → digit_value c < 10 → c ≡ 10 → ⊥
digit_no_newline c digit is = let k = subst (λ x. digit_value x < 10) is digit in omega (arith, k)

spaceless : (ds : List ℕ) → AllDigits 10 ds → IsFree is_space ds
spaceless [] digits = tt
spaceless (d ∷ ds) digits = (ne_eqb d 32 (digit_no_space d digits.0), spaceless ds digits.1)

lineless : (ds : List ℕ) → AllDigits 10 ds → IsFree is_line_end ds
lineless [] digits = tt
lineless (d ∷ ds) digits = (ne_eqb d 10 (digit_no_newline d digits.0), lineless ds digits.1)

-- a decimal is one word
pub natural_word : (n : ℕ) → n < 2 ^ 32 → IsFree is_space (natural_of n)
natural_word n small = spaceless (natural_of n) (decimal_is_IsNumeral n (omega arith)).0.1

pub natural_line : (n : ℕ) → n < 2 ^ 32 → IsFree is_line_end (natural_of n)
natural_line n small = lineless (natural_of n) (decimal_is_IsNumeral n (omega arith)).0.1

-- each is a byte
abbrev pub EachByte : List ℕ → Type 0
EachByte bytes = AllByRecursion (λ b. b < 256) bytes

pub bytes_at : (bytes : List ℕ) → EachByte bytes → IsBytes bytes
bytes_at [] each i = omega arith
bytes_at (b ∷ bytes) each zero = each.0
bytes_at (b ∷ bytes) each (suc i) = bytes_at bytes each.1 i

digit_small : (c v : ℕ) → hex_digit_value c ≡ Some v → v < 16
digit_small c v h = grind (arith)

pair_small : (high low : Option ℕ) → ((v : ℕ) → high ≡ Some v → v < 16) → ((v : ℕ) → low ≡ Some v → v < 16)
    → MatchOption (option_and_then (λ h. option_map (λ l. h * 16 + l) low) high) ⊤ (λ b. b < 256)
pair_small None low h l = tt
pair_small (Some x) None h l = tt
pair_small (Some x) (Some y) h l = omega (arith, h x refl, l y refl)

joined_small : (byte : Option ℕ) (bytes : Option (List ℕ)) → MatchOption byte ⊤ (λ b. b < 256) → MatchOption bytes ⊤ EachByte
    → MatchOption (option_and_then (λ b. option_map (λ bs. b ∷ bs) bytes) byte) ⊤ (λ bs. (0 < length bs) × EachByte bs)
joined_small None bytes b bs = tt
joined_small (Some x) None b bs = tt
joined_small (Some x) (Some xs) b bs = (omega arith, (b, bs))

all_of : (bytes : Option (List ℕ)) → MatchOption bytes ⊤ (λ bs. (0 < length bs) × EachByte bs) → MatchOption bytes ⊤ EachByte
all_of None h = tt
all_of (Some bs) h = h.1

-- what hexadecimal spells is bytes
spelled : (high low : ℕ) (text : List ℕ) → MatchOption (unhex_of text) ⊤ EachByte → MatchOption (unhex_of (high ∷ low ∷ text)) ⊤ (λ bs. (0 < length bs) × EachByte bs)
spelled high low text behind =
    joined_small (pair_value high low) (unhex_of text) (pair_small (hex_digit_value high) (hex_digit_value low) (digit_small high) (digit_small low)) behind

unhex_bytes : (text : List ℕ) → MatchOption (unhex_of text) ⊤ EachByte
unhex_bytes [] = tt
unhex_bytes (digit ∷ []) = tt
unhex_bytes (high ∷ low ∷ text) = all_of (unhex_of (high ∷ low ∷ text)) (spelled high low text (unhex_bytes text))

pub some_are_bytes : (text : List ℕ) → MatchOption (spelled_bytes text) ⊤ (λ bs. (0 < length bs) × EachByte bs)
some_are_bytes [] = tt
some_are_bytes (digit ∷ []) = tt
some_are_bytes (high ∷ low ∷ text) = spelled high low text (unhex_bytes text)
