-- Reading the parts of a text from the front. A reader answers what it read and what is left behind it; or, where no such part
-- stands in front, how many bytes are left at the first byte with which none goes on.
use Rattle.std.specs.Prelude.{ℕ, zero, suc, ◌+◌, ◌*◌, ◌-◌, Bool, ℤ, pos, neg_ℤ, ◌==◌, ◌&&◌, nat_le, min, List, [], ◌∷◌, length, Option, Some, None, Result, Ok, Err, if◌then◌else◌}
use Rattle.thrift_value.specs.declared.tag.Tag.{Tag}
use Rattle.thrift_value.specs.declared.tag.Tag.TheVariants.{Bool as BoolTag, I8, I16, I32, I64, Double, Bytes, Struct, Map, Set, List as ListTag, Uuid}
use Rattle.text_out.specs.Bytes.{minus_sign, zero_digit, quotation_mark, escape_mark, hex_mark}
use Rattle.value_text.specs.ValueText.{tag_word}

infixl 10 ◌>>=◌
-- one reader after another
abbrev pub ◌>>=◌ : {A B : Type 0} → Result A ℕ → (A → Result B ℕ) → Result B ℕ
(Ok x) >>= f = f x
(Err left) >>= f = Err left

-- a fault at the first byte of this text, or at its end
abbrev pub stuck : {A : Type 0} → List ℕ → Result A ℕ
stuck text = Err (length text)

-- bytes that have to stand there
abbrev pub behind_word : List ℕ → List ℕ → Result (List ℕ) ℕ
behind_word [] text = Ok text
behind_word (c ∷ cs) [] = Err 0
behind_word (c ∷ cs) (b ∷ bs) = if b == c then behind_word cs bs else stuck (b ∷ bs)

-- the tags, in the order of values
abbrev pub all_tags : List Tag
all_tags = BoolTag ∷ I8 ∷ I16 ∷ I32 ∷ I64 ∷ Double ∷ Bytes ∷ Struct ∷ Map ∷ Set ∷ ListTag ∷ Uuid ∷ []

-- a tag whose word was read, or another one
abbrev pub tag_or : Result (List ℕ) ℕ → Tag → (ℕ → Result (Tag × List ℕ) ℕ) → Result (Tag × List ℕ) ℕ
tag_or (Ok rest) tag others = Ok (tag, rest)
tag_or (Err left) tag others = others left

-- the word of one of some tags; where none stands there, the fault is where the word that went furthest ended
abbrev pub tag_among : List Tag → ℕ → List ℕ → Result (Tag × List ℕ) ℕ
tag_among [] furthest text = Err furthest
tag_among (tag ∷ tags) furthest text = tag_or (behind_word (tag_word tag) text) tag (λ left. tag_among tags (min left furthest) text)

-- the word of a tag
unfoldable pub tag_at : List ℕ → Result (Tag × List ℕ) ℕ
tag_at text = tag_among all_tags (length text) text

-- a decimal digit
abbrev pub is_digit : ℕ → Bool
is_digit b = nat_le 48 b && nat_le b 57

-- the further digits of a number that is n so far, as many as there are; a digit that makes it greater than `most` is at fault
abbrev pub digits_at : ℕ → ℕ → List ℕ → Result (ℕ × List ℕ) ℕ
digits_at most n [] = Ok (n, [])
digits_at most n (b ∷ bs) =
    if is_digit b then (if nat_le (n * 10 + (b - 48)) most then digits_at most (n * 10 + (b - 48)) bs else stuck (b ∷ bs))
    else Ok (n, b ∷ bs)

-- a number from 1 up to `most`, with no zero in front
abbrev pub positive_at : ℕ → List ℕ → Result (ℕ × List ℕ) ℕ
positive_at most [] = Err 0
positive_at most (b ∷ bs) = if nat_le 49 b && nat_le b 57 then digits_at most (b - 48) bs else stuck (b ∷ bs)

-- an integer up to `most`, or down to one below the negative of it: 0, or digits with no zero in front, and `-` before a number below 0
unfoldable pub integer_at : ℕ → List ℕ → Result (ℤ × List ℕ) ℕ
integer_at most [] = Err 0
integer_at most (b ∷ bs) =
    if b == zero_digit then Ok (pos 0, bs)
    else if b == minus_sign then (positive_at (suc most) bs >>= λ n. Ok (neg_ℤ (pos n.0), n.1))
    else (positive_at most (b ∷ bs) >>= λ n. Ok (pos n.0, n.1))

-- the value of a hexadecimal digit in lower case
abbrev pub nibble : ℕ → Option ℕ
nibble b = if is_digit b then Some (b - 48) else if nat_le 97 b && nat_le b 102 then Some (b - 87) else None

-- a digit in front, or nothing
abbrev pub nibble_or : Option ℕ → List ℕ → List ℕ → Result (ℕ × List ℕ) ℕ
nibble_or None text rest = stuck text
nibble_or (Some n) text rest = Ok (n, rest)

-- a hexadecimal digit
abbrev pub nibble_at : List ℕ → Result (ℕ × List ℕ) ℕ
nibble_at [] = Err 0
nibble_at (b ∷ bs) = nibble_or (nibble b) (b ∷ bs) bs

-- a byte of two hexadecimal digits, the high half first
unfoldable pub hex_byte_at : List ℕ → Result (ℕ × List ℕ) ℕ
hex_byte_at text = do
  high ← nibble_at text
  low ← nibble_at high.1
  Ok (high.0 * 16 + low.0, low.1)

-- so many bytes of two hexadecimal digits each
unfoldable pub hex_at : ℕ → List ℕ → Result (List ℕ × List ℕ) ℕ
hex_at zero text = Ok ([], text)
hex_at (suc count) text = do
  byte ← hex_byte_at text
  more ← hex_at count byte.1
  Ok (byte.0 ∷ more.0, more.1)

-- a byte that stands as it is between quotation marks
abbrev pub is_printable : ℕ → Bool
is_printable b = nat_le 0x20 b && nat_le b 0x7e

-- the second digit of a byte that doesn't stand as it is
abbrev pub low_half : ℕ → ℕ × List ℕ → List ℕ → Result (Option ℕ × List ℕ) ℕ
low_half high low text = if is_printable (high * 16 + low.0) then stuck text else Ok (Some (high * 16 + low.0), low.1)

-- the two digits of a byte that doesn't stand as it is; no such byte begins with a digit from 2 to 6
unfoldable pub hexed_at : List ℕ → Result (Option ℕ × List ℕ) ℕ
hexed_at text = do
  high ← nibble_at text
  if nat_le 2 high.0 && nat_le high.0 6 then stuck text else (nibble_at high.1 >>= λ low. low_half high.0 low high.1)

-- what stands behind an escape mark
unfoldable pub escaped_at : List ℕ → Result (Option ℕ × List ℕ) ℕ
escaped_at [] = Err 0
escaped_at (b ∷ bs) =
    if b == quotation_mark then Ok (Some quotation_mark, bs)
    else if b == escape_mark then Ok (Some escape_mark, bs)
    else if b == hex_mark then hexed_at bs
    else stuck (b ∷ bs)

-- one byte behind a quotation mark, or the mark that ends them
unfoldable pub quoted_byte_at : List ℕ → Result (Option ℕ × List ℕ) ℕ
quoted_byte_at [] = Err 0
quoted_byte_at (b ∷ bs) =
    if b == quotation_mark then Ok (None, bs)
    else if b == escape_mark then escaped_at bs
    else if is_printable b then Ok (Some b, bs)
    else stuck (b ∷ bs)

-- a byte, and the bytes behind it
abbrev pub byte_before : Option ℕ → List ℕ → (List ℕ → Result (List ℕ × List ℕ) ℕ) → Result (List ℕ × List ℕ) ℕ
byte_before None rest others = Ok ([], rest)
byte_before (Some b) rest others = others rest >>= λ more. Ok (b ∷ more.0, more.1)

-- the bytes behind a quotation mark, up to the mark that ends them. A byte takes one at least, so `most` may be any number above
-- that of the bytes
unfoldable pub quoted_at : ℕ → List ℕ → Result (List ℕ × List ℕ) ℕ
quoted_at zero text = stuck text
quoted_at (suc most) text = quoted_byte_at text >>= λ one. byte_before one.0 one.1 (quoted_at most)
