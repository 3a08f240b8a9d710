-- Kinds of bytes. Letters and digits are ASCII.
use Rattle.std.specs.Prelude.{ℕ, ◌==◌, ◌||◌, ◌&&◌, nat_lt, Bool, List, length}
use Rattle.std.specs.Char.{is_ascii_digit, is_ascii_alphabetic}
use Rattle.std.specs.List.{prefix_len}
use Rattle.idl_token.specs.Bytes as byte

-- space, tab, carriage return, newline (Thrift IDL, 'whitespace')
abbrev pub is_white : ℕ → Bool
is_white b = b == byte.space || b == byte.tab || b == byte.carriage_return || b == byte.newline

-- a letter or `_` (Thrift IDL, 'Identifier')
abbrev pub is_word_start : ℕ → Bool
is_word_start b = is_ascii_alphabetic b || b == byte.underscore

-- what may follow in a word: letters, digits, `.` and `_`
abbrev pub is_word_byte : ℕ → Bool
is_word_byte b = is_word_start b || is_ascii_digit b || b == byte.dot

-- `"` or `'`
abbrev pub is_quote : ℕ → Bool
is_quote b = b == byte.double_quote || b == byte.single_quote

-- `+` or `-`
abbrev pub is_plus_or_minus : ℕ → Bool
is_plus_or_minus b = b == byte.plus || b == byte.minus

-- `e` or `E`
abbrev pub is_exponent_mark : ℕ → Bool
is_exponent_mark b = b == byte.lower_e || b == byte.upper_e

-- the byte behind the backslash of an escape: `n`, `t`, `r`, the quotation marks, the backslash
abbrev pub is_escape : ℕ → Bool
is_escape b = b == byte.lower_n || b == byte.lower_t || b == byte.lower_r || is_quote b || b == byte.backslash

-- one byte or more, all of which pass
abbrev pub is_run : (ℕ → Bool) → List ℕ → Bool
is_run p text = nat_lt 0 (length text) && prefix_len p text == length text
