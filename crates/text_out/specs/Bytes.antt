-- The bytes of ASCII that texts are written with, by their names.
use Rattle.std.specs.Prelude.{ℕ}

-- the newline behind a line
abbrev pub line_feed : ℕ
line_feed = 10

-- the `-` before a number below 0
abbrev pub minus_sign : ℕ
minus_sign = 45

-- `0`
abbrev pub zero_digit : ℕ
zero_digit = 48

-- the `"` before and behind quoted bytes
abbrev pub quotation_mark : ℕ
quotation_mark = 34

-- the `\` before a byte that is escaped
abbrev pub escape_mark : ℕ
escape_mark = 92

-- the `x` before a byte's two digits
abbrev pub hex_mark : ℕ
hex_mark = 120
