-- Runs of bytes of one kind.
use Rattle.std.specs.Prelude.{ℕ, ◌==◌, not, Bool}
use Rattle.std.specs.Char.{is_ascii_digit, is_ascii_hexdigit}
use Rattle.idl_token.specs.Classes.{is_word_byte, is_exponent_mark}
use Rattle.idl_token.specs.Bytes as byte
use Rattle.idl_token.specs.declared.runs.ByteRun.{ByteRun}
use Rattle.idl_token.specs.declared.runs.ByteRun.TheVariants as run

-- the bytes of a run
abbrev pub takes : ByteRun → ℕ → Bool
takes run.Digits = is_ascii_digit
takes run.HexDigits = is_ascii_hexdigit
takes run.WordBytes = is_word_byte
takes run.Line = λ b. not (b == byte.newline)
takes run.Mantissa = λ b. not (is_exponent_mark b)
