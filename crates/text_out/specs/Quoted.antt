-- Bytes between quotation marks.
use Rattle.std.specs.Prelude.{ℕ, ◌/◌, ◌%◌, ◌==◌, ◌&&◌, nat_le, List, [], ◌∷◌, ◌++◌, if◌then◌else◌}
use Rattle.std.specs.List.{flat_map}
use Rattle.text_out.specs.Hex.{hex_digit_of}
use Rattle.text_out.specs.Bytes.{quotation_mark, escape_mark, hex_mark}

-- a byte in quoted text: `\"` and `\\`, the bytes 20 to 7e as they are, others as `\x` and two digits
abbrev pub quoted_byte : ℕ → List ℕ
quoted_byte b =
    if b == quotation_mark then escape_mark ∷ quotation_mark ∷ []
    else if b == escape_mark then escape_mark ∷ escape_mark ∷ []
    else if nat_le 0x20 b && nat_le b 0x7e then b ∷ []
    else escape_mark ∷ hex_mark ∷ hex_digit_of (b / 16) ∷ hex_digit_of (b % 16) ∷ []

-- the bytes between two quotation marks
abbrev pub quoted_of : List ℕ → List ℕ
quoted_of bytes = quotation_mark ∷ flat_map quoted_byte bytes ++ quotation_mark ∷ []
