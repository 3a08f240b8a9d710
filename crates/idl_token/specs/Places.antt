-- Places in a text.
use Rattle.std.specs.Prelude.{ℕ, ◌+◌, ◌==◌, not, List, take, count_by}
use Rattle.std.specs.List.{suffix_len}
use Rattle.idl_token.specs.Bytes as byte
use Rattle.idl_token.specs.declared.Place.{Place}

-- line and column of a byte, or of the end, from 1. Only a newline ends a line; the column counts bytes
abbrev pub line_and_column : List ℕ → ℕ → Place
line_and_column text at = record {
  line = 1 + count_by (λ b. b == byte.newline) (take at text);
  column = 1 + suffix_len (λ b. not (b == byte.newline)) (take at text);
}
