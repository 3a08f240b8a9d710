-- What stands between tokens: white space and comments.
use Rattle.std.specs.Prelude.{ℕ, ◌+◌, ◌==◌, ◌&&◌, ◌||◌, not, Bool, List, [], ◌∷◌, drop, slice_index, Option, Some, None, if◌then◌else◌}
use Rattle.std.specs.Option.{option_map}
use Rattle.std.specs.List.{prefix_len}
use Rattle.idl_token.specs.Bytes as byte
use Rattle.idl_token.specs.Classes.{is_white}

-- `#` or `//`
abbrev pub begins_line_comment : List ℕ → Bool
begins_line_comment text = slice_index text 0 == byte.hash || slice_index text 0 == byte.slash && slice_index text 1 == byte.slash

-- `/*`
abbrev pub begins_comment : List ℕ → Bool
begins_comment text = slice_index text 0 == byte.slash && slice_index text 1 == byte.star

-- the bytes up to and with the first `*/`
abbrev pub comment_end : List ℕ → Option ℕ
comment_end [] = None
comment_end (b ∷ text) = if b == byte.star && slice_index text 0 == byte.slash then Some 2 else option_map (λ n. 1 + n) (comment_end text)

-- how many bytes of white space or comment stand in front, if any: a byte of white space, the rest of
-- the line behind `#` or `//`, or all from `/*` to the next `*/` (Thrift IDL, 'comments')
unfoldable pub blank_in : List ℕ → Option ℕ
blank_in text =
    if is_white (slice_index text 0) then Some 1
    else if begins_line_comment text then Some (1 + prefix_len (λ b. not (b == byte.newline)) (drop 1 text))
    else if begins_comment text then option_map (λ n. 2 + n) (comment_end (drop 2 text))
    else None
