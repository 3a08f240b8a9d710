-- Literals.
use Rattle.std.specs.Prelude.{ℕ, ◌+◌, ◌==◌, ◌&&◌, not, Bool, false, List, [], ◌∷◌, length, drop, slice_index, Option, Some, None, if◌then◌else◌}
use Rattle.std.specs.Option.{option_map}
use Rattle.idl_token.specs.Bytes as byte
use Rattle.idl_token.specs.Classes.{is_quote, is_escape}

-- any bytes up to the first such quotation mark that no backslash takes, which is the last byte
abbrev pub is_closed : ℕ → Bool → List ℕ → Bool
is_closed quote taken [] = false
is_closed quote taken (b ∷ text) =
    if not taken && b == quote then length text == 0
    else is_closed quote (not taken && b == byte.backslash) text

-- between two quotation marks of one kind (Thrift IDL, 'Literal')
abbrev pub is_literal : List ℕ → Bool
is_literal text = is_quote (slice_index text 0) && is_closed (slice_index text 0) false (drop 1 text)

-- the place of the first backslash with a byte behind it that makes no escape
abbrev pub bad_escape_in : List ℕ → Option ℕ
bad_escape_in [] = None
bad_escape_in (b ∷ []) = None
bad_escape_in (b ∷ c ∷ text) =
    if b == byte.backslash then (if is_escape c then option_map (λ n. 2 + n) (bad_escape_in text) else Some 0)
    else option_map (λ n. 1 + n) (bad_escape_in (c ∷ text))
