-- Numbers among a command's words.
use Rattle.std.specs.Prelude.{ℕ, ◌+◌, ◌-◌, ◌*◌, nat_le, ◌&&◌, Bool, List, [], ◌∷◌, length, Option, None, Some, option_and_then, if◌then◌else◌}
use Rattle.std.specs.List.{list_all}

-- a decimal digit
abbrev pub is_decimal_digit : ℕ → Bool
is_decimal_digit b = nat_le 48 b && nat_le b 57

-- the number of digits, with a number in front of them
abbrev pub digits_behind : ℕ → List ℕ → ℕ
digits_behind front [] = front
digits_behind front (b ∷ digits) = digits_behind (10 * front + (b - 48)) digits

-- one decimal digit or more, but no more than so many, without a sign; zeros may stand in front
abbrev pub is_number_word : ℕ → List ℕ → Bool
is_number_word most word = nat_le 1 (length word) && (nat_le (length word) most && list_all is_decimal_digit word)

-- the number that a word of so many digits at most is
abbrev pub number_of_digits : ℕ → List ℕ → Option ℕ
number_of_digits most word = if is_number_word most word then Some (digits_behind 0 word) else None

-- the number that a word is: it has ten digits at most
abbrev pub number_of_word : List ℕ → Option ℕ
number_of_word word = number_of_digits 10 word

-- the seed that a word is: it has nineteen digits at most
abbrev pub seed_of_word : List ℕ → Option ℕ
seed_of_word word = number_of_digits 19 word

-- a number within bounds
abbrev pub number_within : ℕ → ℕ → ℕ → Option ℕ
number_within least most n = if nat_le least n && nat_le n most then Some n else None

-- the number within bounds that a word is
abbrev pub bounded_number : ℕ → ℕ → List ℕ → Option ℕ
bounded_number least most word = option_and_then (number_within least most) (number_of_word word)

-- the number within bounds that one word alone is
abbrev pub one_number : ℕ → ℕ → List (List ℕ) → Option ℕ
one_number least most (word ∷ []) = bounded_number least most word
one_number least most _ = None
