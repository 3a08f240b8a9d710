-- How pairs of hexadecimal digits are read.
use Rattle.std.specs.Prelude.{ℕ, ◌<◌, Bool, List, Option, Some, None, if◌then◌else◌}

-- what no digit is worth
abbrev pub no_digit : ℕ
no_digit = 16

-- what a digit is worth, where it is one
abbrev pub digit_worth : Option ℕ → ℕ
digit_worth (Some worth) = worth
digit_worth None = no_digit

-- a digit is worth less than no digit
abbrev pub IsDigitWorth : Option ℕ → Type 0
IsDigitWorth (Some worth) = worth < no_digit
IsDigitWorth None = Unit {0}

-- the bytes, where all that they were read of were digits
abbrev pub where_all : Bool → List ℕ → Option (List ℕ)
where_all all bytes = if all then Some bytes else None
