-- Digits of a number, and how large a number is up to a cap.
use Rattle.std.specs.Prelude.{◌≡◌, ⊤, ◌+◌, ◌^◌, ℕ, min, true, List, [], ◌∷◌}
use Rattle.std.specs.Char.{is_ascii_digit}

-- each byte is a digit
abbrev pub AreDigits : List ℕ → Type 0
AreDigits [] = ⊤
AreDigits (b ∷ more) = (is_ascii_digit b ≡ true) × AreDigits more

-- a number, where all above 2 ^ 53 are the same
abbrev pub capped : ℕ → ℕ
capped n = min n (2 ^ 53 + 1)
