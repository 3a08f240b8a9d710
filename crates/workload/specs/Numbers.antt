-- The numbers that a workload is made of: each follows from the one before it.
use Rattle.std.specs.Prelude.{ℕ, zero, suc, ◌+◌, ◌*◌, ◌/◌, ◌%◌, ◌^◌}

-- the number behind another one
abbrev pub number_after : ℕ → ℕ
number_after x = (x * 6364136223846793005 + 1442695040888963407) % 2 ^ 64

-- number k behind the seed, which is number 0
abbrev pub number_at : ℕ → ℕ → ℕ
number_at seed zero = seed
number_at seed (suc k) = number_after (number_at seed k)

-- the first of the two numbers that a call passes: the highest sixteen bits
abbrev pub first_number : ℕ → ℕ
first_number x = x / 2 ^ 48

-- the second one: the sixteen bits below them
abbrev pub second_number : ℕ → ℕ
second_number x = (x / 2 ^ 32) % 2 ^ 16
