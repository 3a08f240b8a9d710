-- Zigzag: signed numbers as unsigned ones, those near 0 as small ones: 0, -1, 1, -2, 2 .. as 0, 1, 2, 3, 4 .. (Thrift compact
-- protocol, 'Integer encoding').
use Rattle.std.specs.Prelude.{◌+◌, ◌*◌, ◌/◌, ◌%◌, ℕ, ℤ, pos, negsuc, ◌==◌, if◌then◌else◌}

-- twice n, or one less than twice -n; negsuc n is -(n + 1)
abbrev pub zigzag : ℤ → ℕ
zigzag (pos n) = 2 * n
zigzag (negsuc n) = 2 * n + 1

-- the number that is encoded so
abbrev pub unzigzag : ℕ → ℤ
unzigzag n = if n % 2 == 0 then pos (n / 2) else negsuc (n / 2)
