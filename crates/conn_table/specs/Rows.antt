-- The rows of a table: which connection is kept under which key, by rising number.
use Rattle.std.specs.Prelude.{ℕ, suc, ◌<◌, nat_lt, ◌==◌, if◌then◌else◌, Option, None, Some, List, [], ◌∷◌}
use Rattle.std.specs.List.{AllByRecursion}
use Rattle.conn_table.specs.declared.places.Row.{Row}

-- the key of a connection, where it has a row
abbrev pub key_in : ℕ → List Row → Option ℕ
key_in c [] = None
key_in c (row ∷ rows) = if row.number == c then Some row.key else key_in c rows

-- each number is below those behind it
abbrev pub IsRising : List Row → Type 0
IsRising [] = Unit {0}
IsRising (row ∷ rows) = AllByRecursion (λ (other : Row). row.number < other.number) rows × IsRising rows

-- how many rows in front have a number below this one
abbrev pub rank_below : ℕ → List Row → ℕ
rank_below c [] = 0
rank_below c (row ∷ rows) = if nat_lt row.number c then suc (rank_below c rows) else 0
