-- How many connections are open at a point of the tape: as many as were opened before it and not closed.
use Rattle.std.specs.Prelude.{ℕ, ◌+◌, ◌≤◌, List, [], ◌∷◌}
use Rattle.streams.specs.declared.marks.Mark.{Mark}
use Rattle.streams.specs.declared.marks.Mark.TheVariants.{Opened, Closed}
use Rattle.machine_model.specs.Loop.{most_connections}

-- one, where a mark opens a connection
abbrev pub opening_of : Mark → ℕ
opening_of (Opened c) = 1
opening_of _ = 0

-- one, where it closes one
abbrev pub closing_of : Mark → ℕ
closing_of (Closed c) = 1
closing_of _ = 0

-- a number of each mark, summed
abbrev pub marks_counted : (Mark → ℕ) → List Mark → ℕ
marks_counted f [] = 0
marks_counted f (mark ∷ marks) = f mark + marks_counted f marks

-- after these marks no more connections are open than may be
abbrev pub IsWithinMost : List Mark → Type 0
IsWithinMost marks = marks_counted opening_of marks ≤ marks_counted closing_of marks + most_connections
