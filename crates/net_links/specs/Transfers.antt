-- How many bytes a read or a write of a socket moves.
use Rattle.std.specs.Prelude.{ℕ, ◌≤◌}
use Rattle.net_links.specs.declared.socket.Transfer.{Transfer}
use Rattle.net_links.specs.declared.socket.Transfer.TheVariants.{Bytes}

-- bytes that were moved are one at least, and at most so many
abbrev pub HasMovedWithin : ℕ → Transfer → Type 0
HasMovedWithin most (Bytes count) = (1 ≤ count) × (count ≤ most)
HasMovedWithin most _ = Unit {0}
