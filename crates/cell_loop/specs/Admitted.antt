-- Which sizes are admitted in a rehearsal, and that they are within the read budget.
use Rattle.std.specs.Prelude.{◌≡◌, ℕ, ◌<◌, ◌≤◌, ◌⊎◌, Option, None, Some, length}
use Rattle.machine_model.specs.Loop.{LoopConn, Loop}
use Rattle.machine_model.specs.AtFronts.{size_in, summed}
use Rattle.script_model.specs.Playing.{size_or_zero}

-- a size is that of the frame under way on a connection, or its last payload isn't collected
abbrev pub IsSizeUnderWay : LoopConn → ℕ → Type 0
IsSizeUnderWay conn size = (conn.collected < length conn.payloads) ⊎ ((4 ≤ length conn.held) × (size ≡ size_in conn.held))

-- What is admitted of connection c, where so many were opened: a size of one that was opened, and its own; and where a byte behind the size was read of one
-- that is open, that size.
pub record AdmitsItsSize (count c : ℕ) (conn : LoopConn) (admitted : Option ℕ) : Type 0 where
  pub own : (size : ℕ) → admitted ≡ Some size → (c < count) × IsSizeUnderWay conn size
  pub begun : c < count → conn.cause ≡ None → 4 < length conn.held → admitted ≡ Some (size_in conn.held)

-- The sizes that are admitted are those of the connections, and add up to the budget at most.
pub record AdmitsWithin (budget : ℕ) (loop : Loop) (admitted : ℕ → Option ℕ) : Type 0 where
  pub within : summed (λ c. size_or_zero (admitted c)) loop.count ≤ budget
  pub each : (c : ℕ) → AdmitsItsSize loop.count c (loop.conns c) (admitted c)
