-- Bounds that a command's numbers keep.
use Rattle.std.specs.Prelude.{ℕ, ◌≤◌, ⊤, length}
use Rattle.call_rules.specs.Desks.{longest_payload}
use Rattle.command_line.specs.Served.{PlainServed}
use Rattle.command_line.specs.Words.{PlainCommand, checks, compares, rehearses, records, serves, runs, calls}

-- those of what is served: 0 to 8 workers, 1 to 16 pairs, and a read budget in which the longest payload fits
pub record KeepsServedBounds (s : PlainServed) : Type 0 where
  pub workers : s.workers ≤ 8
  pub some : 1 ≤ length s.pairs
  pub few : length s.pairs ≤ 16
  pub least : 1 ≤ s.limits.max_frame
  pub fits : s.limits.max_frame ≤ s.limits.read_budget
  pub most : s.limits.read_budget ≤ longest_payload

-- a number within bounds
abbrev pub IsFromTo : ℕ → ℕ → ℕ → Type 0
IsFromTo least most n = (least ≤ n) × (n ≤ most)

-- a command keeps its bounds
abbrev pub KeepsBounds : PlainCommand → Type 0
KeepsBounds (checks idl) = ⊤
KeepsBounds (compares old new) = ⊤
KeepsBounds (rehearses served) = KeepsServedBounds served
KeepsBounds (records served) = KeepsServedBounds served
KeepsBounds (serves served port accept journal) = KeepsServedBounds served × IsFromTo 1 65535 port × IsFromTo 1 1000000 accept
KeepsBounds (runs seed size workers) = IsFromTo 1 1000000 size × IsFromTo 0 8 workers
KeepsBounds (calls asking) = IsFromTo 1 65535 asking.port
