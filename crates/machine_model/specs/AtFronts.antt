-- A point of the tape: which connections are open there, and what is under way on them.
use Rattle.std.specs.Prelude.{◌≡◌, ℕ, zero, suc, ◌+◌, ◌<◌, ◌≤◌, ◌⊎◌, nat_lt, if◌then◌else◌, Option, None, Some, List, ◌++◌, length, take}
use Rattle.std.specs.Int.{w32, from_be_bytes}
use Rattle.streams.specs.declared.marks.Mark.{Mark}
use Rattle.host_model.specs.declared.cause.EndCause.{EndCause}
use Rattle.host_model.specs.Frames.{Frames}
use Rattle.host_model.specs.Marks.{marks_of, input}
use Rattle.machine_model.specs.Loop.{Loop}
use Rattle.machine_model.specs.Bounds.{sum_among}
use Rattle.machine_model.specs.OpenAtFronts.{opening_of, closing_of, marks_counted, IsWithinMost}

-- after these marks connection c is open: it was opened, and isn't closed
abbrev pub IsOpenBehind : ℕ → List Mark → Type 0
IsOpenBehind c front = marks_counted closing_of (marks_of c front) < marks_counted opening_of (marks_of c front)

-- the size in front of these bytes, where it is whole
abbrev pub size_in : List ℕ → ℕ
size_in rest = if nat_lt (length rest) 4 then 0 else from_be_bytes w32 (take 4 rest)

-- the same, where a byte behind it was read too
abbrev pub size_begun : List ℕ → ℕ
size_begun rest = if nat_lt 4 (length rest) then from_be_bytes w32 (take 4 rest) else 0

-- after these marks connection c is open, and this is the size, so taken, of its frame that isn't whole
pub record IsSizeBehind (max : ℕ) (size_of : List ℕ → ℕ) (front : List Mark) (c size : ℕ) : Type 0 where
  pub is_open : IsOpenBehind c front
  pub payloads : List (List ℕ)
  pub rest : List ℕ
  pub frames : Frames max (input (marks_of c front)) payloads rest
  pub same : size ≡ size_of rest

-- each of these sizes is that of its connection, or 0
abbrev pub AreSizesBehind : ℕ → (List ℕ → ℕ) → List Mark → (ℕ → ℕ) → Type 0
AreSizesBehind max size_of front sizes = (c : ℕ) → (sizes c ≡ 0) ⊎ IsSizeBehind max size_of front c (sizes c)

-- the first n of these numbers, summed
abbrev pub summed : (ℕ → ℕ) → ℕ → ℕ
summed sizes zero = 0
summed sizes (suc n) = sizes n + summed sizes n

-- After these marks the sizes of the frames under way, of which a byte behind the size was read, add up to the budget at most.
abbrev pub IsWithinBudget : ℕ → ℕ → List Mark → Type 0
IsWithinBudget max budget front = (sizes : ℕ → ℕ) (n : ℕ) → AreSizesBehind max size_begun front sizes → summed sizes n ≤ budget

-- at this front of a tape no more than 1,024 connections are open, and the sizes under way are within the budget
pub record IsBounded (max budget : ℕ) (front : List Mark) : Type 0 where
  pub few : IsWithinMost front
  pub sizes : IsWithinBudget max budget front

-- the size of the frame under way on a connection that is open, where a byte behind it was read
abbrev pub begun_if_open : Option EndCause → List ℕ → ℕ
begun_if_open None held = size_begun held
begun_if_open (Some cause) held = 0

-- the sizes of all connections, summed up
abbrev pub all_begun : Loop → ℕ
all_begun loop = sum_among (λ conn. begun_if_open conn.cause conn.held) loop.conns loop.count

-- The loop has kept within the budget: it does so now, and it did at each front of the tape.
pub record KeepsWithin (max budget : ℕ) (loop : Loop) : Type 0 where
  pub now : all_begun loop ≤ budget
  pub fronts : (front back : List Mark) → loop.tape ≡ front ++ back → IsWithinBudget max budget front
