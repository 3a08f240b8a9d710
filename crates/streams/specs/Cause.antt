-- When an outside object may answer that it failed.
use Rattle.std.specs.Prelude.{◌≡◌, ℕ, ◌+◌, ◌-◌, ◌^◌, ◌≤◌, min, nat_lt, if◌then◌else◌, Result, IsErr, OnOk}

-- one more fault than before; a count that stands at the end of its type stays there
abbrev pub next_count : ℕ → ℕ
next_count count = min (count + 1) (2 ^ 64 - 1)

-- one fault more, where what was handed back has counted one itself
abbrev pub next_if_faulty : ℕ → ℕ → ℕ
next_if_faulty faults count = if nat_lt 0 faults then next_count count else count

-- the count rose
abbrev pub Rose : ℕ → ℕ → Type 0
Rose before now = next_count before ≤ now

-- a call answered with a cause: the count of faults never falls, an error comes only where it rose, and where there is none the count is as before
pub record HasCause {A E : Type 0} (before now : ℕ) (result : Result A E) : Type 0 where
  pub later : before ≤ now
  pub failed : IsErr result → Rose before now
  pub kept : OnOk result (now ≡ before)
