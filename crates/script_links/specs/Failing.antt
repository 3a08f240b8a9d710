-- Calls on links that are to fail, by their numbers.
use Rattle.std.specs.Prelude.{ℕ, Bool, ◌&&◌, nat_eq, if◌then◌else◌, List, [], Option, None, Some}
use Rattle.streams.specs.Cause.{next_count}
use Rattle.streams.specs.Memory.{is_listed}

-- Calls of one kind: the numbers of those that are to fail, counted from 0, and the number of the next one.
pub record CountedCalls : Type 0 where
  pub fails : List ℕ
  pub next : ℕ

-- none was made yet
abbrev pub uncalled : List ℕ → CountedCalls
uncalled fails = record { fails = fails; next = 0 }

-- the numbers that were given, where any were
abbrev pub numbers_given : Option (List ℕ) → List ℕ
numbers_given None = []
numbers_given (Some fails) = fails

-- the next call is to fail
abbrev pub fails_next : CountedCalls → Bool
fails_next calls = is_listed calls.fails calls.next

-- it was made
abbrev pub after_counting : CountedCalls → CountedCalls
after_counting calls = record calls { next = next_count calls.next }

-- Which calls on links are to fail: those that ask what is next, and reads and writes of one connection.
pub record FaultPlan : Type 0 where
  pub nexts : CountedCalls
  pub conn : ℕ
  pub reads : CountedCalls
  pub writes : CountedCalls

-- none is to fail
abbrev pub none_fails : FaultPlan
none_fails = record { nexts = uncalled []; conn = 0; reads = uncalled []; writes = uncalled [] }

-- the next read of connection c, and the next write, is to fail
abbrev pub read_fails : ℕ → FaultPlan → Bool
read_fails c plan = nat_eq c plan.conn && fails_next plan.reads

abbrev pub write_fails : ℕ → FaultPlan → Bool
write_fails c plan = nat_eq c plan.conn && fails_next plan.writes

-- links were asked what is next
abbrev pub after_asking : FaultPlan → FaultPlan
after_asking plan = record plan { nexts = after_counting plan.nexts }

-- a read of connection c was made, and a write
abbrev pub after_reading : ℕ → FaultPlan → FaultPlan
after_reading c plan = if nat_eq c plan.conn then record plan { reads = after_counting plan.reads } else plan

abbrev pub after_writing : ℕ → FaultPlan → FaultPlan
after_writing c plan = if nat_eq c plan.conn then record plan { writes = after_counting plan.writes } else plan
