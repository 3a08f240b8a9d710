-- The counts of faults of a store of files that tells nothing else.
use Rattle.std.specs.Prelude.{ℕ}

-- how many calls failed, and how many sinks came back with a fault
pub record FaultCounts : Type 0 where
  pub faults : ℕ
  pub sink_faults : ℕ
