-- What a run of a workload comes to.
use Rattle.std.specs.Prelude.{◌≡◌, ℕ, List, length, slice_get, MatchOption}
use Rattle.streams.specs.declared.marks.Mark.{Mark}
use Rattle.host_model.specs.declared.cause.EndCause.{EndCause}
use Rattle.host_model.specs.Marks.{input, output}
use Rattle.call_rules.specs.declared.kind.Kind.TheVariants.{Calculator}
use Rattle.call_rules.specs.Entries.{CallEntry}
use Rattle.call_rules.specs.Handling.{ServiceState}
use Rattle.workload.specs.LoadPlan.{connections_of}
use Rattle.workload.specs.SummaryText.{sum_of_answers}
use Rattle.workload.specs.ExpectedRun.{bytes_in, bytes_out, sum_of}

-- the first of these services is a calculator, whatever it remembers
abbrev pub HasCalculator : List ServiceState → Type 0
HasCalculator services = MatchOption (slice_get services 0) ⊥ (λ s. s.kind ≡ Calculator)

-- As many connections have ended as the workload opens, each frame was called, all bytes were read and all replies written, and the answers add up to the
-- sum of the workload.
pub record ComesToSum (seed size : ℕ) (tape : List Mark) (journal : List CallEntry) (causes : List EndCause) : Type 0 where
  pub connections : length causes ≡ connections_of size
  pub calls : length journal ≡ size
  pub read : length (input tape) ≡ bytes_in seed size
  pub written : length (output tape) ≡ bytes_out seed size
  pub sum : sum_of_answers journal ≡ sum_of seed size
