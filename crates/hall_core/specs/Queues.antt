-- What a hall's queue holds: jobs that wait, keys that are taken, and outcomes.
use Rattle.std.specs.Prelude.{ℕ, ◌+◌, ◌≤◌, List, length}
use Rattle.host_model.specs.declared.key.Key.{Key}
use Rattle.machine_model.specs.HallState.{Job, JobOutcome}
use Rattle.machine_model.specs.OwnCalls.{most_connections}

-- the jobs, the taken keys and the outcomes, the oldest first
pub record QueueView : Type 0 where
  pub jobs : List Job
  pub taken : List Key
  pub outcomes : List JobOutcome

-- how many keys it holds
abbrev pub keys_held : QueueView → ℕ
keys_held q = length q.jobs + (length q.taken + length q.outcomes)

-- it holds as many as it may, and each list has room for all of these
pub record HasRoom (q : QueueView) (jobs taken outcomes : ℕ) : Type 0 where
  pub few : keys_held q ≤ most_connections
  pub for_jobs : most_connections ≤ jobs
  pub for_taken : most_connections ≤ taken
  pub for_outcomes : most_connections ≤ outcomes
