-- What serving asks of its limits, of a desk, and of those who work there.
use Rattle.std.specs.Prelude.{◌≡◌, ℕ, ◌≤◌}
use Rattle.limits.specs.Limits.{longest_payload}
use Rattle.conn_table.specs.declared.run_limits.Limits.{Limits}

-- A host may serve within these limits, with so many workers, at a desk with so long a longest payload and so many slots, and with so many handlers: there are 8 workers
-- at most; the limits let a payload come, the read budget has room for the longest, and is no larger than budgets may be; the desk's longest payload is that of the limits;
-- and each slot has its handler.
pub record CanServe (limits : Limits) (worker_count desk_most slot_count handler_count : ℕ) : Type 0 where
  pub workers : worker_count ≤ 8
  pub some : 1 ≤ limits.max_frame
  pub within : limits.max_frame ≤ limits.read_budget
  pub budget : limits.read_budget ≤ longest_payload
  pub longest : desk_most ≡ limits.max_frame
  pub slots : handler_count ≡ slot_count
