-- What follows where a host may serve: the longest payload is no longer than payloads may be.
use Rattle.std.proofs.Common.{ℕ, ◌≤◌, arith}
use Rattle.limits.specs.Limits.{longest_payload}
use Rattle.conn_table.specs.declared.run_limits.Limits.{Limits}
use Rattle.conn_table.specs.Servable.{CanServe}

-- that of the limits
pub limits_are_small : {limits : Limits} {worker_count desk_most slot_count handler_count : ℕ} → CanServe limits worker_count desk_most slot_count handler_count
    → limits.max_frame ≤ longest_payload
limits_are_small can = omega (arith, can.within, can.budget)

-- and that of the desk
pub desk_is_small : {limits : Limits} {worker_count desk_most slot_count handler_count : ℕ} → CanServe limits worker_count desk_most slot_count handler_count
    → desk_most ≤ longest_payload
desk_is_small can = omega (arith, can.longest, can.within, can.budget)
