use Rattle.std.proofs.Common.{ℕ, ◌<◌, ◌≤◌, ◌^◌, arith}
use Rattle.cell_loop.proofs.Arriving.{conn_reaches, worker_reaches, outcome_reaches, opening_reaches}
use Rattle.cell_loop.proofs.move_laws.moves_are_reached.Goals as goal
use Rattle.call_rules.specs.Desks.{longest_payload}

small_from : (max : ℕ) → max ≤ longest_payload → max < 2 ^ 31
small_from max l = omega arith

pub returns-clause-conn : goal.returns-clause-conn
returns-clause-conn c s x old new reached comes =
    conn_reaches s reached.max (λ bytes. c.less_than_a_frame.ensures.size s.desk.max_frame bytes)
    (λ size bytes. c.less_than_a_frame.ensures.payload s.desk.max_frame size bytes (small_from s.desk.max_frame reached.max)) old reached x new comes

pub returns-clause-worker : goal.returns-clause-worker
returns-clause-worker c s w old new reached comes =
    worker_reaches s reached.max (λ bytes. c.less_than_a_frame.ensures.size s.desk.max_frame bytes)
    (λ size bytes. c.less_than_a_frame.ensures.payload s.desk.max_frame size bytes (small_from s.desk.max_frame reached.max)) old reached w new comes

pub returns-clause-outcome : goal.returns-clause-outcome
returns-clause-outcome c s old new reached comes =
    outcome_reaches s reached.max (λ bytes. c.less_than_a_frame.ensures.size s.desk.max_frame bytes)
    (λ size bytes. c.less_than_a_frame.ensures.payload s.desk.max_frame size bytes (small_from s.desk.max_frame reached.max)) old reached new comes

pub returns-clause-opening : goal.returns-clause-opening
returns-clause-opening c s old new reached comes =
    opening_reaches s reached.max (λ bytes. c.less_than_a_frame.ensures.size s.desk.max_frame bytes)
    (λ size bytes. c.less_than_a_frame.ensures.payload s.desk.max_frame size bytes (small_from s.desk.max_frame reached.max)) old reached new comes
