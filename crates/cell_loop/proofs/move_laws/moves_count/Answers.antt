use Rattle.cell_loop.proofs.Going.{conn_counts, worker_counts, outcome_counts}
use Rattle.cell_loop.proofs.move_laws.moves_count.Goals as goal

pub returns-clause-conn : goal.returns-clause-conn
returns-clause-conn c s x old new unclosed one = conn_counts s x old new unclosed one

pub returns-clause-worker : goal.returns-clause-worker
returns-clause-worker c s w old new unclosed one = worker_counts s w old new unclosed one

pub returns-clause-outcome : goal.returns-clause-outcome
returns-clause-outcome c s old new unclosed one = outcome_counts s old new unclosed one
