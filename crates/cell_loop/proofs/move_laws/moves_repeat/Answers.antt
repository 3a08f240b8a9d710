use Rattle.cell_loop.proofs.Going.{conn_goes_on, conn_ends, outcomes_go_on, outcomes_end, worker_goes_on, worker_puts, worker_ends}
use Rattle.cell_loop.proofs.move_laws.moves_repeat.Goals as goal

pub returns-clause-conn : goal.returns-clause-conn
returns-clause-conn c s x old mid new one rest = conn_goes_on s x old mid new one rest

pub returns-clause-conn_end : goal.returns-clause-conn_end
returns-clause-conn_end c s x old none = conn_ends s x old none

pub returns-clause-outcome : goal.returns-clause-outcome
returns-clause-outcome c s old mid new one rest = outcomes_go_on s old mid new one rest

pub returns-clause-outcome_end : goal.returns-clause-outcome_end
returns-clause-outcome_end c s old none = outcomes_end s old none

pub returns-clause-worker : goal.returns-clause-worker
returns-clause-worker c s n w old mid new busy one rest = worker_goes_on s n w old mid new busy one rest

pub returns-clause-worker_put : goal.returns-clause-worker_put
returns-clause-worker_put c s n w old new put one = worker_puts s n w old new put one

pub returns-clause-worker_end : goal.returns-clause-worker_end
returns-clause-worker_end c s n w old none = worker_ends s n w old none
