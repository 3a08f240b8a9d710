use Rattle.conn_table.proofs.Rising.{rising_put, rising_added, rising_left, gone}
use Rattle.conn_table.proofs.laws.numbers_rise.Goals as goal

pub returns-clause-put : goal.returns-clause-put
returns-clause-put c = λ new slots rise. rising_put new slots rise

pub returns-clause-added : goal.returns-clause-added
returns-clause-added c = λ new slots rise absent. rising_added new slots rise absent

pub returns-clause-left : goal.returns-clause-left
returns-clause-left c = λ number slots rise. rising_left number slots rise

pub returns-clause-gone : goal.returns-clause-gone
returns-clause-gone c = λ number slots rise. gone number slots rise
