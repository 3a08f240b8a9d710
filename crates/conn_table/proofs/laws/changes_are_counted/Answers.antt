use Rattle.conn_table.proofs.Rising.{count_put, count_added, count_left, sizes_added, sizes_left}
use Rattle.conn_table.proofs.Sizing.{sizes_put}
use Rattle.conn_table.proofs.laws.changes_are_counted.Goals as goal

pub returns-clause-put : goal.returns-clause-put
returns-clause-put c = λ new slots. count_put new slots

pub returns-clause-added : goal.returns-clause-added
returns-clause-added c = λ new slots. count_added new slots

pub returns-clause-left : goal.returns-clause-left
returns-clause-left c = λ number slots there. count_left number slots there

pub returns-clause-size_put : goal.returns-clause-size_put
returns-clause-size_put c = λ new old slots there. sizes_put new old slots there

pub returns-clause-size_added : goal.returns-clause-size_added
returns-clause-size_added c = λ new slots. sizes_added new slots

pub returns-clause-size_left : goal.returns-clause-size_left
returns-clause-size_left c = λ number old slots there. sizes_left number old slots there
