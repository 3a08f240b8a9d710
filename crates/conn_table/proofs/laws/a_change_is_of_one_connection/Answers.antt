use Rattle.conn_table.proofs.Sizing.{found_put, other_put, found_more, other_more, other_without}
use Rattle.conn_table.proofs.laws.a_change_is_of_one_connection.Goals as goal

pub returns-clause-put : goal.returns-clause-put
returns-clause-put c = λ new slots there. found_put new slots there

pub returns-clause-others : goal.returns-clause-others
returns-clause-others c = λ new x slots other. other_put new x slots other

pub returns-clause-added : goal.returns-clause-added
returns-clause-added c = λ new slots absent. found_more new slots absent

pub returns-clause-as_before : goal.returns-clause-as_before
returns-clause-as_before c = λ new x slots other. other_more new x slots other

pub returns-clause-left : goal.returns-clause-left
returns-clause-left c = λ number x slots other. other_without number x slots other
