use Rattle.conn_refinement.proofs.Counting.{counted}
use Rattle.conn_refinement.proofs.Tables.{state_is, state_but}
use Rattle.conn_refinement.proofs.laws.a_table_adds_up.Goals as goal

pub returns-clause-sum : goal.returns-clause-sum
returns-clause-sum c weight slots each count rising beyond same = counted weight slots each count rising beyond same

pub returns-clause-put : goal.returns-clause-put
returns-clause-put c number state old new there is = (state_is number state old new there is, state_but number state old new there is)
