use Rattle.graph_cycles.proofs.Deciding.{leads_or_not, leads_on}
use Rattle.graph_cycles.proofs.laws.a_node_leads_to_another_or_not.Goals as goal

pub returns-clause-decided : goal.returns-clause-decided
returns-clause-decided c = leads_or_not

pub returns-clause-on : goal.returns-clause-on
returns-clause-on c = leads_on
