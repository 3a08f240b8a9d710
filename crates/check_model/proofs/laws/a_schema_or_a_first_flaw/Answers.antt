use Rattle.check_model.proofs.SchemaOrFlaw.{schema_or_flaw}
use Rattle.check_model.proofs.laws.a_schema_or_a_first_flaw.Goals as goal

pub returns : goal.returns
returns c = schema_or_flaw c.a_node_leads_to_another_or_not.ensures.decided c.a_node_leads_to_another_or_not.ensures.on
