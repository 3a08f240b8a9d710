use Rattle.check_model.proofs.OneSchema.{one_partial, one_schema}
use Rattle.check_model.proofs.laws.the_schema_is_determined.Goals as goal

pub returns-clause-partial : goal.returns-clause-partial
returns-clause-partial c = one_partial

pub returns-clause-whole : goal.returns-clause-whole
returns-clause-whole c = one_schema
