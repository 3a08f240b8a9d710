use Rattle.idl_check.proofs.Verdicts.{some_verdict}
use Rattle.idl_check.proofs.refusal_laws.an_idl_has_a_verdict.Goals as goal

pub returns : goal.returns
returns c = some_verdict c.each_file_is_read_as_one_thing.ensures.some c.a_schema_or_a_first_flaw.ensures
