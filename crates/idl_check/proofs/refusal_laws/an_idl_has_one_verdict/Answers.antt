use Rattle.idl_check.proofs.Verdicts.{one_verdict}
use Rattle.idl_check.proofs.refusal_laws.an_idl_has_one_verdict.Goals as goal

pub returns : goal.returns
returns c = one_verdict c.the_program_is_determined.ensures
