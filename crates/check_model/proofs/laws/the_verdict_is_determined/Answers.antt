use Rattle.std.proofs.Common.{subst}
use Rattle.idl_include.specs.Loading.{Loaded, program_of}
use Rattle.check_model.specs.ProgramSchema.{IsVerdictOfLoaded}
use Rattle.check_model.proofs.OneVerdict.{one_verdict_on}
use Rattle.check_model.proofs.SchemaOrFlaw.{some_verdict}
use Rattle.check_model.proofs.laws.the_verdict_is_determined.Goals as goal

pub returns-clause-one : goal.returns-clause-one
returns-clause-one c = λ files main v w p q.
    let P : Loaded → Type 0 = λ l. IsVerdictOfLoaded l v in
    one_verdict_on (program_of q.0 main) v w (subst P (c.the_program_is_determined.ensures files main p.0 q.0 p.1 q.1) p.2) q.2

pub returns-clause-some : goal.returns-clause-some
returns-clause-some c = λ files main.
    let (reader, is) = c.each_file_is_read_as_one_thing.ensures.some files in
    let (v, on) = some_verdict c.a_node_leads_to_another_or_not.ensures.decided c.a_node_leads_to_another_or_not.ensures.on (program_of reader main) in
    (v, (reader, is, on))
