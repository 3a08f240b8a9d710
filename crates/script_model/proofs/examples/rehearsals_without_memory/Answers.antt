use Rattle.std.proofs.Common.{refl}
use Rattle.script_model.proofs.examples.rehearsals_without_memory.Goals as goal

pub returns-clause-for_a_frame : goal.returns-clause-for_a_frame
returns-clause-for_a_frame c = refl

pub returns-clause-for_a_decision : goal.returns-clause-for_a_decision
returns-clause-for_a_decision c = refl

pub returns-clause-for_a_call : goal.returns-clause-for_a_call
returns-clause-for_a_call c = refl

pub returns-clause-for_an_answer : goal.returns-clause-for_an_answer
returns-clause-for_an_answer c = refl

pub returns-clause-for_a_reply : goal.returns-clause-for_a_reply
returns-clause-for_a_reply c = refl
