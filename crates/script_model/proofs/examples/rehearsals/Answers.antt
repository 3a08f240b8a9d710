use Rattle.std.proofs.Common.{refl}
use Rattle.script_model.proofs.examples.rehearsals.Goals as goal

pub returns-clause-nothing : goal.returns-clause-nothing
returns-clause-nothing c = refl

pub returns-clause-cut_in_a_size : goal.returns-clause-cut_in_a_size
returns-clause-cut_in_a_size c = refl

pub returns-clause-held_for_the_budget : goal.returns-clause-held_for_the_budget
returns-clause-held_for_the_budget c = refl

pub returns-clause-write_rules : goal.returns-clause-write_rules
returns-clause-write_rules c = refl

pub returns-clause-on_schedule : goal.returns-clause-on_schedule
returns-clause-on_schedule c = refl

pub returns-clause-whole_job : goal.returns-clause-whole_job
returns-clause-whole_job c = refl

pub returns-clause-rest_between : goal.returns-clause-rest_between
returns-clause-rest_between c = refl

pub returns-clause-read_fails : goal.returns-clause-read_fails
returns-clause-read_fails c = refl

pub returns-clause-held_at_a_rest : goal.returns-clause-held_at_a_rest
returns-clause-held_at_a_rest c = refl
