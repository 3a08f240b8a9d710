use Rattle.std.proofs.Common.{refl}
use Rattle.machine_model.proofs.examples.runs.Goals as goal

pub returns-clause-read_back : goal.returns-clause-read_back
returns-clause-read_back c = refl

pub returns-clause-held_back : goal.returns-clause-held_back
returns-clause-held_back c = refl

pub returns-clause-write_fails : goal.returns-clause-write_fails
returns-clause-write_fails c = refl

pub returns-clause-two_workers : goal.returns-clause-two_workers
returns-clause-two_workers c = refl

pub returns-clause-each_decision : goal.returns-clause-each_decision
returns-clause-each_decision c = refl

pub returns-clause-called_after_it_stopped : goal.returns-clause-called_after_it_stopped
returns-clause-called_after_it_stopped c = refl
