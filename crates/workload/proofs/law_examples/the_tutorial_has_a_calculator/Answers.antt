use Rattle.std.proofs.Common.{refl, arith}
use Rattle.call_model.specs.Examples.{tutorial_schema}
use Rattle.workload.proofs.Tested.{is_one}
use Rattle.workload.proofs.law_examples.the_tutorial_has_a_calculator.Goals as goal

pub returns-clause-first : goal.returns-clause-first
returns-clause-first c = refl

pub returns-clause-second : goal.returns-clause-second
returns-clause-second c = refl

pub returns-clause-office : goal.returns-clause-office
returns-clause-office c = record { protocol = refl; bound = is_one tutorial_schema 0 refl; no_default = refl; room = omega arith }
