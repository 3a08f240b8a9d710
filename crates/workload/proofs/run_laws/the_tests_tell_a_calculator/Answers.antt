use Rattle.std.proofs.Common.{refl}
use Rattle.workload.proofs.Tested.{is_one}
use Rattle.workload.proofs.run_laws.the_tests_tell_a_calculator.Goals as goal

pub returns-clause-service : goal.returns-clause-service
returns-clause-service c = λ s service tested. is_one s service tested

pub returns-clause-office : goal.returns-clause-office
returns-clause-office c = λ s name service max tested room. record { protocol = refl; bound = is_one s service tested; no_default = refl; room = room }
