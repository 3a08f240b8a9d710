use Rattle.thrift_host.proofs.workloads.arrange_calculator.Goals as goal

pub returns-in-Ok-clause-files_kept : goal.returns-in-Ok-clause-files_kept
returns-in-Ok-clause-files_kept g c = λ _. c.in-Ok.ensures.kept
