use Rattle.thrift_host.proofs.Compared.{ends_compatible, ends_broken}
use Rattle.thrift_host.proofs.comparing.end_comparing.Goals as goal

pub returns-in-Ok-clause-ends : goal.returns-in-Ok-clause-ends
returns-in-Ok-clause-ends g c = ends_compatible _ c.end_text.result _ _ _ c.in-Ok.ensures c.end_text.ensures.ends

pub returns-in-Err-clause-ends : goal.returns-in-Err-clause-ends
returns-in-Err-clause-ends g c = ends_broken _ c.end_broken.result _ _ _ c.in-Err.found c.in-Err.ensures c.end_broken.ensures.ends
