use Rattle.call_model.proofs.ReadBack.{read_anywhere, read_whole}
use Rattle.call_model.proofs.failure_laws.failures_are_read.Goals as goal

pub returns-clause-anywhere : goal.returns-clause-anywhere
returns-clause-anywhere c = λ p failure front more fits. read_anywhere c.written_is_read.ensures c.written_is_read-2.ensures p failure front more fits

pub returns-clause-whole : goal.returns-clause-whole
returns-clause-whole c = λ p name id failure fits. read_whole c.written_is_read.ensures c.written_is_read-2.ensures p name id failure fits
