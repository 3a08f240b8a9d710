use Rattle.std.proofs.Common.{refl}
use Rattle.command_line.specs.Answering.{plain_asking}
use Rattle.schema.specs.SchemaOf.{schema_of}
use Rattle.thrift_host.proofs.Called.{call_means, no_call_means}
use Rattle.thrift_host.proofs.Compared.{named_schema, named_reason}
use Rattle.thrift_host.proofs.Ended.{read_reason}
use Rattle.thrift_host.proofs.calling.call.Goals as goal

pub returns-in-Ok-clause-means : goal.returns-in-Ok-clause-means
returns-in-Ok-clause-means g c =
    call_means (g.F.Files.files c.args.files.now) (plain_asking c.args.asked.now) _ _ (schema_of c.in-Ok.schema) c.call_with_schema.result
    (named_schema _ _ _ _ _ refl c.as_str.ensures c.in-Ok.ensures.schema) c.call_with_schema.ensures.ends

pub returns-in-Err-clause-means : goal.returns-in-Err-clause-means
returns-in-Err-clause-means g c =
    no_call_means (g.F.Files.files c.args.files.now) (plain_asking c.args.asked.now) _ _ c.in-Err.reason c.end_without_schema.result (refl, refl)
    (named_reason _ _ _ _ c.as_str.ensures c.in-Err.ensures.schema) c.end_without_schema.ensures

pub returns-in-Err-clause-files_kept : goal.returns-in-Err-clause-files_kept
returns-in-Err-clause-files_kept g c not_it = c.in-Err.ensures.quiet (read_reason _ _ c.in-Err.reason c.end_without_schema.ensures not_it)
