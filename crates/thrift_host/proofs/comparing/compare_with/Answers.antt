use Rattle.std.proofs.Common.{refl, None}
use Rattle.schema.specs.SchemaOf.{schema_of}
use Rattle.thrift_host.proofs.Compared.{second_means, second_said, compared_means, compared_said}
use Rattle.thrift_host.proofs.Ended.{read_reason}
use Rattle.thrift_host.proofs.comparing.compare_with.Goals as goal

pub returns-in-Ok-clause-means : goal.returns-in-Ok-clause-means
returns-in-Ok-clause-means g c = λ left old has.
    compared_means (g.F.Files.files c.args.files.now) old c.args.new.now c.end_comparing.result _ _ (has.verdict, c.in-Ok.ensures.schema.0) left _ _ c.end_comparing.ensures.ends

pub returns-in-Ok-clause-said : goal.returns-in-Ok-clause-said
returns-in-Ok-clause-said g c = λ old has.
    compared_said (g.F.Files.files c.args.files.now) old c.args.new.now c.end_comparing.result _ _ (has.verdict, c.in-Ok.ensures.schema.0) None _ _ c.end_comparing.ensures.ends

pub returns-in-Err-clause-means : goal.returns-in-Err-clause-means
returns-in-Err-clause-means g c = λ left old has.
    second_means (g.F.Files.files c.args.files.now) old c.args.new.now c.end_without_schema.result _ _ (refl, refl) (schema_of c.args.before.now) c.in-Err.reason has
    c.in-Err.ensures.schema c.end_without_schema.ensures

pub returns-in-Err-clause-said : goal.returns-in-Err-clause-said
returns-in-Err-clause-said g c = λ old has.
    second_said (g.F.Files.files c.args.files.now) old c.args.new.now c.end_without_schema.result _ (schema_of c.args.before.now) c.in-Err.reason has
    c.in-Err.ensures.schema c.end_without_schema.ensures

pub returns-in-Err-clause-files_kept : goal.returns-in-Err-clause-files_kept
returns-in-Err-clause-files_kept g c not_it = c.in-Err.ensures.quiet (read_reason _ _ c.in-Err.reason c.end_without_schema.ensures not_it)
