use Rattle.std.proofs.Common.{refl}
use Rattle.thrift_host.proofs.Compared.{named_schema, named_reason, named_means, named_said, first_means, first_said}
use Rattle.thrift_host.proofs.Ended.{read_reason}
use Rattle.thrift_host.proofs.comparing.compare.Goals as goal

pub returns-in-Ok-clause-means : goal.returns-in-Ok-clause-means
returns-in-Ok-clause-means g c = λ left.
    named_means (g.F.Files.files c.args.files.now) _ c.args.idls.now.old _ c.args.idls.now.new c.compare_with.result _ c.in-Ok.ensures.same c.as_str-in-Ok.ensures
    (c.compare_with.ensures.means left c.args.idls.now.old (named_schema _ _ _ _ _ c.in-Ok.ensures.same c.as_str.ensures c.in-Ok.ensures.schema))

pub returns-in-Ok-clause-said : goal.returns-in-Ok-clause-said
returns-in-Ok-clause-said g c =
    named_said (g.F.Files.files c.args.files.now) _ c.args.idls.now.old _ c.args.idls.now.new c.compare_with.result _ c.in-Ok.ensures.same c.as_str-in-Ok.ensures
    (c.compare_with.ensures.said c.args.idls.now.old (named_schema _ _ _ _ _ c.in-Ok.ensures.same c.as_str.ensures c.in-Ok.ensures.schema))

pub returns-in-Err-clause-means : goal.returns-in-Err-clause-means
returns-in-Err-clause-means g c = λ left.
    first_means (g.F.Files.files c.args.files.now) c.args.idls.now.old c.args.idls.now.new c.end_without_schema.result _ _ (refl, refl) c.in-Err.reason
    (named_reason _ _ _ _ c.as_str.ensures c.in-Err.ensures.schema) c.end_without_schema.ensures

pub returns-in-Err-clause-said : goal.returns-in-Err-clause-said
returns-in-Err-clause-said g c =
    first_said (g.F.Files.files c.args.files.now) c.args.idls.now.old c.args.idls.now.new c.end_without_schema.result _ c.in-Err.reason
    (named_reason _ _ _ _ c.as_str.ensures c.in-Err.ensures.schema) c.end_without_schema.ensures

pub returns-in-Err-clause-files_kept : goal.returns-in-Err-clause-files_kept
returns-in-Err-clause-files_kept g c not_it = c.in-Err.ensures.quiet (read_reason _ _ c.in-Err.reason c.end_without_schema.ensures not_it)
