use Rattle.std.proofs.Common.{refl, sym, subst}
use Rattle.idl_check.specs.Verdicts.{IsSchemaTextOf}
use Rattle.thrift_host.proofs.Checked.{printed_means, printed_said, unprinted_means, unprinted_said}
use Rattle.thrift_host.proofs.Ended.{read_reason}
use Rattle.thrift_host.proofs.checking.check.Goals as goal

pub returns-in-Ok-clause-means : goal.returns-in-Ok-clause-means
returns-in-Ok-clause-means g c = λ left.
    printed_means (g.F.Files.files c.args.files.now) c.args.idl.now c.end_text.result _ left _ _ c.deref.result.now
    (subst (IsSchemaTextOf (g.F.Files.files c.args.files.now) c.args.idl.now) (sym c.deref.ensures.value) c.in-Ok.ensures.text) c.end_text.ensures.ends

pub returns-in-Ok-clause-said : goal.returns-in-Ok-clause-said
returns-in-Ok-clause-said g c = printed_said (g.F.Files.files c.args.files.now) c.args.idl.now c.end_text.result _ _ _ _ c.end_text.ensures.ends

pub returns-in-Err-clause-means : goal.returns-in-Err-clause-means
returns-in-Err-clause-means g c = λ left.
    unprinted_means (g.F.Files.files c.args.files.now) c.args.idl.now c.end_without_schema.result _ _ (refl, refl) c.in-Err.reason c.in-Err.ensures.text
    c.end_without_schema.ensures

pub returns-in-Err-clause-said : goal.returns-in-Err-clause-said
returns-in-Err-clause-said g c =
    unprinted_said (g.F.Files.files c.args.files.now) c.args.idl.now c.end_without_schema.result _ c.in-Err.reason c.in-Err.ensures.text c.end_without_schema.ensures

pub returns-in-Err-clause-files_kept : goal.returns-in-Err-clause-files_kept
returns-in-Err-clause-files_kept g c not_it = c.in-Err.ensures.quiet (read_reason _ _ c.in-Err.reason c.end_without_schema.ensures not_it)
