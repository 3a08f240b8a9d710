use Rattle.std.proofs.Common.{rules}
use Rattle.std.specs.Prelude.{◌==◌}
use Rattle.schema.specs.PlainSchema.{PlainService}
use Rattle.schema.specs.SchemaOf.{plain_service}
use Rattle.compat_check.proofs.Tables.{noted_next}
use Rattle.compat_check.proofs.names.service_names.Goals as goal

pub loop-place-preserved : goal.loop-place-preserved
loop-place-preserved c =
    noted_next plain_service (λ (x : PlainService). x.file == 0) (λ (x : PlainService). x.name) c.args.services.now c.loop-place.place c.index-services-place.result _ c.as_slice.result.now
    c.loop-place.names c.note_if.new.names c.loop-place-test.true c.index-services-place.is (search rules) c.as_slice.ensures c.in_ok-note_if.ensures c.loop-place.invariant
