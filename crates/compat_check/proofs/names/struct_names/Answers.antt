use Rattle.std.proofs.Common.{rules}
use Rattle.schema.specs.PlainSchema.{PlainStruct}
use Rattle.schema.specs.SchemaOf.{plain_struct}
use Rattle.compat_model.specs.NamedThings.{is_main_struct}
use Rattle.compat_check.proofs.Tables.{noted_next}
use Rattle.compat_check.proofs.names.struct_names.Goals as goal

pub loop-place-preserved : goal.loop-place-preserved
loop-place-preserved c =
    noted_next plain_struct is_main_struct (λ (x : PlainStruct). x.name) c.args.structs.now c.loop-place.place c.index-structs-place.result _ c.as_slice.result.now
    c.loop-place.names c.note_if.new.names c.loop-place-test.true c.index-structs-place.is (search rules) c.as_slice.ensures c.in_ok-note_if.ensures c.loop-place.invariant
