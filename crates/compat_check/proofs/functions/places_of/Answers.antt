use Rattle.std.proofs.Common.{rules, true, refl}
use Rattle.schema.specs.PlainSchema.{PlainFunction}
use Rattle.schema.specs.Shapes.{shown_function}
use Rattle.compat_check.proofs.Tables.{noted, noted_next}
use Rattle.compat_check.proofs.functions.places_of.Goals as goal

pub loop-place-preserved : goal.loop-place-preserved
loop-place-preserved c =
    noted_next shown_function (λ f. true) (λ (f : PlainFunction). f.name) c.args.functions.now c.loop-place.place c.index-functions-place.result true c.as_slice.result.now
    c.loop-place.places c.note.new.map c.loop-place-test.true c.index-functions-place.is refl c.as_slice.ensures
    (noted true c.as_slice.result.now c.in-Ok.number c.loop-place.place c.loop-place.places c.note.new.map refl (search rules) c.in_ok-note.ensures) c.loop-place.invariant
