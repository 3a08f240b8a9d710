use Rattle.std.proofs.Common.{rules}
use Rattle.idl_const.proofs.FieldPlaces.{noted_field}
use Rattle.idl_const.proofs.field_names.field_places.Goals as goal

pub loop-place-preserved : goal.loop-place-preserved
loop-place-preserved c =
    noted_field c.args.fields.now c.loop-place.place c.in-Ok.number c.index-fields-place.result c.as_slice.result.now c.loop-place.places c.note.new.map
    c.loop-place-test.true c.index-fields-place.is (search rules) c.as_slice.ensures c.in_ok-note.ensures c.loop-place.invariant
