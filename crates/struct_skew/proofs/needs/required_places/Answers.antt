use Rattle.std.proofs.Common.{ap, ◌∙◌}
use Rattle.schema.specs.SchemaOf.{plain_field}
use Rattle.struct_skew.specs.Needs.{is_required_field}
use Rattle.struct_skew.proofs.RequiredPlaces.{place_kept, place_passed_over, places_kept}
use Rattle.struct_skew.proofs.needs.required_places.Goals as goal
use Rattle.struct_skew.proofs.needs.required_places.Goals.{then-is_required+in_ok-put, else-is_required}

pub loop-place-preserved : goal.loop-place-preserved
loop-place-preserved c = elim c.if-is_required.branch [
  | then-is_required+in_ok-put w ↦
      place_kept plain_field is_required_field c.args.fields.now c.loop-place.places.items c.loop-place.place c.index-fields-place.result c.loop-place-test.true c.index-fields-place.is c.loop-place.invariant
      c.if-is_required.places.items w.if-is_required.ensures (ap (λ v. v.items) w.places-is ∙ w.in_ok-put.ensures)
  | else-is_required w ↦
      place_passed_over plain_field is_required_field c.args.fields.now c.loop-place.places.items c.loop-place.place c.index-fields-place.result c.loop-place-test.true c.index-fields-place.is c.loop-place.invariant
      c.if-is_required.places.items w.if-is_required.ensures (ap (λ v. v.items) w.places-is)
]

pub returns : goal.returns
returns c = places_kept plain_field is_required_field c.args.fields.now c.loop-place.places.items c.loop-place.place c.loop-place-test.false c.loop-place.invariant
