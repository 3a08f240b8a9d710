use Rattle.std.proofs.Common.{◌++◌, [], map, take, refl}
use Rattle.idl_include.specs.DeclaredIn.{enum_value_in}
use Rattle.idl_include.specs.Spots.{in_file, spots_in_enum}
use Rattle.idl_names.specs.SpotsIn.{spots_in, shown_in}
use Rattle.idl_names.proofs.Walked.{walk_end}
use Rattle.idl_names.proofs.Spotted.{value_next}
use Rattle.idl_names.proofs.enums.put_values.Goals as goal

pub loop-place-preserved : goal.loop-place-preserved
loop-place-preserved c =
    value_next c.args.file c.args.values.now c.loop-place.place (shown_in c.value_shown-shown.result) (shown_in c.value_name_shown-given.result)
    (spots_in c.loop-place.spots.items) (spots_in c.put_spot.new.spots.items) (spots_in c.put_spot-in-loop-place.new.spots.items)
    (spots_in c.args.spots.now.items ++ in_file c.args.file (spots_in_enum [] (map enum_value_in c.args.values.now)))
    c.loop-place-test.true c.value_shown-shown.ensures c.value_name_shown-given.ensures c.in_ok-put_spot.ensures c.in_ok-put_spot-2.ensures c.loop-place.invariant

pub returns : goal.returns
returns c =
    let values = c.args.values.now in
    let at = c.loop-place.place in
    walk_end (λ left. in_file c.args.file (spots_in_enum (map enum_value_in (take at values)) (map enum_value_in left))) values at (spots_in c.loop-place.spots.items) _ c.loop-place-test.false refl
    c.loop-place.invariant
