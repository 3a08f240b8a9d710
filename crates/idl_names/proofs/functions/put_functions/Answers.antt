use Rattle.std.proofs.Common.{◌++◌, [], map, take, refl}
use Rattle.idl_include.specs.DeclaredIn.{function_in}
use Rattle.idl_include.specs.Spots.{in_file, spots_in_functions}
use Rattle.idl_names.specs.SpotsIn.{spots_in, shown_in}
use Rattle.idl_names.proofs.Walked.{walk_end}
use Rattle.idl_names.proofs.Spotted.{function_next}
use Rattle.idl_names.proofs.functions.put_functions.Goals as goal

pub loop-place-preserved : goal.loop-place-preserved
loop-place-preserved c =
    function_next c.args.file c.args.service c.args.functions.now c.loop-place.place (shown_in c.function_shown-shown.result) c.index-functions-place.result
    (spots_in c.loop-place.spots.items) (spots_in c.put_spot.new.spots.items) (spots_in c.put_inside.new.spots.items)
    (spots_in c.args.spots.now.items ++ in_file c.args.file (spots_in_functions c.args.service [] (map function_in c.args.functions.now)))
    c.loop-place-test.true c.index-functions-place.is c.function_shown-shown.ensures c.in_ok-put_spot.ensures c.in_ok-put_inside.ensures c.loop-place.invariant

pub returns : goal.returns
returns c =
    let functions = c.args.functions.now in
    let at = c.loop-place.place in
    walk_end (λ left. in_file c.args.file (spots_in_functions c.args.service (map function_in (take at functions)) (map function_in left))) functions at (spots_in c.loop-place.spots.items) _
    c.loop-place-test.false refl c.loop-place.invariant
