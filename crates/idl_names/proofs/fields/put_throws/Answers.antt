use Rattle.std.proofs.Common.{rules, ◌++◌, ◌∷◌, [], map, refl, take}
use Rattle.idl_include.specs.DeclaredIn.{field_in}
use Rattle.idl_include.specs.Spots.{in_file, thrown_spot, spots_in_field, spots_in_throws}
use Rattle.idl_names.specs.SpotsIn.{spots_in}
use Rattle.idl_names.proofs.Walked.{prefix_next, walk_end}
use Rattle.idl_names.proofs.fields.put_throws.Goals as goal

pub loop-place-preserved : goal.loop-place-preserved
loop-place-preserved c =
    prefix_next spots_in_throws (λ before f. thrown_spot f ∷ spots_in_field before f) (λ _ _ _. refl) field_in c.args.file c.args.fields.now c.loop-place.place c.index-fields-place.result
    (spots_in c.loop-place.spots.items) (spots_in c.put_thrown.new.spots.items)
    (spots_in c.args.spots.now.items ++ in_file c.args.file (spots_in_throws [] (map field_in c.args.fields.now)))
    c.loop-place-test.true c.index-fields-place.is (search (rules, c.in_ok-put_thrown.ensures, c.split_at.ensures.front)) c.loop-place.invariant

pub returns : goal.returns
returns c =
    let fields = c.args.fields.now in
    let at = c.loop-place.place in
    walk_end (λ left. in_file c.args.file (spots_in_throws (map field_in (take at fields)) (map field_in left))) fields at (spots_in c.loop-place.spots.items) _ c.loop-place-test.false refl c.loop-place.invariant
