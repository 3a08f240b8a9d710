use Rattle.std.proofs.Common.{◌≡◌, ◌++◌, [], map, take, drop}
use Rattle.idl_include.specs.DeclaredIn.{field_in}
use Rattle.idl_include.specs.Spots.{in_file, spots_in_throws}
use Rattle.idl_names.specs.SpotsIn.{spots_in}
use Rattle.idl_names.proofs.fields.put_throws.Given as goal

abbrev pub invariant-loop-place : goal.invariant-loop-place
invariant-loop-place l =
    spots_in l.spots.items ++ in_file l.file (spots_in_throws (map field_in (take l.place l.fields)) (map field_in (drop l.place l.fields)))
    ≡ spots_in l.initial.spots.items ++ in_file l.file (spots_in_throws [] (map field_in l.fields))
