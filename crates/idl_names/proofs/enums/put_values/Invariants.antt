use Rattle.std.proofs.Common.{◌≡◌, ◌++◌, [], map, take, drop}
use Rattle.idl_include.specs.DeclaredIn.{enum_value_in}
use Rattle.idl_include.specs.Spots.{in_file, spots_in_enum}
use Rattle.idl_names.specs.SpotsIn.{spots_in}
use Rattle.idl_names.proofs.enums.put_values.Given as goal

abbrev pub invariant-loop-place : goal.invariant-loop-place
invariant-loop-place l =
    spots_in l.spots.items ++ in_file l.file (spots_in_enum (map enum_value_in (take l.place l.values)) (map enum_value_in (drop l.place l.values)))
    ≡ spots_in l.initial.spots.items ++ in_file l.file (spots_in_enum [] (map enum_value_in l.values))
