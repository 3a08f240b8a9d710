use Rattle.std.proofs.Common.{◌≡◌, ◌++◌, [], map, take, drop}
use Rattle.idl_include.specs.DeclaredIn.{function_in}
use Rattle.idl_include.specs.Spots.{in_file, spots_in_functions}
use Rattle.idl_names.specs.SpotsIn.{spots_in}
use Rattle.idl_names.proofs.functions.put_functions.Given as goal

abbrev pub invariant-loop-place : goal.invariant-loop-place
invariant-loop-place l =
    spots_in l.spots.items ++ in_file l.file (spots_in_functions l.service (map function_in (take l.place l.functions)) (map function_in (drop l.place l.functions)))
    ≡ spots_in l.initial.spots.items ++ in_file l.file (spots_in_functions l.service [] (map function_in l.functions))
