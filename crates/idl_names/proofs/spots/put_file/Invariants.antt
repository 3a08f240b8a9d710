use Rattle.std.proofs.Common.{◌≡◌, ◌++◌, [], map, take, drop}
use Rattle.idl_include.specs.DeclaredIn.{definition_in}
use Rattle.idl_include.specs.Numbering.{all_counted}
use Rattle.idl_include.specs.Spots.{in_file, spots_in_declarations}
use Rattle.idl_names.specs.SpotsIn.{spots_in, counts_in}
use Rattle.idl_names.proofs.Spotted.{names_given}
use Rattle.idl_names.proofs.spots.put_file.Given as goal

abbrev pub invariant-loop-place : goal.invariant-loop-place
invariant-loop-place l = record {
  spots : spots_in l.spots.items ++ in_file l.file (spots_in_declarations (names_given (take l.place l.definitions)) (counts_in l.met) (map definition_in (drop l.place l.definitions)))
      ≡ spots_in l.initial.spots.items ++ in_file l.file (spots_in_declarations [] (counts_in l.fn.counts) (map definition_in l.definitions));
  counts : all_counted (counts_in l.met) (map definition_in (drop l.place l.definitions)) ≡ all_counted (counts_in l.fn.counts) (map definition_in l.definitions);
}
