use Rattle.std.proofs.Common.{◌≡◌, ◌++◌, drop}
use Rattle.idl_include.specs.Numbering.{none_counted}
use Rattle.idl_include.specs.Spots.{spots_from}
use Rattle.idl_include.specs.SourcesOf.{program_in}
use Rattle.idl_names.specs.SpotsIn.{spots_in, counts_in}
use Rattle.idl_names.proofs.spots.program_spots.Given as goal

abbrev pub invariant-loop-number : goal.invariant-loop-number
invariant-loop-number l =
    spots_in l.spots.items ++ spots_from l.number (counts_in l.counts) (program_in (drop l.number l.files)) ≡ spots_from 0 none_counted (program_in l.files)
