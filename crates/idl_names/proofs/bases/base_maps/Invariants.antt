use Rattle.std.proofs.Common.{take}
use Rattle.std.specs.List.{AllZip}
use Rattle.idl_include.specs.SourcesOf.{program_in}
use Rattle.idl_names.specs.Bases.{HasIncludes}
use Rattle.idl_names.proofs.bases.base_maps.Given as goal

abbrev pub invariant-loop-file : goal.invariant-loop-file
invariant-loop-file l = AllZip (HasIncludes (program_in l.files)) l.maps.items (take l.file-index l.files)
