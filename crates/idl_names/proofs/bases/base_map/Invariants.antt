use Rattle.std.proofs.Common.{◌≡◌, ℕ, List, take}
use Rattle.std.specs.List.{find}
use Rattle.idl_include.specs.Names.{has_base}
use Rattle.idl_include.specs.SourcesOf.{program_in}
use Rattle.idl_names.specs.NameMaps.{number_of_name}
use Rattle.idl_names.proofs.bases.base_map.Given as goal

abbrev pub invariant-loop-number : goal.invariant-loop-number
invariant-loop-number l = (base : List ℕ) → number_of_name l.map base ≡ find (has_base (program_in l.files) base) (take l.number-index l.includes)
