use Rattle.std.proofs.Common.{◌≡◌, ◌++◌, map, drop}
use Rattle.std.specs.List.{filter_map}
use Rattle.idl_include.specs.Spots.{Spot, value_at}
use Rattle.idl_names.specs.SpotsIn.{filed_value, spots_in}
use Rattle.idl_names.proofs.values.values_at.Given as goal

abbrev pub invariant-loop-spot : goal.invariant-loop-spot
invariant-loop-spot l =
    map filed_value l.values.items ++ filter_map (λ (s : Spot). value_at s.file s.shows) (spots_in (drop l.spot-index l.spots))
    ≡ filter_map (λ (s : Spot). value_at s.file s.shows) (spots_in l.spots)
