-- The values at the spots of a program are those that it gives.
use Rattle.std.proofs.Common.{◌≡◌, List, ap}
use Rattle.std.specs.List.{filter_map}
use Rattle.idl_include.specs.Program.{Program}
use Rattle.idl_include.specs.Spots.{Spot, value_at, spots_of, values_of}

pub values_shown : (program : Program) (spots : List Spot) → spots ≡ spots_of program → filter_map (λ (s : Spot). value_at s.file s.shows) spots ≡ values_of program
unfolding values_of
values_shown program spots same = ap (filter_map (λ (s : Spot). value_at s.file s.shows)) same
