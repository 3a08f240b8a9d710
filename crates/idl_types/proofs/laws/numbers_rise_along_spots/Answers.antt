use Rattle.std.proofs.Common.{arith}
use Rattle.idl_include.specs.Spots.{Spot}
use Rattle.idl_types.proofs.Rising.{rising, each_found}
use Rattle.idl_types.proofs.laws.numbers_rise_along_spots.Goals as goal

pub returns-clause-rises : goal.returns-clause-rises
returns-clause-rises c = λ shown count spots are p q s t j k. rising (λ (x : Spot). shown x.shows) spots 0 count p q s t j k are

pub returns-clause-found : goal.returns-clause-found
returns-clause-found c = λ shown count spots are k within. each_found (λ (x : Spot). shown x.shows) spots 0 count k are (omega arith) (omega (arith, within))
