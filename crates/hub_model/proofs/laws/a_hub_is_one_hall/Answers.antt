use Rattle.std.specs.Prelude.{[]}
use Rattle.hub_model.proofs.AsOneHall.{is_one_hall, ends_as_one}
use Rattle.hub_model.proofs.laws.a_hub_is_one_hall.Goals as goal

pub returns-clause-history : goal.returns-clause-history
returns-clause-history g c n r hub log history = is_one_hall n r [] hub log history

pub returns-clause-end : goal.returns-clause-end
returns-clause-end g c n r hub log history = ends_as_one n r [] hub log history
