use Rattle.std.proofs.Common.{◌≡◌, ℕ, List, take}
use Rattle.std.specs.Prelude.{◌||◌}
use Rattle.idl_names.specs.NameSets.{has_name}
use Rattle.idl_types.proofs.Sets.{is_key}
use Rattle.idl_types.proofs.offers.put_names.Given as goal

abbrev pub invariant-loop-name : goal.invariant-loop-name
invariant-loop-name l = (name : List ℕ) → has_name l.set name ≡ (has_name l.initial.set name || is_key (take l.name-index l.name-items) name)
