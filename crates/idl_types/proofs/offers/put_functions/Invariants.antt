use Rattle.std.proofs.Common.{◌≡◌, ℕ, List, take}
use Rattle.std.specs.Prelude.{◌||◌}
use Rattle.idl_names.specs.NameSets.{has_name}
use Rattle.idl_types.specs.Inherited.{is_function}
use Rattle.idl_types.proofs.offers.put_functions.Given as goal

abbrev pub invariant-loop-function : goal.invariant-loop-function
invariant-loop-function l = (name : List ℕ) → has_name l.set name ≡ (has_name l.initial.set name || is_function (take l.function-index l.functions) name)
