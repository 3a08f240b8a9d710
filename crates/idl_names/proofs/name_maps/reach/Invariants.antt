use Rattle.std.proofs.Common.{◌≡◌, ℕ, List, ◌+◌, ◌-◌, vec_len}
use Rattle.idl_names.specs.NameMaps.{number_in_file}
use Rattle.idl_names.proofs.name_maps.reach.Given as goal

abbrev pub invariant-loop-alloc : goal.invariant-loop-alloc
invariant-loop-alloc l = (f : ℕ) (other : List ℕ) → number_in_file l.maps.items f other ≡ number_in_file l.initial.maps.items f other

abbrev pub decreases-loop-alloc : goal.decreases-loop-alloc
decreases-loop-alloc l = l.file + 1 - vec_len l.maps
