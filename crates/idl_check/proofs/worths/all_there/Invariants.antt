use Rattle.std.proofs.Common.{◌≡◌, Some, map}
use Rattle.idl_check.proofs.worths.all_there.Given as goal

abbrev pub invariant-loop-value : goal.invariant-loop-value
invariant-loop-value l =
    (goal.iterator-loop-value).can_next l.value-iterator × (goal.iterator-loop-value).is_finite l.value-iterator × (l.made.items ≡ map Some l.yielded)
