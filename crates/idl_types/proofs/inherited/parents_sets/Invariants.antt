use Rattle.std.proofs.Common.{take}
use Rattle.std.specs.List.{AllZip}
use Rattle.idl_types.specs.Inherited.{IsBase}
use Rattle.idl_types.proofs.inherited.parents_sets.Given as goal

abbrev pub invariant-loop-parent : goal.invariant-loop-parent
invariant-loop-parent l = AllZip (IsBase l.made) (take l.parent-index l.parents) l.sets.items
