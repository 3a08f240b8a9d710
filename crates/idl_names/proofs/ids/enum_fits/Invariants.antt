use Rattle.std.proofs.Common.{◌≡◌, ◌++◌, ℤ, pos, map, drop}
use Rattle.idl_include.specs.DeclaredIn.{enum_value_in}
use Rattle.idl_names.specs.EnumRange.{fit_marks, IsNextAs}
use Rattle.idl_names.proofs.ids.enum_fits.Given as goal

abbrev pub invariant-loop-value : goal.invariant-loop-value
invariant-loop-value l =
    (next : ℤ) × IsNextAs l.next next
    × (l.marks.items ++ fit_marks next (map enum_value_in (drop l.value-index l.values)) ≡ fit_marks (pos 0) (map enum_value_in l.values))
