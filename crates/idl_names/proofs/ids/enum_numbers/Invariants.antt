use Rattle.std.proofs.Common.{◌≡◌, ◌++◌, map, drop}
use Rattle.idl_include.specs.DeclaredIn.{enum_value_in}
use Rattle.idl_include.specs.EnumNumbers.{numbers_from, enum_numbers}
use Rattle.idl_names.proofs.ids.enum_numbers.Given as goal

abbrev pub invariant-loop-value : goal.invariant-loop-value
invariant-loop-value l =
    l.numbers.items ++ numbers_from l.next (map enum_value_in (drop l.value-index l.values)) ≡ enum_numbers (map enum_value_in l.values)
