use Rattle.std.proofs.Common.{◌≡◌, ◌++◌, map, drop}
use Rattle.idl_include.specs.DeclaredIn.{enum_value_in}
use Rattle.check_model.specs.SchemaParts.{named_numbers}
use Rattle.schema_bare.proofs.enums.value_list.Given as goal

abbrev pub invariant-loop-place : goal.invariant-loop-place
invariant-loop-place l =
    l.list.items ++ named_numbers (map enum_value_in (drop l.place l.values)) (drop l.place l.numbers) ≡ named_numbers (map enum_value_in l.values) l.numbers
