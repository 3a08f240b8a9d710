use Rattle.std.proofs.Common.{◌≡◌, ◌++◌, drop}
use Rattle.std.specs.List.{flat_map}
use Rattle.idl_printer.specs.Printed.{enum_value_line}
use Rattle.idl_printer.proofs.definition_printer.put_enum_values.Given as goal

-- what was written, and the text of what is left, is the text of all
abbrev pub invariant-loop-value : goal.invariant-loop-value
invariant-loop-value l = l.into.items ++ flat_map enum_value_line (drop l.value-index l.values) ≡ l.fn.into.items ++ flat_map enum_value_line l.values
