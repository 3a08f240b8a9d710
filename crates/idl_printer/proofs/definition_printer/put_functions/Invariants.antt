use Rattle.std.proofs.Common.{◌≡◌, ◌++◌, drop}
use Rattle.std.specs.List.{flat_map}
use Rattle.idl_printer.specs.Printed.{function_line}
use Rattle.idl_printer.proofs.definition_printer.put_functions.Given as goal

-- what was written, and the text of what is left, is the text of all
abbrev pub invariant-loop-function : goal.invariant-loop-function
invariant-loop-function l = l.into.items ++ flat_map function_line (drop l.function-index l.functions) ≡ l.fn.into.items ++ flat_map function_line l.functions
