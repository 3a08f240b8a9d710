use Rattle.std.proofs.Common.{◌≡◌, ◌++◌, drop}
use Rattle.std.specs.List.{flat_map}
use Rattle.idl_printer.specs.Printed.{definition_text}
use Rattle.idl_printer.proofs.put_definitions.Given as goal

-- what was written, and the text of what is left, is the text of all
abbrev pub invariant-loop-definition : goal.invariant-loop-definition
invariant-loop-definition l = l.into.items ++ flat_map definition_text (drop l.definition-index l.definitions) ≡ l.fn.into.items ++ flat_map definition_text l.definitions
