use Rattle.std.proofs.Common.{◌≡◌, ◌++◌, drop}
use Rattle.std.specs.List.{flat_map}
use Rattle.idl_printer.specs.Printed.{include_line}
use Rattle.idl_printer.proofs.put_includes.Given as goal

-- what was written, and the text of what is left, is the text of all
abbrev pub invariant-loop-include : goal.invariant-loop-include
invariant-loop-include l = l.into.items ++ flat_map include_line (drop l.include-index l.includes) ≡ l.fn.into.items ++ flat_map include_line l.includes
