use Rattle.std.proofs.Common.{◌≡◌, ◌++◌, drop}
use Rattle.std.specs.List.{flat_map}
use Rattle.idl_printer.specs.Printed.{escape_of}
use Rattle.idl_printer.proofs.value_printer.put_literal.Given as goal

-- what was written, and the text of what is left, is the text of all
abbrev pub invariant-loop-byte : goal.invariant-loop-byte
invariant-loop-byte l = l.into.items ++ flat_map escape_of (drop l.byte-index l.bytes) ≡ l.initial.into.items ++ flat_map escape_of l.bytes
