use Rattle.std.proofs.Common.{◌≡◌, ◌++◌, drop}
use Rattle.std.specs.List.{flat_map}
use Rattle.idl_printer.specs.Printed.{field_line}
use Rattle.idl_printer.proofs.field_printer.put_field_lines.Given as goal

-- what was written, and the text of what is left, is the text of all
abbrev pub invariant-loop-field : goal.invariant-loop-field
invariant-loop-field l = l.into.items ++ flat_map field_line (drop l.field-index l.fields) ≡ l.fn.into.items ++ flat_map field_line l.fields
