use Rattle.std.proofs.Common.{◌≡◌, ◌++◌, map, drop}
use Rattle.std.specs.List.{flat_map}
use Rattle.idl_printer.specs.Printed.{behind_comma, field_text}
use Rattle.idl_printer.proofs.field_printer.put_separated.Given as goal

-- what was written, and the text of what is left, is the text of all
abbrev pub invariant-loop-field : goal.invariant-loop-field
invariant-loop-field l =
    l.into.items ++ flat_map behind_comma (map field_text (drop l.field-index l.more)) ≡ l.initial.into.items ++ flat_map behind_comma (map field_text l.more)
