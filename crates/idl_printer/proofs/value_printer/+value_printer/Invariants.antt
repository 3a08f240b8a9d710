use Rattle.std.proofs.Common.{◌≡◌, ◌++◌, map, drop}
use Rattle.std.specs.List.{flat_map}
use Rattle.idl_printer.specs.Printed.{behind_comma, pair_behind_comma, value_text, both_texts}
use Rattle.idl_printer.proofs.value_printer.+value_printer.Given as goal

-- what was written, and the text of what is left, is the text of all
abbrev pub invariant-put_values-loop-value : goal.invariant-put_values-loop-value
invariant-put_values-loop-value l =
    l.into.items ++ flat_map behind_comma (map value_text (drop l.value-index l.more)) ≡ l.initial.into.items ++ flat_map behind_comma (map value_text l.more)

abbrev pub invariant-put_pairs-loop-key : goal.invariant-put_pairs-loop-key
invariant-put_pairs-loop-key l =
    l.into.items ++ flat_map pair_behind_comma (map both_texts (drop l.key-index l.more)) ≡ l.initial.into.items ++ flat_map pair_behind_comma (map both_texts l.more)
