use Rattle.std.proofs.Common.{◌≡◌, ◌++◌, drop}
use Rattle.std.specs.List.{flat_map}
use Rattle.schema.specs.SchemaText.{enum_value_part}
use Rattle.schema.proofs.text.put_enum_values.Given as goal

-- what was written, and the text of what is left, is the text of all
abbrev pub invariant-loop-value : goal.invariant-loop-value
invariant-loop-value l =
    l.into.items ++ flat_map enum_value_part (drop l.value-index l.values) ≡ l.fn.into.items ++ flat_map enum_value_part l.values
