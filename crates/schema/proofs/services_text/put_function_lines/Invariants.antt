use Rattle.std.proofs.Common.{◌≡◌, ◌++◌, map, drop}
use Rattle.std.specs.List.{flat_map}
use Rattle.schema.specs.SchemaOf.{schema_of, plain_function}
use Rattle.schema.specs.SchemaText.{function_line_of}
use Rattle.schema.proofs.services_text.put_function_lines.Given as goal

-- what was written, and the text of what is left, is the text of all
abbrev pub invariant-loop-function : goal.invariant-loop-function
invariant-loop-function l =
    l.into.items ++ flat_map (function_line_of (schema_of l.schema)) (map plain_function (drop l.function-index l.functions))
    ≡ l.fn.into.items ++ flat_map (function_line_of (schema_of l.schema)) (map plain_function l.functions)
