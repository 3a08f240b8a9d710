use Rattle.std.proofs.Common.{◌≡◌, ◌++◌, map, drop}
use Rattle.schema.specs.SchemaOf.{schema_of}
use Rattle.schema.specs.Shapes.{shape_line, shown_function}
use Rattle.schema.proofs.shapes.lines_of.Given as goal

-- the lines so far, and those of what is left, are all
abbrev pub invariant-loop-function : goal.invariant-loop-function
invariant-loop-function l =
    l.lines.items ++ map (shape_line (schema_of l.schema)) (map shown_function (drop l.function-index l.functions)) ≡ map (shape_line (schema_of l.schema)) (map shown_function l.functions)
