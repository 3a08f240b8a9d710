use Rattle.std.proofs.Common.{◌≡◌, ◌++◌, drop}
use Rattle.std.specs.List.{flat_map}
use Rattle.schema.specs.SchemaOf.{schema_of}
use Rattle.schema.specs.SchemaText.{def_in_text}
use Rattle.schema.proofs.text.put_defs.Given as goal

-- what was written, and the text of what is left, is the text of all
abbrev pub invariant-loop-def : goal.invariant-loop-def
invariant-loop-def l =
    l.into.items ++ flat_map (def_in_text (schema_of l.schema)) (drop l.def-index l.defs)
    ≡ l.fn.into.items ++ flat_map (def_in_text (schema_of l.schema)) l.defs
