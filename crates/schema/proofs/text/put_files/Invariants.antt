use Rattle.std.proofs.Common.{◌≡◌, ◌++◌, map, drop}
use Rattle.std.specs.List.{flat_map}
use Rattle.schema.specs.SchemaOf.{schema_of, plain_file}
use Rattle.schema.specs.SchemaText.{file_in_text}
use Rattle.schema.proofs.text.put_files.Given as goal

-- what was written, and the text of what is left, is the text of all
abbrev pub invariant-loop-file : goal.invariant-loop-file
invariant-loop-file l =
    l.into.items ++ flat_map (file_in_text (schema_of l.schema)) (map plain_file (drop l.file-index l.files))
    ≡ l.fn.into.items ++ flat_map (file_in_text (schema_of l.schema)) (map plain_file l.files)
