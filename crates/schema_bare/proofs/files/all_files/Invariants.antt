use Rattle.std.proofs.Common.{◌≡◌, ◌++◌, map, drop}
use Rattle.idl_include.specs.Numbering.{none_counted}
use Rattle.idl_include.specs.SourcesOf.{program_in}
use Rattle.idl_names.specs.SpotsIn.{counts_in}
use Rattle.schema.specs.SchemaOf.{plain_file}
use Rattle.check_model.specs.SchemaParts.{files_behind}
use Rattle.schema_bare.proofs.files.all_files.Given as goal

abbrev pub invariant-loop-file : goal.invariant-loop-file
invariant-loop-file l =
    map plain_file l.made.items ++ files_behind (counts_in l.counts) (program_in (drop l.file-index l.files)) ≡ files_behind none_counted (program_in l.files)
