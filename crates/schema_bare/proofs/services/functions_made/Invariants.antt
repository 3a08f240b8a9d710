use Rattle.std.proofs.Common.{map, take}
use Rattle.idl_include.specs.DeclaredIn.{function_in}
use Rattle.idl_include.specs.SourcesOf.{program_in}
use Rattle.schema.specs.SchemaOf.{plain_function}
use Rattle.check_model.specs.SchemaParts.{NoDefault, AreFunctionsOf}
use Rattle.schema_bare.proofs.services.functions_made.Given as goal

abbrev pub invariant-loop-place : goal.invariant-loop-place
invariant-loop-place l =
    AreFunctionsOf NoDefault (program_in l.tables.names.now) l.file l.first (map function_in (take l.place l.functions)) (map plain_function l.made.items)
