use Rattle.std.proofs.Common.{map, take}
use Rattle.idl_include.specs.SourcesOf.{program_in}
use Rattle.schema_bare.specs.GivenLists.{args_given}
use Rattle.schema_bare.specs.StructsAdded.{AddsStructs}
use Rattle.schema_bare.proofs.structs.put_args.Given as goal

abbrev pub invariant-loop-function : goal.invariant-loop-function
invariant-loop-function l =
    AddsStructs (program_in l.tables.names.now) (map (args_given l.file) (take l.function-index l.functions)) l.initial.structs.items l.structs.items
