use Rattle.std.proofs.Common.{take}
use Rattle.std.specs.List.{flat_map}
use Rattle.idl_include.specs.SourcesOf.{program_in}
use Rattle.schema_bare.specs.GivenLists.{service_args}
use Rattle.schema_bare.specs.StructsAdded.{AddsStructs}
use Rattle.schema_bare.proofs.structs.put_all_args.Given as goal

abbrev pub invariant-loop-service : goal.invariant-loop-service
invariant-loop-service l =
    AddsStructs (program_in l.tables.names.now) (flat_map service_args (take l.service-index l.services)) l.initial.structs.items l.structs.items
