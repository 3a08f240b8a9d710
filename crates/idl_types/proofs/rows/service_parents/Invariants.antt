use Rattle.std.proofs.Common.{◌≡◌, map, take}
use Rattle.idl_parser.specs.declared.tree.Service.{Service}
use Rattle.idl_include.specs.SourcesOf.{program_in}
use Rattle.idl_include.specs.Cycles.{parent_named}
use Rattle.idl_names.specs.declared.filed.InFile.{InFile}
use Rattle.idl_names.specs.FiledIn.{filed_by, service_declared}
use Rattle.idl_types.proofs.rows.service_parents.Given as goal

abbrev pub invariant-loop-service : goal.invariant-loop-service
invariant-loop-service l =
    l.parents.items ≡ map (λ (s : InFile Service). parent_named (program_in l.names) (filed_by service_declared s)) (take l.service-index l.services)
