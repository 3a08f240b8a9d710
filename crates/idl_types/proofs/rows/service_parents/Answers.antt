use Rattle.std.proofs.Common.{◌∙◌}
use Rattle.idl_parser.specs.declared.tree.Service.{Service}
use Rattle.idl_include.specs.SourcesOf.{program_in}
use Rattle.idl_include.specs.Cycles.{parent_named}
use Rattle.idl_names.specs.declared.filed.InFile.{InFile}
use Rattle.idl_names.specs.FiledIn.{filed_by, service_declared}
use Rattle.idl_types.proofs.RowsMade.{rows_end, parents_are}
use Rattle.idl_types.proofs.rows.service_parents.Goals as goal

pub returns : goal.returns
returns c =
    rows_end (λ (s : InFile Service). parent_named (program_in c.args.names.now) (filed_by service_declared s)) c.args.services.now c.loop-service.service-index
    c.loop-service.parents.items c.loop-service-test.false c.loop-service.invariant
    ∙ parents_are (program_in c.args.names.now) c.args.services.now c.requires
