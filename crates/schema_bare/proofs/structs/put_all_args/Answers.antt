use Rattle.std.proofs.Common.{rules}
use Rattle.idl_include.specs.SourcesOf.{program_in}
use Rattle.schema_bare.proofs.Adding.{adds_none, adds_service, adds_services}
use Rattle.schema_bare.proofs.structs.put_all_args.Goals as goal

pub loop-service-init : goal.loop-service-init
loop-service-init c = adds_none (program_in c.args.tables.now.names.now) c.args.structs.now.items

pub loop-service-preserved : goal.loop-service-preserved
loop-service-preserved c =
    adds_service (program_in c.args.tables.now.names.now) c.args.services.now c.loop-service.service-index c.service-item.result c.args.structs.now.items
    c.loop-service.structs.items c.put_args.new.structs.items c.loop-service-test.true c.service-item.is
    (search (rules, c.in_ok-put_args.ensures, c.as_slice-functions.ensures.value)) c.loop-service.invariant

pub returns : goal.returns
returns c =
    adds_services (program_in c.args.tables.now.names.now) c.args.services.now c.loop-service.service-index c.args.structs.now.items c.loop-service.structs.items
    c.loop-service-test.false c.loop-service.invariant
