use Rattle.std.proofs.Common.{◌≡◌, List, true, map, subst}
use Rattle.schema.specs.declared.types.FnDesc.{FnDesc}
use Rattle.schema.specs.SchemaOf.{plain_function}
use Rattle.processor.specs.Tables.{is_table}
use Rattle.processor.proofs.Tabled.{one_table_more, all_taken}
use Rattle.processor.proofs.tabling.tables_of.Goals as goal

pub loop-service-preserved : goal.loop-service-preserved
loop-service-preserved c =
    one_table_more c.args.services.now c.loop-service.service-index c.service-item.result c.loop-service.tables.items c.push.new.self.items c.in_ok-table.table
    c.loop-service-test.true c.service-item.is c.in_ok-push.ensures.items
    (subst (λ (fs : List FnDesc). is_table (map plain_function fs) c.in_ok-table.table ≡ true) c.as_slice.ensures c.in_ok-table.ensures) c.loop-service.invariant

pub returns : goal.returns
returns c =
    all_taken c.args.services.now c.loop-service.tables.items c.loop-service.service-index c.loop-service-test.false c.loop-service.invariant
