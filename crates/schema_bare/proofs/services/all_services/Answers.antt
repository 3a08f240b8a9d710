use Rattle.std.proofs.Common.{rules, map}
use Rattle.idl_include.specs.SourcesOf.{program_in}
use Rattle.schema.specs.SchemaOf.{plain_service}
use Rattle.schema_bare.proofs.Serving.{service_next, number_next, services_end}
use Rattle.schema_bare.proofs.services.all_services.Goals as goal

pub loop-one-preserved : goal.loop-one-preserved
loop-one-preserved c = record {
  counted =
      number_next c.args.first c.loop-one.next c.in_ok-next.next c.args.given.now c.loop-one.one-index c.one-item.result c.loop-one-test.true c.one-item.is
      (search (rules, c.in_ok-next.ensures)) c.loop-one.invariant.counted;
  made =
      service_next (program_in c.args.tables.now.names.now) c.args.first c.loop-one.next c.args.given.now c.loop-one.one-index c.one-item.result c.in_ok-service.service
      c.loop-one.made.items c.push.new.self.items c.loop-one-test.true c.one-item.is (search (rules, c.in_ok-push.ensures.items)) c.in_ok-service.ensures
      c.loop-one.invariant.counted c.loop-one.invariant.made;
}

pub returns : goal.returns
returns c =
    services_end (program_in c.args.tables.now.names.now) c.args.first c.args.given.now c.loop-one.one-index (map plain_service c.loop-one.made.items)
    c.loop-one-test.false c.loop-one.invariant.made
