use Rattle.std.proofs.Common.{rules, map}
use Rattle.schema.specs.SchemaOf.{plain_enum}
use Rattle.schema_bare.proofs.EnumValues.{enum_next, enums_end}
use Rattle.schema_bare.proofs.enums.all_enums.Goals as goal

pub loop-one-preserved : goal.loop-one-preserved
loop-one-preserved c =
    enum_next c.args.given.now c.loop-one.one-index c.one-item.result c.in_ok-desc.desc c.loop-one.made.items c.push.new.self.items c.loop-one-test.true c.one-item.is
    (search (rules, c.in_ok-push.ensures.items)) c.in_ok-desc.ensures c.loop-one.invariant

pub returns : goal.returns
returns c = enums_end c.args.given.now c.loop-one.one-index (map plain_enum c.loop-one.made.items) c.loop-one-test.false c.loop-one.invariant
