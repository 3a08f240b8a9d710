use Rattle.std.proofs.Common.{rules, map}
use Rattle.idl_include.specs.DeclaredIn.{enum_value_in}
use Rattle.check_model.specs.SchemaParts.{named_numbers}
use Rattle.schema_bare.proofs.EnumValues.{value_next, values_end}
use Rattle.schema_bare.proofs.enums.value_list.Goals as goal

pub loop-place-preserved : goal.loop-place-preserved
loop-place-preserved c =
    value_next c.args.values.now c.args.numbers.now c.loop-place.place c.index-values-place.result c.in_ok-name.name c.in_ok-number.number c.loop-place.list.items
    c.push.new.self.items (named_numbers (map enum_value_in c.args.values.now) c.args.numbers.now) c.loop-place-test.true c.index-values-place.is c.in_ok-number.ensures.within
    c.in_ok-number.ensures.value c.in_ok-name.ensures (search (rules, c.in_ok-push.ensures.items)) c.loop-place.invariant

pub returns : goal.returns
returns c =
    values_end c.args.values.now c.args.numbers.now c.loop-place.place c.loop-place.list.items (named_numbers (map enum_value_in c.args.values.now) c.args.numbers.now)
    c.loop-place-test.false c.loop-place.invariant
