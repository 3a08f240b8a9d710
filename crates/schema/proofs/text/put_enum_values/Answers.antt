use Rattle.std.proofs.Common.{refl}
use Rattle.std.specs.List.{flat_map}
use Rattle.schema.specs.SchemaText.{enum_value_part}
use Rattle.schema.proofs.Pieces.{one_more, all_written}
use Rattle.schema.proofs.text.put_enum_values.Goals as goal

pub loop-value-preserved : goal.loop-value-preserved
loop-value-preserved c =
    one_more enum_value_part (flat_map enum_value_part) (λ x xs. refl) c.args.values.now c.loop-value.value-index _ c.value-item.result c.loop-value.into.items _
    c.loop-value-test.true c.value-item.is c.loop-value.invariant c.in_ok-put_enum_value.ensures

pub returns : goal.returns
returns c =
    all_written enum_value_part (flat_map enum_value_part) (λ x xs. refl) c.args.values.now c.loop-value.value-index _ c.loop-value.into.items refl
    c.loop-value-test.false c.loop-value.invariant
