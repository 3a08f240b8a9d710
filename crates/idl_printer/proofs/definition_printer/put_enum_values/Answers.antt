use Rattle.idl_printer.specs.Printed.{enum_value_line}
use Rattle.idl_printer.proofs.Appends.{lined}
use Rattle.idl_printer.proofs.definition_printer.put_enum_values.Goals as goal

pub loop-value-preserved : goal.loop-value-preserved
loop-value-preserved c =
    lined enum_value_line c.args.values.now c.loop-value.value-index c.value-item.result c.loop-value.into.items c.put_enum_value_line.new.into.items _ c.loop-value-test.true c.value-item.is
    c.in_ok-put_enum_value_line.ensures c.loop-value.invariant
