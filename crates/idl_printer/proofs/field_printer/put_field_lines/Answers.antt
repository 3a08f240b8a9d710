use Rattle.idl_printer.specs.Printed.{field_line}
use Rattle.idl_printer.proofs.Appends.{lined}
use Rattle.idl_printer.proofs.field_printer.put_field_lines.Goals as goal

pub loop-field-preserved : goal.loop-field-preserved
loop-field-preserved c =
    lined field_line c.args.fields.now c.loop-field.field-index c.field-item.result c.loop-field.into.items c.put_field_line.new.into.items _ c.loop-field-test.true c.field-item.is
    c.in_ok-put_field_line.ensures c.loop-field.invariant
