use Rattle.idl_printer.specs.Printed.{definition_text}
use Rattle.idl_printer.proofs.Appends.{lined}
use Rattle.idl_printer.proofs.put_definitions.Goals as goal

pub loop-definition-preserved : goal.loop-definition-preserved
loop-definition-preserved c =
    lined definition_text c.args.definitions.now c.loop-definition.definition-index c.definition-item.result c.loop-definition.into.items c.put_definition.new.into.items _ c.loop-definition-test.true c.definition-item.is
    c.in_ok-put_definition.ensures c.loop-definition.invariant
