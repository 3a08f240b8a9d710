use Rattle.idl_printer.specs.Printed.{function_line}
use Rattle.idl_printer.proofs.Appends.{lined}
use Rattle.idl_printer.proofs.definition_printer.put_functions.Goals as goal

pub loop-function-preserved : goal.loop-function-preserved
loop-function-preserved c =
    lined function_line c.args.functions.now c.loop-function.function-index c.function-item.result c.loop-function.into.items c.put_function_line.new.into.items _ c.loop-function-test.true c.function-item.is
    c.in_ok-put_function_line.ensures c.loop-function.invariant
