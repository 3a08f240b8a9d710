use Rattle.idl_printer.specs.Printed.{include_line}
use Rattle.idl_printer.proofs.Appends.{lined}
use Rattle.idl_printer.proofs.put_includes.Goals as goal

pub loop-include-preserved : goal.loop-include-preserved
loop-include-preserved c =
    lined include_line c.args.includes.now c.loop-include.include-index c.include-item.result c.loop-include.into.items c.put_include.new.into.items _ c.loop-include-test.true c.include-item.is
    c.in_ok-put_include.ensures c.loop-include.invariant
