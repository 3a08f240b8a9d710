use Rattle.std.proofs.Common.{map, take}
use Rattle.std.specs.List.{AllZip}
use Rattle.thrift_value.specs.TreeOf.{tree_of}
use Rattle.idl_include.specs.Program.{Program}
use Rattle.idl_names.specs.SpotsIn.{filed_value}
use Rattle.check_passes.specs.Given.{HasOwnWorth, AreGivenValues}
use Rattle.check_passes.proofs.values.evaluate_all.Given as goal

abbrev pub invariant-loop-number : goal.invariant-loop-number
invariant-loop-number g l = record {
  ready : g.E.Evaluator.ready l.evaluator;
  right : (program : Program) → g.E.Evaluator.right l.initial.evaluator program → g.E.Evaluator.right l.evaluator program;
  worth : (program : Program) → g.E.Evaluator.right l.initial.evaluator program → AreGivenValues program l.values
      → AllZip (HasOwnWorth program) (map filed_value (take l.number l.values)) (map tree_of l.made.items);
}
