use Rattle.idl_include.specs.SourcesOf.{program_in}
use Rattle.check_passes.specs.Passed.{struct_passes}
use Rattle.check_passes.specs.Typed.{IsTyped}
use Rattle.check_passes.proofs.InOrder.{kept_passed, kept_typed}
use Rattle.check_passes.proofs.program.first_of_types.Goals as goal

pub returns : goal.returns
returns c = record {
  passed = kept_passed (program_in c.args.names.now) struct_passes c.in_ok-typed.typed c.types_fault-found.result c.passed.result c.passed.ensures c.types_fault-found.ensures;
  typed = kept_typed (IsTyped (program_in c.args.names.now)) c.in_ok-typed.typed c.types_fault-found.result c.passed.result c.passed.ensures c.in_ok-typed.ensures;
}
