use Rattle.std.proofs.Common.{◌∙◌}
use Rattle.idl_include.specs.SourcesOf.{program_in}
use Rattle.check_passes.specs.Passed.{list_passes, passes_behind_lists}
use Rattle.check_passes.proofs.InOrder.{goes_on}
use Rattle.check_passes.proofs.program.first_behind_names.Goals as goal

pub returns-in-Ok : goal.returns-in-Ok
returns-in-Ok c = record {
  passed = goes_on (program_in c.args.names.now) list_passes passes_behind_lists c.first_behind_lists.result (c.in-Ok.ensures (program_in c.args.names.now) c.in_ok-typedef.ensures (c.in_ok-service.ensures (program_in c.args.names.now) (c.as_slice-2.ensures.value ∙ c.in_ok-parents.ensures)) c.requires.spots) c.first_behind_lists.ensures.passed;
  typed = c.first_behind_lists.ensures.typed;
}
