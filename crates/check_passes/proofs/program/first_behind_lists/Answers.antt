use Rattle.std.proofs.Common.{ap, ◌∙◌}
use Rattle.idl_names.specs.FiledIn.{filed_services}
use Rattle.idl_names.specs.Listing.{Listing}
use Rattle.idl_include.specs.SourcesOf.{program_in}
use Rattle.check_passes.specs.Passed.{function_passes, struct_passes}
use Rattle.check_passes.proofs.InOrder.{goes_on}
use Rattle.check_passes.proofs.program.first_behind_lists.Goals as goal

pub returns-in-Ok : goal.returns-in-Ok
returns-in-Ok c = record {
  passed = goes_on (program_in c.args.names.now) function_passes struct_passes c.first_of_types.result (c.in-Ok.ensures (program_in c.args.names.now) (c.in_ok-lineage.ensures (program_in c.args.names.now) c.requires.parents (ap filed_services c.as_slice.ensures.value ∙ ap (λ (l : Listing). l.services) c.requires.definitions)) c.requires.spots) c.first_of_types.ensures.passed;
  typed = c.first_of_types.ensures.typed;
}
