use Rattle.std.proofs.Common.{refl}
use Rattle.idl_include.specs.SourcesOf.{program_in}
use Rattle.check_passes.specs.Passed.{name_passes, passes_behind_names}
use Rattle.check_passes.proofs.InOrder.{stops, goes_on}
use Rattle.check_passes.proofs.program.typed_program.Goals as goal

pub returns-in-Ok : goal.returns-in-Ok
returns-in-Ok c = record {
  passed = goes_on (program_in c.args.names.now) name_passes passes_behind_names c.first_behind_names.result (c.in-Ok.ensures (program_in c.args.names.now) refl c.requires.spots) c.first_behind_names.ensures.passed;
  typed = c.first_behind_names.ensures.typed;
}

pub returns-in-Err : goal.returns-in-Err
returns-in-Err c = record {
  passed = stops (program_in c.args.names.now) name_passes passes_behind_names c.in-Err.fault (c.in-Err.ensures (program_in c.args.names.now) refl c.requires.spots);
  typed = tt;
}
