use Rattle.std.proofs.Common.{map, ap, ◌∙◌}
use Rattle.idl_include.specs.SourcesOf.{program_in}
use Rattle.idl_names.specs.SpotsIn.{filed_value, spots_in}
use Rattle.const_evaluator.proofs.ValuesShown.{values_shown}
use Rattle.idl_check.proofs.values.with_given.Goals as goal

pub with_placed-requires-clause-values : goal.with_placed-requires-clause-values
with_placed-requires-clause-values c =
    ap (map filed_value) c.as_slice.ensures.value ∙ c.in_ok-values.ensures
    ∙ values_shown (program_in c.args.tables.now.names.now) (spots_in c.args.spots.now) c.requires.spots
