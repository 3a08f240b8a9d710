use Rattle.idl_include.specs.SourcesOf.{program_in}
use Rattle.idl_check.proofs.values.with_placed.Goals as goal

pub worths_over-requires-clause-places : goal.worths_over-requires-clause-places
worths_over-requires-clause-places c = c.in_ok-places.ensures (program_in c.args.tables.now.names.now) c.requires.values

pub whole_schema-requires-clause-places : goal.whole_schema-requires-clause-places
whole_schema-requires-clause-places c = c.in_ok-places.ensures (program_in c.args.tables.now.names.now) c.requires.values
