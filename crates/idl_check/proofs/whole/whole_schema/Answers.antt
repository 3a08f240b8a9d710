use Rattle.idl_include.specs.SourcesOf.{program_in}
use Rattle.idl_check.proofs.whole.whole_schema.Goals as goal

pub fill_schema-requires-clause-worths : goal.fill_schema-requires-clause-worths
fill_schema-requires-clause-worths c = c.in_ok-worths.ensures (program_in c.args.tables.now.names.now) c.requires.places c.requires.worth
