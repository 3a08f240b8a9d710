use Rattle.schema.specs.SchemaOf.{schema_of}
use Rattle.check_passes.proofs.program.finite_marks.Goals as goal

pub returns : goal.returns
returns c program made = record { schema = schema_of c.args.partial.now; made = made; each = c.in_ok-finite.ensures }
