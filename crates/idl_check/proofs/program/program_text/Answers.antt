use Rattle.schema.specs.SchemaOf.{schema_of}
use Rattle.idl_check.proofs.program.program_text.Goals as goal

pub returns-clause-text : goal.returns-clause-text
returns-clause-text g c = (schema_of c.in_ok-schema.schema, c.in_ok-schema.ensures.schema.0, c.in_ok-text_of.ensures)
