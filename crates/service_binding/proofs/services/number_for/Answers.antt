use Rattle.std.proofs.Common.{sym}
use Rattle.schema.specs.SchemaOf.{schema_of}
use Rattle.service_binding.proofs.Served.{number_within}
use Rattle.service_binding.proofs.services.number_for.Goals as goal

pub returns-else-is_name_taken-clause-place : goal.returns-else-is_name_taken-clause-place
returns-else-is_name_taken-clause-place c = number_within (schema_of c.args.schema.now) c.as_bytes.result.now c.in-Some.number (sym c.in-Some.ensures)
