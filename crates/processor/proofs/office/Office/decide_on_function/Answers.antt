use Rattle.std.proofs.Common.{sym}
use Rattle.schema.specs.SchemaOf.{schema_of, plain_function}
use Rattle.call_model.proofs.Found.{args_place}
use Rattle.processor.proofs.office.Office.decide_on_function.Goals as goal

pub call-requires-clause-place : goal.call-requires-clause-place
call-requires-clause-place c =
    args_place (schema_of c.args.self.now.schema) c.requires.sound c.args.bound.service c.args.method.now (plain_function c.in-Some.function.now) (sym c.in-Some.ensures)
