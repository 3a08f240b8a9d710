use Rattle.schema.specs.SchemaOf.{schema_of}
use Rattle.check_model.specs.SchemaParts.{IsPartialSchema}
use Rattle.check_passes.proofs.InOrder.{held_ok}
use Rattle.check_passes.proofs.program.joined.Goals as goal

pub returns-in-Ok : goal.returns-in-Ok
returns-in-Ok c = λ program aliases partial. record {
  aliases = aliases;
  partial = held_ok (λ schema. IsPartialSchema program (schema_of schema)) c.args.partial c.in-Ok.partial c.in-Ok.is partial;
}

pub returns-in-Err : goal.returns-in-Err
returns-in-Err c = λ program aliases partial. tt
