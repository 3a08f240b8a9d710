use Rattle.schema.specs.SchemaOf.{schema_of}
use Rattle.processor.proofs.Texts.{failure_short}
use Rattle.processor.proofs.office.Office.refuse_arguments.Goals as goal

pub refuse-requires-clause-text : goal.refuse-requires-clause-text
refuse-requires-clause-text c =
    failure_short (schema_of c.args.self.now.schema) c.requires.sound c.args.fault c.in_ok-failure.failure c.in_ok-failure.ensures
