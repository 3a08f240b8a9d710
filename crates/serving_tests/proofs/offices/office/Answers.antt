use Rattle.std.proofs.Common.{◌∙◌}
use Rattle.schema.specs.SchemaOf.{schema_of}
use Rattle.serving_tests.proofs.Served.{served_soundly}
use Rattle.serving_tests.proofs.offices.office.Goals as goal

pub new-requires-2-clause-sound : goal.new-requires-2-clause-sound
new-requires-2-clause-sound c =
    served_soundly (schema_of c.in_ok-schema.schema) c.in_ok-bindings.bindings.names c.in_ok-bindings.bindings.default_slot c.args.protocol c.in_ok-schema.ensures
    (c.in_ok-bindings.ensures.names ∙ c.in_ok-names.ensures) c.in_ok-bindings.ensures.default_slot
