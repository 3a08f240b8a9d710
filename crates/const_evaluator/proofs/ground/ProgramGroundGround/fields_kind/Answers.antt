use Rattle.std.proofs.Common.{sym, ap}
use Rattle.schema.specs.PlainSchema.{PlainStruct}
use Rattle.schema.specs.SchemaOf.{schema_of}
use Rattle.const_evaluator.proofs.InTables.{no_struct}
use Rattle.const_evaluator.proofs.ground.ProgramGroundGround.fields_kind.Goals as goal

pub returns-in-None : goal.returns-in-None
returns-in-None c =
    sym (ap (λ (s : PlainStruct). s.kind) (no_struct (schema_of c.args.self.now.schema.now) c.args.self.now.structs.items c.args.which c.requires.structs c.in-None.ensures))
