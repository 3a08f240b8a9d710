-- What a check makes of a program that no pass refuses.
use Rattle.std.specs.Prelude.{Result, Ok, Err}
use Rattle.idl_include.specs.Program.{Program}
use Rattle.schema.specs.declared.types.Schema.{Schema}
use Rattle.schema.specs.SchemaOf.{schema_of}
use Rattle.schema.specs.PlainSchema.{PlainSchema}
use Rattle.schema.specs.Sound.{IsSound}
use Rattle.check_model.specs.Passes.{bad_constant}
use Rattle.check_model.specs.SchemaParts.{IsPartialSchema}
use Rattle.check_model.specs.FirstFlaw.{FindsNothing, IsFirstOf, IsFirstFlaw}
use Rattle.check_model.specs.ProgramSchema.{IsSchemaOf}
use Rattle.check_passes.specs.declared.faults.CheckFault.{CheckFault}
use Rattle.check_passes.specs.Faults.{TellsFlaw}
use Rattle.idl_check.specs.Filling.{IsWholeSchema}

-- a schema is made of a program: with its defaults and constants, beside the one without them
pub record IsMadeOf (program : Program) (schema : PlainSchema) : Type 0 where
  pub partial : PlainSchema
  pub made : IsPartialSchema program partial
  pub whole : IsWholeSchema program partial schema
  pub values : FindsNothing program bad_constant

-- What the last stage answers: the schema, or the first fault of a value.
abbrev pub IsValued : Program → Result Schema CheckFault → Type 0
IsValued program (Ok schema) = IsMadeOf program (schema_of schema)
IsValued program (Err fault) = TellsFlaw (IsFirstOf program bad_constant) fault

-- What a check answers: the schema of the program, which is sound, or its first flaw.
abbrev pub IsCheckOf : Program → Result Schema CheckFault → Type 0
IsCheckOf program (Ok schema) = IsSchemaOf program (schema_of schema) × IsSound (schema_of schema)
IsCheckOf program (Err fault) = TellsFlaw (IsFirstFlaw program) fault
