-- The types of a program, and its schema without defaults and constants.
use Rattle.idl_include.specs.Program.{Program}
use Rattle.schema.specs.SchemaOf.{schema_of}
use Rattle.check_model.specs.SchemaParts.{IsPartialSchema}
use Rattle.idl_types.specs.Known.{AreAliasTypes}
use Rattle.check_passes.specs.declared.program.TypedProgram.{TypedProgram}

-- they are those of the program
pub record IsTyped (program : Program) (typed : TypedProgram) : Type 0 where
  pub aliases : AreAliasTypes program typed.aliases.items
  pub partial : IsPartialSchema program (schema_of typed.partial)
