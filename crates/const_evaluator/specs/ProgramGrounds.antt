-- What is right of the tables that constants of a program are evaluated over.
use Rattle.std.specs.Prelude.{◌≡◌, ℕ, map, slice_get, Some}
use Rattle.idl_include.specs.Program.{Program}
use Rattle.idl_include.specs.Numbering.{Filed}
use Rattle.idl_include.specs.Spots.{GivenValue, values_of}
use Rattle.idl_include.specs.ConstNames.{value_number}
use Rattle.idl_include.specs.SourcesOf.{program_in}
use Rattle.idl_names.specs.SpotsIn.{filed_value}
use Rattle.schema.specs.PlainSchema.{PlainSchema}
use Rattle.schema.specs.SchemaOf.{schema_of, plain_struct}
use Rattle.check_model.specs.Evaluation.{Setting, default_of}
use Rattle.check_model.specs.SchemaParts.{IsPartialSchema}
use Rattle.const_evaluator.specs.ChainTables.{TellsEnds}
use Rattle.const_evaluator.specs.StructTables.{struct_in_table, AreStructTables}
use Rattle.const_evaluator.specs.declared.ground.ProgramGround.{ProgramGround}

-- each value that a program gives is the one of its place
abbrev pub HaveOwnNumbers : Program → Type 0
HaveOwnNumbers program =
    (which : ℕ) (v : Filed GivenValue) → slice_get (values_of program) which ≡ Some v → value_number program v.file v.item.owner ≡ Some which

-- the program
abbrev pub ground_program : ProgramGround → Program
ground_program g = program_in g.constants.now

-- its schema without defaults and constants
abbrev pub ground_schema : ProgramGround → PlainSchema
ground_schema g = schema_of g.schema.now

-- the program and its schema
abbrev pub ground_setting : ProgramGround → Setting
ground_setting g = record { program = ground_program g; schema = ground_schema g }

-- the tables are right about the program
pub record IsProgramGround (g : ProgramGround) : Type 0 where
  pub values : map filed_value g.values.now ≡ values_of (ground_program g)
  pub own : HaveOwnNumbers (ground_program g)
  pub made : IsPartialSchema (ground_program g) (ground_schema g)
  pub structs : map struct_in_table g.structs.items ≡ map plain_struct g.schema.now.structs
  pub tables : AreStructTables (default_of (ground_program g)) g.structs.items
  pub ends : TellsEnds (ground_program g) g.ends.items
