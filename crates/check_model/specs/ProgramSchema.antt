-- The schema of a program, and the verdict on it.
use Rattle.std.specs.Prelude.{◌≡◌, ℕ, List, Option, Some, None}
use Rattle.std.specs.List.{AllZip}
use Rattle.streams.specs.Files.{File}
use Rattle.thrift_value.specs.Tree.{Tree}
use Rattle.idl_include.specs.ConstExpr.{ConstExpr}
use Rattle.idl_include.specs.Declarations.{FieldDecl, ConstDecl}
use Rattle.idl_include.specs.Program.{Program}
use Rattle.idl_include.specs.Numbering.{Filed, constants_of}
use Rattle.idl_include.specs.Spots.{GivenValue}
use Rattle.idl_include.specs.ConstNames.{value_number}
use Rattle.idl_include.specs.Readings.{FileReading, IsReaderOf}
use Rattle.idl_include.specs.Loading.{LoadFlaw, Loaded, loaded, stopped, program_of}
use Rattle.schema.specs.PlainKind.{PlainKind}
use Rattle.schema.specs.PlainSchema.{PlainConstant, PlainSchema}
use Rattle.check_model.specs.Resolved.{TypeMeans}
use Rattle.check_model.specs.Worths.{valued}
use Rattle.check_model.specs.Evaluation.{Setting, given_worth}
use Rattle.check_model.specs.SchemaParts.{DefaultRule, IsSchemaWith, IsPartialSchema}
use Rattle.check_model.specs.FirstFlaw.{ProgramFlaw, IsFirstFlaw, HasNoFlaw}

-- a given value has this worth
pub record HasWorth (s : Setting) (v : Filed GivenValue) (kind : PlainKind) (value : Tree) : Type 0 where
  pub which : ℕ
  pub number : value_number s.program v.file v.item.owner ≡ Some which
  pub count : ℕ
  pub worth : given_worth s which kind v ≡ valued value count

-- a default that may be there has this worth
abbrev pub IsDefault : Setting → ℕ → FieldDecl → PlainKind → Option ConstExpr → Option Tree → Type 0
IsDefault s file field kind None default = default ≡ None
IsDefault s file field kind (Some tree) default =
    (value : Tree) × (default ≡ Some value)
    × HasWorth s (record { file = file; item = record { owner = field.at; type = field.type; tree = tree } }) kind value

-- each field has the default that is written, evaluated
abbrev pub DefaultIn : Setting → DefaultRule
DefaultIn s file field kind default = IsDefault s file field kind field.default default

-- a constant of the schema
pub record IsConstantOf (s : Setting) (c : Filed ConstDecl) (p : PlainConstant) : Type 0 where
  pub file : p.file ≡ c.file
  pub name : p.name ≡ c.item.name.text
  pub kind : TypeMeans s.program c.file c.item.type p.kind
  pub value : HasWorth s (record { file = c.file; item = record { owner = c.item.name.at; type = c.item.type; tree = c.item.value } }) p.kind p.value

-- The schema of a program, of which each pass finds nothing.
pub record IsSchemaOf (program : Program) (schema : PlainSchema) : Type 0 where
  pub faultless : HasNoFlaw program
  pub partial : PlainSchema
  pub made : IsPartialSchema program partial
  pub whole : IsSchemaWith (DefaultIn (record { program = program; schema = partial })) program schema
  pub constants : AllZip (IsConstantOf (record { program = program; schema = partial })) (constants_of program) schema.constants

-- what becomes of a program that is checked
pub data ProgramVerdict : Type 0 where
  accepted_as : PlainSchema → ProgramVerdict
  not_loaded : LoadFlaw → ProgramVerdict
  at_fault : ProgramFlaw → ProgramVerdict

-- the verdict on what loading comes to
abbrev pub IsVerdictOfLoaded : Loaded → ProgramVerdict → Type 0
IsVerdictOfLoaded (loaded program) (accepted_as schema) = IsSchemaOf program schema
IsVerdictOfLoaded (loaded program) (at_fault flaw) = IsFirstFlaw program flaw
IsVerdictOfLoaded (stopped flaw) (not_loaded other) = other ≡ flaw
IsVerdictOfLoaded _ _ = ⊥

-- The verdict on the program of a main file among files.
abbrev pub IsProgramVerdict : List File → List ℕ → ProgramVerdict → Type 0
IsProgramVerdict files main verdict = (reader : List ℕ → FileReading) × IsReaderOf files reader × IsVerdictOfLoaded (program_of reader main) verdict
