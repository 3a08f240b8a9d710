-- The verdict on an IDL: the schema of its program of files, or the first fault of it.
use Rattle.std.specs.Prelude.{◌≡◌, ⊤, ℕ, Bool, true, false, List, codes, slice_get, Option, Some, None}
use Rattle.std.specs.Str.{bytes_eq}
use Rattle.streams.specs.Files.{File}
use Rattle.idl_token.specs.declared.Place.{Place}
use Rattle.idl_include.specs.Program.{SourceFile, Program}
use Rattle.idl_include.specs.Readings.{FileReading, IsReaderOf}
use Rattle.idl_include.specs.Loading.{LoadFlaw, Loaded, loaded, stopped, program_of}
use Rattle.schema.specs.PlainSchema.{PlainSchema}
use Rattle.schema.specs.SchemaText.{schema_text}
use Rattle.check_model.specs.FirstFlaw.{ProgramFlaw, IsFirstFlaw}
use Rattle.check_model.specs.ProgramSchema.{IsSchemaOf}
use Rattle.idl_include.specs.declared.faults.LoadFault.{LoadFault}
use Rattle.idl_include.specs.Loads.{IsReadFault}
use Rattle.idl_check.specs.declared.kinds.IdlFaultKind.{IdlFaultKind}
use Rattle.idl_check.specs.FaultKinds.{kind_of_loading, kind_of_flaw}
use Rattle.idl_check.specs.Tutorial.{tutorial_name, tutorial_files}

-- The verdict on an IDL: the schema of its program, or a file of it, a place there, or 0:0, and what is wrong.
pub data IdlVerdict : Type 0 where
  accepted : PlainSchema → IdlVerdict
  refused : (file : List ℕ) → Place → IdlFaultKind → IdlVerdict

-- loading stops at this flaw, which is refused so
pub record IsLoadRefusal (flaw : LoadFlaw) (file : List ℕ) (at : Place) (kind : IdlFaultKind) : Type 0 where
  pub file_is : file ≡ flaw.file
  pub place : at ≡ flaw.at
  pub named : kind_of_loading flaw.kind ≡ Some kind

-- the first flaw of the program is refused so, by the name of its file
pub record IsCheckRefusal (program : Program) (file : List ℕ) (at : Place) (kind : IdlFaultKind) : Type 0 where
  pub flaw : ProgramFlaw
  pub first : IsFirstFlaw program flaw
  pub source : SourceFile
  pub there : slice_get program flaw.file ≡ Some source
  pub file_is : file ≡ source.name
  pub place : at ≡ flaw.at
  pub named : kind_of_flaw flaw.kind ≡ Some kind

-- The verdict on what loading comes to.
abbrev pub IsIdlVerdictOfLoaded : Loaded → IdlVerdict → Type 0
IsIdlVerdictOfLoaded (loaded program) (accepted schema) = IsSchemaOf program schema
IsIdlVerdictOfLoaded (loaded program) (refused file at kind) = IsCheckRefusal program file at kind
IsIdlVerdictOfLoaded (stopped flaw) (accepted schema) = ⊥
IsIdlVerdictOfLoaded (stopped flaw) (refused file at kind) = IsLoadRefusal flaw file at kind

-- the verdict on the program of a main file among files
abbrev pub IsVerdictIn : List File → List ℕ → IdlVerdict → Type 0
IsVerdictIn files main verdict = (reader : List ℕ → FileReading) × IsReaderOf files reader × IsIdlVerdictOfLoaded (program_of reader main) verdict

-- the same where the files may be untold: then a schema is that of some program
abbrev pub IsVerdictTold : Option (List File) → List ℕ → IdlVerdict → Type 0
IsVerdictTold (Some files) main verdict = IsVerdictIn files main verdict
IsVerdictTold None main (accepted schema) = (program : Program) × IsSchemaOf program schema
IsVerdictTold None main (refused file at kind) = ⊤

-- `@tutorial` names the files that the program holds
abbrev pub is_the_tutorial : List ℕ → Bool
is_the_tutorial idl = bytes_eq idl (codes "@tutorial")

-- the verdict on the tutorial, or on the file of this name
abbrev pub IsVerdictBy : Bool → Option (List File) → List ℕ → IdlVerdict → Type 0
IsVerdictBy true files idl verdict = IsVerdictIn tutorial_files tutorial_name verdict
IsVerdictBy false files idl verdict = IsVerdictTold files idl verdict

-- The verdict on the IDL of a name: that on the tutorial, or else on the program of the file of this name.
abbrev pub IsIdlVerdict : Option (List File) → List ℕ → IdlVerdict → Type 0
IsIdlVerdict files idl verdict = IsVerdictBy (is_the_tutorial idl) files idl verdict

-- the text is that of the schema of an IDL that is accepted
abbrev pub IsSchemaTextOf : Option (List File) → List ℕ → List ℕ → Type 0
IsSchemaTextOf files idl text = (schema : PlainSchema) × IsIdlVerdict files idl (accepted schema) × (text ≡ schema_text schema)

-- loading the program of this main file stopped at a file that couldn't be read
abbrev pub StopsAtRead : Option (List File) → List ℕ → Type 0
StopsAtRead files main = (fault : LoadFault) × IsReadFault files main fault

-- The same of the IDL of a name, which isn't the tutorial.
abbrev pub IsUnreadIdl : Option (List File) → List ℕ → Type 0
IsUnreadIdl files idl = (is_the_tutorial idl ≡ false) × StopsAtRead files idl
