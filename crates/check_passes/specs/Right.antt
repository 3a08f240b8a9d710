-- When what a test looks at is right for a program.
use Rattle.std.specs.Prelude.{◌≡◌, ◌↔◌, ℕ, List, Bool, true, false, Option, Some, slice_get, slice_index_or}
use Rattle.std.specs.Option.{option_map, option_and_then}
use Rattle.idl_parser.specs.declared.tree.Struct.{Struct}
use Rattle.idl_include.specs.Program.{Program}
use Rattle.idl_include.specs.Numbering.{structs_of}
use Rattle.idl_include.specs.declared.sources.IdlFile.{IdlFile}
use Rattle.idl_include.specs.SourcesOf.{program_in}
use Rattle.idl_names.specs.declared.filed.InFile.{InFile}
use Rattle.idl_names.specs.FiledIn.{filed_structs}
use Rattle.schema.specs.declared.types.TypeDesc.{TypeDesc}
use Rattle.schema.specs.PlainKind.{PlainKind, kind_of}
use Rattle.schema.specs.PlainSchema.{PlainSchema}
use Rattle.check_model.specs.Resolved.{alias_kind}
use Rattle.check_model.specs.FiniteValues.{HasFiniteValue}
use Rattle.check_model.specs.SchemaParts.{IsPartialSchema}

-- the files are those of the program
abbrev pub AreFilesOf : Program → List IdlFile → Type 0
AreFilesOf program files = program_in files ≡ program

-- what the typedef of some number is known to mean
abbrev pub alias_known : List (Option TypeDesc) → ℕ → Option PlainKind
alias_known aliases number = option_and_then (option_map kind_of) (slice_get aliases number)

-- what is known of typedefs by number is what they mean
abbrev pub AreMeanings : Program → List (Option TypeDesc) → Type 0
AreMeanings program aliases =
    (number : ℕ) (kind : PlainKind) → alias_known aliases number ≡ Some kind → (deep : ℕ) × (alias_kind program deep number ≡ Some kind)

-- structs, unions and exceptions by number
abbrev pub AreStructsOf : Program → List (InFile Struct) → Type 0
AreStructsOf program structs = filed_structs structs ≡ structs_of program

-- marks of structs by number: which have a finite value
pub record TellFinite (program : Program) (marks : List Bool) : Type 0 where
  pub schema : PlainSchema
  pub made : IsPartialSchema program schema
  pub each : (number : ℕ) → (slice_index_or marks number false ≡ true) ↔ HasFiniteValue schema number
