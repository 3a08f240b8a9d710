-- Tables of names, which are right about a program.
use Rattle.std.specs.Prelude.{◌≡◌, ℕ, List, Option}
use Rattle.idl_include.specs.Declarations.{ConstDecl, TypedefDecl, EnumDecl, StructDecl, ServiceDecl}
use Rattle.idl_include.specs.Program.{Program}
use Rattle.idl_include.specs.Names.{included_with}
use Rattle.idl_include.specs.Numbering.{number_named, constants_of, typedefs_of, enums_of, structs_of, services_of}
use Rattle.idl_names.specs.NameMaps.{NameMap, number_in_file}

-- names by file have these numbers
abbrev pub GiveNumbers : List NameMap → (ℕ → List ℕ → Option ℕ) → Type 0
GiveNumbers maps number = (file : ℕ) (name : List ℕ) → number_in_file maps file name ≡ number file name

-- the tables of base names, constants, typedefs, enums, structs and services are right about a program
pub record AreTables (program : Program) (bases constants typedefs enums structs services : List NameMap) : Type 0 where
  pub included : GiveNumbers bases (included_with program)
  pub consts : GiveNumbers constants (number_named (λ (c : ConstDecl). c.name) (constants_of program))
  pub aliases : GiveNumbers typedefs (number_named (λ (t : TypedefDecl). t.name) (typedefs_of program))
  pub enumerations : GiveNumbers enums (number_named (λ (e : EnumDecl). e.name) (enums_of program))
  pub structures : GiveNumbers structs (number_named (λ (s : StructDecl). s.name) (structs_of program))
  pub offers : GiveNumbers services (number_named (λ (s : ServiceDecl). s.name) (services_of program))
