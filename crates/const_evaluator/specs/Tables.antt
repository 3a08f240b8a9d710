-- Tables that are right about a program.
use Rattle.std.specs.Prelude.{◌≡◌, ℕ, List, slice_get, slice_index_or, Option, None}
use Rattle.std.specs.Option.{option_and_then}
use Rattle.idl_include.specs.Declarations.{ConstDecl, EnumDecl}
use Rattle.idl_include.specs.Program.{Program}
use Rattle.idl_include.specs.Numbering.{Filed, constants_of, enums_of}
use Rattle.idl_include.specs.ConstNames.{value_number}
use Rattle.const_evaluator.specs.declared.enum_tables.EnumTable.{EnumTable}
use Rattle.const_evaluator.specs.EnumTables.{number_in_tables, number_by_name}

-- the tables of enums, and the values of constants, are right about a program
pub record AreConstTables (program : Program) (enums : List EnumTable) (constants : List (Option ℕ)) : Type 0 where
  pub numbers : (which : ℕ) (name : List ℕ) → number_in_tables enums which name
      ≡ option_and_then (λ (e : Filed EnumDecl). number_by_name name e.item.values) (slice_get (enums_of program) which)
  pub values : (which : ℕ) → slice_index_or constants which None
      ≡ option_and_then (λ (c : Filed ConstDecl). value_number program c.file c.item.name.at) (slice_get (constants_of program) which)
