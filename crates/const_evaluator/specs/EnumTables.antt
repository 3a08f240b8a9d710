-- The values of enums by name.
use Rattle.std.specs.Prelude.{◌≡◌, ℕ, ℤ, List, map, slice_get, Option}
use Rattle.std.specs.Option.{option_and_then}
use Rattle.std.specs.List.{AllZip}
use Rattle.idl_parser.specs.declared.tree.Enum.{Enum}
use Rattle.idl_parser.specs.declared.tree.EnumValue.{EnumValue}
use Rattle.idl_include.specs.Declarations.{EnumValueDecl}
use Rattle.idl_include.specs.DeclaredIn.{enum_value_in}
use Rattle.idl_include.specs.EnumNumbers.{enum_numbers}
use Rattle.idl_include.specs.ConstNames.{number_of_value}
use Rattle.idl_names.specs.declared.filed.InFile.{InFile}
use Rattle.idl_names.specs.NameMaps.{number_of_name}
use Rattle.const_evaluator.specs.declared.enum_tables.EnumTable.{EnumTable}

-- the number of the first value of a name
abbrev pub number_in_table : EnumTable → List ℕ → Option ℤ
number_in_table table name = option_and_then (slice_get table.numbers.items) (number_of_name table.places name)

-- the same of the enum of some number
abbrev pub number_in_tables : List EnumTable → ℕ → List ℕ → Option ℤ
number_in_tables tables which name = option_and_then (λ (t : EnumTable). number_in_table t name) (slice_get tables which)

-- the number of the value of a name, among values in order
abbrev pub number_by_name : List ℕ → List EnumValueDecl → Option ℤ
number_by_name name values = number_of_value values (enum_numbers values) name

-- a table is that of these values
abbrev pub IsTableOf : List EnumValue → EnumTable → Type 0
IsTableOf values table = (name : List ℕ) → number_in_table table name ≡ number_by_name name (map enum_value_in values)

-- a table is that of an enum
abbrev pub IsTableOfEnum : EnumTable → InFile Enum → Type 0
IsTableOfEnum table e = IsTableOf e.item.now.values.items table

-- tables are those of enums
abbrev pub AreTablesOf : List (InFile Enum) → List EnumTable → Type 0
AreTablesOf enums tables = AllZip IsTableOfEnum tables enums
