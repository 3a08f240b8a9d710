-- What a name stands for in a constant value: `Enum.VALUE` or `f.Enum.VALUE` is a value of an enum, `NAME` or `f.NAME` a constant.
-- What is both is the value of the enum.
use Rattle.std.specs.Prelude.{ℕ, ℤ, ◌==◌, ◌&&◌, Bool, List, ◌∷◌, slice_get, Option, Some, None, if◌then◌else◌}
use Rattle.std.specs.Option.{option_map, option_or, option_and_then}
use Rattle.std.specs.List.{find, position_from}
use Rattle.std.specs.Str.{bytes_eq}
use Rattle.idl_token.specs.declared.Place.{Place}
use Rattle.idl_include.specs.Declarations.{ConstDecl, EnumDecl, EnumValueDecl}
use Rattle.idl_include.specs.Program.{Program}
use Rattle.idl_include.specs.Numbering.{Filed, constants_of, enums_of, is_filed_as, number_named}
use Rattle.idl_include.specs.Names.{Sought, sought, is_dotted, qualifier, bare_name}
use Rattle.idl_include.specs.EnumNumbers.{enum_numbers}
use Rattle.idl_include.specs.Spots.{GivenValue, values_of}

-- what a name in a constant value stands for: a number of the enum of some number, or the value that has this number among those given
pub data ConstMeaning : Type 0 where
  enum_value : ℕ → ℤ → ConstMeaning
  given_value : ℕ → ConstMeaning

-- two places are the same
abbrev pub same_place : Place → Place → Bool
same_place a b = (a.line == b.line) && (a.column == b.column)

-- the number of the value that a constant, or a field, of this place gives
unfoldable pub value_number : Program → ℕ → Place → Option ℕ
value_number program file owner =
    position_from (λ (v : Filed GivenValue). (v.file == file) && same_place v.item.owner owner) 0 (values_of program)

-- the number of the first value of this name
abbrev pub number_of_value : List EnumValueDecl → List ℤ → List ℕ → Option ℤ
number_of_value (value ∷ values) (number ∷ numbers) name =
    if bytes_eq value.name.text name then Some number else number_of_value values numbers name
number_of_value _ _ name = None

-- the value of this name of the enum of some number
abbrev pub value_of_enum : Program → List ℕ → ℕ → Option ConstMeaning
value_of_enum program name number =
    option_and_then (λ (e : Filed EnumDecl). option_map (enum_value number) (number_of_value e.item.values (enum_numbers e.item.values) name))
    (slice_get (enums_of program) number)

-- the value of this name of an enum that is defined somewhere
abbrev pub enum_value_at : Program → List ℕ → Sought → Option ConstMeaning
enum_value_at program name s =
    option_and_then (value_of_enum program name) (number_named (λ (e : EnumDecl). e.name) (enums_of program) s.file s.name)

-- a name as that of an enum's value: what stands before its last `.` names the enum
abbrev pub enum_value_named : Program → ℕ → List ℕ → Option ConstMeaning
enum_value_named program file name =
    if is_dotted name then option_and_then (enum_value_at program (bare_name name)) (sought program file (qualifier name)) else None

-- a constant that is defined somewhere
abbrev pub constant_at : Program → Sought → Option ConstMeaning
constant_at program s =
    option_and_then (λ (c : Filed ConstDecl). option_map given_value (value_number program c.file c.item.name.at))
    (find (is_filed_as (λ (c : ConstDecl). c.name) s.file s.name) (constants_of program))

-- What a name in a constant value that stands in a file stands for.
unfoldable pub const_meaning : Program → ℕ → List ℕ → Option ConstMeaning
const_meaning program file name = option_or (enum_value_named program file name) (option_and_then (constant_at program) (sought program file name))
