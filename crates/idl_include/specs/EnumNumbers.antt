-- The numbers of the values of an enum: the number that is written, or else 0 for the first, and one more than the one before.
use Rattle.std.specs.Prelude.{ℤ, pos, ◌+ℤ◌, List, [], ◌∷◌, Option, Some, None}
use Rattle.idl_include.specs.Declarations.{EnumValueDecl}

-- the number of a value, where `next` is that of one without a number
abbrev pub number_or : ℤ → Option ℤ → ℤ
number_or next (Some number) = number
number_or next None = next

-- the number of a value without a number behind these
abbrev pub next_number : ℤ → List EnumValueDecl → ℤ
next_number next [] = next
next_number next (value ∷ more) = next_number (number_or next value.number +ℤ pos 1) more

-- the numbers of values, where `next` is that of a first one without a number
abbrev pub numbers_from : ℤ → List EnumValueDecl → List ℤ
numbers_from next [] = []
numbers_from next (value ∷ more) = number_or next value.number ∷ numbers_from (number_or next value.number +ℤ pos 1) more

-- the numbers of the values of an enum
unfoldable pub enum_numbers : List EnumValueDecl → List ℤ
enum_numbers values = numbers_from (pos 0) values
