-- Whether the number of an enum's value has 32 bits.
use Rattle.std.specs.Prelude.{◌≡◌, ◌⊎◌, ◌+ℤ◌, ◌<ℤ◌, ℤ, pos, neg_ℤ, int_le, ◌&&◌, ◌^◌, ◌-◌, Bool, List, [], ◌∷◌}
use Rattle.idl_include.specs.Declarations.{EnumValueDecl}
use Rattle.idl_include.specs.EnumNumbers.{number_or, next_number}

-- a number has 32 bits
abbrev pub has_32_bits : ℤ → Bool
has_32_bits n = int_le (neg_ℤ (pos (2 ^ (32 - 1)))) n && int_le n (pos (2 ^ (32 - 1) - 1))

-- the number of a value behind others has 32 bits
abbrev pub fits_enum : List EnumValueDecl → EnumValueDecl → Bool
fits_enum before value = has_32_bits (number_or (next_number (pos 0) before) value.number)

-- whether the number of each value has 32 bits, where `next` is that of a first one without a number
abbrev pub fit_marks : ℤ → List EnumValueDecl → List Bool
fit_marks next [] = []
fit_marks next (value ∷ more) = has_32_bits (number_or next value.number) ∷ fit_marks (number_or next value.number +ℤ pos 1) more

-- a number is the next, or both are past 32 bits
abbrev pub IsNextAs : ℤ → ℤ → Type 0
IsNextAs number next = (number ≡ next) ⊎ ((pos 2147483647 <ℤ number) × (pos 2147483647 <ℤ next))
