-- Tables of a schema's functions: for each service the places of its own functions, in the order of their names.
use Rattle.std.specs.Prelude.{ℕ, zero, suc, ◌==◌, ◌&&◌, nat_lt, not, Bool, true, false, List, [], ◌∷◌, length, unwrap_or}
use Rattle.std.specs.List.{slice_get, list_all, list_any}
use Rattle.std.specs.Option.{option_map}
use Rattle.std.specs.Ordering.{nat_cmp, is_lt}
use Rattle.std.specs.Cmp.Lexicographic.{slice_cmp}
use Rattle.schema.specs.PlainSchema.{PlainFunction, PlainService}

-- the name of the function at a place; where there is none, no byte
abbrev pub name_at_place : List PlainFunction → ℕ → List ℕ
name_at_place functions place = unwrap_or (option_map (λ (f : PlainFunction). f.name) (slice_get functions place)) []

-- the function at one place stands in front of that at another by its name's bytes
abbrev pub is_placed_before : List PlainFunction → ℕ → ℕ → Bool
is_placed_before functions a b = is_lt (slice_cmp nat_cmp (name_at_place functions a) (name_at_place functions b))

-- each number below n is one of these
abbrev pub has_all_below : ℕ → List ℕ → Bool
has_all_below zero numbers = true
has_all_below (suc n) numbers = list_any (λ number. number == n) numbers && has_all_below n numbers

-- behind this number none has to stand in front of the one before it
abbrev pub rises_from : (ℕ → ℕ → Bool) → ℕ → List ℕ → Bool
rises_from before first [] = true
rises_from before first (next ∷ more) = not (before next first) && rises_from before next more

-- the same of all the numbers
abbrev pub rises : (ℕ → ℕ → Bool) → List ℕ → Bool
rises before [] = true
rises before (first ∷ more) = rises_from before first more

-- all places of functions, and no others, in the order of the names
abbrev pub is_table : List PlainFunction → List ℕ → Bool
is_table functions places =
    has_all_below (length functions) places && (list_all (λ place. nat_lt place (length functions)) places && rises (is_placed_before functions) places)

-- a table of the own functions of each service
abbrev pub are_tables : List PlainService → List (List ℕ) → Bool
are_tables [] [] = true
are_tables [] (table ∷ tables) = false
are_tables (service ∷ services) [] = false
are_tables (service ∷ services) (table ∷ tables) = is_table service.functions table && are_tables services tables

-- the table of the service at a number
abbrev pub table_at : List (List ℕ) → ℕ → List ℕ
table_at tables which = unwrap_or (slice_get tables which) []
