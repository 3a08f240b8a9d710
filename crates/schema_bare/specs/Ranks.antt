-- Ranks of structs, which show which of them have a finite value.
use Rattle.std.specs.Prelude.{◌≡◌, ◌≤◌, ℕ, nat_lt, Bool, List, length, slice_get, slice_index_or, Some}
use Rattle.schema.specs.PlainSchema.{PlainStruct}
use Rattle.check_model.specs.FiniteValues.{fields_have}

-- the rank of a struct that has none
abbrev pub unranked : ℕ
unranked = 4294967295

-- the rank of a struct
abbrev pub rank_of : List ℕ → ℕ → ℕ
rank_of ranks number = slice_index_or ranks number unranked

-- a struct has a rank below this one
abbrev pub is_below : List ℕ → ℕ → ℕ → Bool
is_below ranks bound number = nat_lt (rank_of ranks number) bound

-- a struct has a rank where it has a value, if those with a lower one have one
pub record AreRanks (structs : List PlainStruct) (ranks : List ℕ) : Type 0 where
  pub within : length ranks ≤ length structs
  pub tell : (number : ℕ) (s : PlainStruct) → slice_get structs number ≡ Some s
      → fields_have (is_below ranks (rank_of ranks number)) s.kind s.fields ≡ is_below ranks unranked number
