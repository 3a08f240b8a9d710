-- What arrives on a connection, cut into pieces.
use Rattle.std.specs.Prelude.{ℕ, ◌+◌, List, [], ◌∷◌, length}
use Rattle.std.specs.List.{flat_map}

-- the pieces, one behind the other
abbrev pub bytes_of_pieces : List (List ℕ) → List ℕ
bytes_of_pieces pieces = flat_map (λ piece. piece) pieces

-- where each piece ends among all bytes, the first of which is number `at`
abbrev pub ends_from : ℕ → List (List ℕ) → List ℕ
ends_from at [] = []
ends_from at (piece ∷ pieces) = (at + length piece) ∷ ends_from (at + length piece) pieces

-- what arrives on a connection: all bytes, and where each piece of them ends
pub record Arrival : Type 0 where
  pub bytes : List ℕ
  pub ends : List ℕ

-- the arrival of these pieces
abbrev pub arrival_of : List (List ℕ) → Arrival
arrival_of pieces = record { bytes = bytes_of_pieces pieces; ends = ends_from 0 pieces }
