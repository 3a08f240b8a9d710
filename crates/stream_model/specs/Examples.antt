-- Bytes of the worked examples.
use Rattle.std.specs.Prelude.{ℕ, List, [], ◌∷◌}

-- `ping()`
abbrev pub ping_bytes : List ℕ
ping_bytes = 128 ∷ 1 ∷ 0 ∷ 1 ∷ 0 ∷ 0 ∷ 0 ∷ 4 ∷ 112 ∷ 105 ∷ 110 ∷ 103 ∷ 0 ∷ 0 ∷ 0 ∷ 0 ∷ 0 ∷ []

-- `add(1, 1)`
abbrev pub add_bytes : List ℕ
add_bytes =
    128 ∷ 1 ∷ 0 ∷ 1 ∷ 0 ∷ 0 ∷ 0 ∷ 3 ∷ 97 ∷ 100 ∷ 100 ∷ 0 ∷ 0 ∷ 0 ∷ 1 ∷ 8 ∷ 0 ∷ 1 ∷ 0 ∷ 0 ∷ 0 ∷ 1 ∷ 8 ∷ 0 ∷ 2 ∷ 0 ∷ 0 ∷ 0 ∷ 1 ∷ 0 ∷ []

-- an old head, and a field with a list of two lists of bools
abbrev pub list_bytes : List ℕ
list_bytes =
    0 ∷ 0 ∷ 0 ∷ 1 ∷ 102 ∷ 4 ∷ 0 ∷ 0 ∷ 0 ∷ 1
    ∷ 15 ∷ 0 ∷ 1 ∷ 15 ∷ 0 ∷ 0 ∷ 0 ∷ 2
    ∷ 2 ∷ 0 ∷ 0 ∷ 0 ∷ 2 ∷ 1 ∷ 0
    ∷ 2 ∷ 0 ∷ 0 ∷ 0 ∷ 1 ∷ 1
    ∷ 0 ∷ 99 ∷ []

-- an old head without a name, and a field with a uuid
abbrev pub uuid_bytes : List ℕ
uuid_bytes =
    0 ∷ 0 ∷ 0 ∷ 0 ∷ 1 ∷ 0 ∷ 0 ∷ 0 ∷ 1
    ∷ 16 ∷ 0 ∷ 1 ∷ 0 ∷ 17 ∷ 34 ∷ 51 ∷ 68 ∷ 85 ∷ 102 ∷ 119 ∷ 136 ∷ 153 ∷ 170 ∷ 187 ∷ 204 ∷ 221 ∷ 238 ∷ 255 ∷ 0 ∷ []

-- the head of `add`
abbrev pub add_head : List ℕ
add_head = 128 ∷ 1 ∷ 0 ∷ 1 ∷ 0 ∷ 0 ∷ 0 ∷ 3 ∷ 97 ∷ 100 ∷ 100 ∷ 0 ∷ 0 ∷ 0 ∷ 1 ∷ []

-- the same, and the header of a field with a list
abbrev pub list_head : List ℕ
list_head = 128 ∷ 1 ∷ 0 ∷ 1 ∷ 0 ∷ 0 ∷ 0 ∷ 3 ∷ 97 ∷ 100 ∷ 100 ∷ 0 ∷ 0 ∷ 0 ∷ 1 ∷ 15 ∷ 0 ∷ 1 ∷ []
