-- Bytes and values of the worked examples.
use Rattle.std.specs.Prelude.{ℕ, zero, suc, pos, List, [], ◌∷◌, ◌++◌}
use Rattle.thrift_value.specs.declared.tag.Tag.TheVariants as tags
use Rattle.thrift_value.specs.Tree.{Tree, of_i32, of_bytes, of_struct, of_map, of_set, of_list, of_uuid, no_fields, field, no_items, item, no_pairs, pair}

-- `add(1, 2)`: two numbers
abbrev pub two_numbers : Tree
two_numbers = of_struct (field (pos 1) (of_i32 (pos 1)) (field (pos 2) (of_i32 (pos 2)) no_fields))

-- its bytes
abbrev pub two_numbers_bytes : List ℕ
two_numbers_bytes = 8 ∷ 0 ∷ 1 ∷ 0 ∷ 0 ∷ 0 ∷ 1 ∷ 8 ∷ 0 ∷ 2 ∷ 0 ∷ 0 ∷ 0 ∷ 2 ∷ 0 ∷ []

-- a list of numbers with nothing in it
abbrev pub empty_list_bytes : List ℕ
empty_list_bytes = 15 ∷ 0 ∷ 1 ∷ 8 ∷ 0 ∷ 0 ∷ 0 ∷ 0 ∷ 0 ∷ []

-- how it is read: its element tag isn't told
abbrev pub empty_list : Tree
empty_list = of_struct (field (pos 1) (of_list tags.Bool no_items) no_fields)

-- a map from texts to sets of numbers
abbrev pub lookup : Tree
lookup =
    of_struct (field (pos 3)
    (of_map tags.Bytes tags.Set (pair (of_bytes (97 ∷ 98 ∷ [])) (of_set tags.I32 (item (of_i32 (pos 7)) no_items)) no_pairs)) no_fields)

-- its bytes
abbrev pub lookup_bytes : List ℕ
lookup_bytes =
    13 ∷ 0 ∷ 3 ∷ 11 ∷ 14 ∷ 0 ∷ 0 ∷ 0 ∷ 1 ∷ 0 ∷ 0 ∷ 0 ∷ 2 ∷ 97 ∷ 98 ∷ 8 ∷ 0 ∷ 0 ∷ 0 ∷ 1 ∷ 0 ∷ 0 ∷ 0 ∷ 7 ∷ 0 ∷ []

-- a struct of a uuid
abbrev pub uuid_alone : Tree
uuid_alone = of_struct (field (pos 1) (of_uuid 88962710306127702866241727433142015) no_fields)

-- its bytes
abbrev pub uuid_alone_bytes : List ℕ
uuid_alone_bytes = 16 ∷ 0 ∷ 1 ∷ 0 ∷ 17 ∷ 34 ∷ 51 ∷ 68 ∷ 85 ∷ 102 ∷ 119 ∷ 136 ∷ 153 ∷ 170 ∷ 187 ∷ 204 ∷ 221 ∷ 238 ∷ 255 ∷ 0 ∷ []

-- so many lists in one another, the last of them empty
abbrev pub nested_lists : ℕ → List ℕ
nested_lists zero = []
nested_lists (suc zero) = 2 ∷ 0 ∷ 0 ∷ 0 ∷ 0 ∷ []
nested_lists (suc (suc n)) = 15 ∷ 0 ∷ 0 ∷ 0 ∷ 1 ∷ nested_lists (suc n)

-- how they are read
abbrev pub nested_list_trees : ℕ → Tree
nested_list_trees zero = of_list tags.Bool no_items
nested_list_trees (suc zero) = of_list tags.Bool no_items
nested_list_trees (suc (suc n)) = of_list tags.List (item (nested_list_trees (suc n)) no_items)

-- a struct whose field 1 is so many lists in one another
abbrev pub deep_bytes : ℕ → List ℕ
deep_bytes n = 15 ∷ 0 ∷ 1 ∷ nested_lists n ++ 0 ∷ []

-- how it is read
abbrev pub deep : ℕ → Tree
deep n = of_struct (field (pos 1) (nested_list_trees n) no_fields)
