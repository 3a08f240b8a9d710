-- Bytes and values of the worked examples.
use Rattle.std.specs.Prelude.{ℕ, zero, suc, pos, negsuc, true, false, List, [], ◌∷◌, ◌++◌}
use Rattle.thrift_value.specs.declared.tag.Tag.TheVariants as tags
use Rattle.thrift_value.specs.Tree.{Tree, of_bool, of_i32, of_bytes, of_struct, of_map, of_set, of_list, of_uuid, no_fields, field, no_items, item, no_pairs, pair}

-- `add(1, 2)`: two numbers
abbrev pub small_numbers : Tree
small_numbers = of_struct (field (pos 1) (of_i32 (pos 1)) (field (pos 2) (of_i32 (pos 2)) no_fields))

-- its bytes
abbrev pub small_numbers_bytes : List ℕ
small_numbers_bytes = 21 ∷ 2 ∷ 21 ∷ 4 ∷ 0 ∷ []

-- a struct of a uuid
abbrev pub lone_uuid : Tree
lone_uuid = of_struct (field (pos 1) (of_uuid 88962710306127702866241727433142015) no_fields)

-- its bytes
abbrev pub lone_uuid_bytes : List ℕ
lone_uuid_bytes = 29 ∷ 0 ∷ 17 ∷ 34 ∷ 51 ∷ 68 ∷ 85 ∷ 102 ∷ 119 ∷ 136 ∷ 153 ∷ 170 ∷ 187 ∷ 204 ∷ 221 ∷ 238 ∷ 255 ∷ 0 ∷ []

-- fields by small and large steps, and a struct among them whose fields begin at 0 again
abbrev pub steps : Tree
steps =
    of_struct (field (pos 15) (of_bool true) (field (pos 31) (of_struct (field (pos 2) (of_bool false) no_fields))
    (field (pos 46) (of_i32 (negsuc 0)) (field (pos 46) (of_i32 (pos 64)) (field (pos 0) (of_i32 (pos 0)) no_fields)))))

-- its bytes
abbrev pub steps_bytes : List ℕ
steps_bytes = 241 ∷ 12 ∷ 62 ∷ 34 ∷ 0 ∷ 245 ∷ 1 ∷ 5 ∷ 92 ∷ 128 ∷ 1 ∷ 5 ∷ 0 ∷ 0 ∷ 0 ∷ []

-- a map from texts to sets of bools
abbrev pub flag_sets : Tree
flag_sets =
    of_struct (field (pos 3)
    (of_map tags.Bytes tags.Set (pair (of_bytes (97 ∷ 98 ∷ [])) (of_set tags.Bool (item (of_bool false) (item (of_bool true) no_items))) no_pairs)) no_fields)

-- its bytes
abbrev pub flag_sets_bytes : List ℕ
flag_sets_bytes = 59 ∷ 1 ∷ 138 ∷ 2 ∷ 97 ∷ 98 ∷ 33 ∷ 2 ∷ 1 ∷ 0 ∷ []

-- so many lists in one another, the last of them empty
abbrev pub lists_in_lists : ℕ → List ℕ
lists_in_lists zero = []
lists_in_lists (suc zero) = 3 ∷ []
lists_in_lists (suc (suc n)) = 25 ∷ lists_in_lists (suc n)

-- how they are read
abbrev pub list_trees : ℕ → Tree
list_trees zero = of_list tags.Bool no_items
list_trees (suc zero) = of_list tags.Bool no_items
list_trees (suc (suc n)) = of_list tags.List (item (list_trees (suc n)) no_items)

-- a struct whose field 1 is so many lists in one another
abbrev pub levels_bytes : ℕ → List ℕ
levels_bytes n = 25 ∷ lists_in_lists n ++ 0 ∷ []

-- how it is read
abbrev pub levels_tree : ℕ → Tree
levels_tree n = of_struct (field (pos 1) (list_trees n) no_fields)
