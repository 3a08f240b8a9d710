-- A Thrift value as a tree: all that a value means, whatever it looks like in memory
-- (Thrift type system, 'Base Types', 'Structs', 'Containers').
use Rattle.std.specs.Prelude.{ℕ, ℤ, Bool, List}
use Rattle.thrift_value.specs.declared.tag.Tag.{Tag}

mutual
  -- a value; a double and a uuid are the number that their bits make, and a container keeps the tags that it names
  pub data Tree : Type 0 where
    of_bool : Bool → Tree
    of_i8 : ℤ → Tree
    of_i16 : ℤ → Tree
    of_i32 : ℤ → Tree
    of_i64 : ℤ → Tree
    of_double : ℕ → Tree
    of_bytes : List ℕ → Tree
    of_struct : FieldTrees → Tree
    of_map : Tag → Tag → PairTrees → Tree
    of_set : Tag → ItemTrees → Tree
    of_list : Tag → ItemTrees → Tree
    of_uuid : ℕ → Tree

  -- the fields of a struct, each with its id
  pub data FieldTrees : Type 0 where
    no_fields : FieldTrees
    field : ℤ → Tree → FieldTrees → FieldTrees

  -- the elements of a set or a list
  pub data ItemTrees : Type 0 where
    no_items : ItemTrees
    item : Tree → ItemTrees → ItemTrees

  -- the pairs of a map, each a key and its value
  pub data PairTrees : Type 0 where
    no_pairs : PairTrees
    pair : Tree → Tree → PairTrees → PairTrees
