-- Arguments and memories of the worked examples.
use Rattle.std.specs.Prelude.{ℕ, ℤ, pos, List}
use Rattle.thrift_value.specs.declared.tag.Tag.TheVariants.{Bytes}
use Rattle.thrift_value.specs.Tree.{Tree, of_i32, of_bytes, of_struct, of_map, no_fields, field, PairTrees, pair}

-- a call without arguments
abbrev pub no_arguments : Tree
no_arguments = of_struct no_fields

-- two numbers, as `add` takes them
abbrev pub two_numbers_passed : ℤ → ℤ → Tree
two_numbers_passed a b = of_struct (field (pos 1) (of_i32 a) (field (pos 2) (of_i32 b) no_fields))

-- a log's number and two numbers with their operation, as `calculate` takes them
abbrev pub work_passed : ℤ → ℤ → ℤ → ℤ → Tree
work_passed logid a b op =
    of_struct (field (pos 1) (of_i32 logid)
    (field (pos 2) (of_struct (field (pos 1) (of_i32 a) (field (pos 2) (of_i32 b) (field (pos 3) (of_i32 op) no_fields)))) no_fields))

-- a text, as `get` takes it
abbrev pub text_passed : List ℕ → Tree
text_passed key = of_struct (field (pos 1) (of_bytes key) no_fields)

-- a key and a text, as `put` takes them
abbrev pub two_texts_passed : List ℕ → List ℕ → Tree
two_texts_passed key text = of_struct (field (pos 1) (of_bytes key) (field (pos 2) (of_bytes text) no_fields))

-- a memory with a text in front of others
abbrev pub texts_from : List ℕ → List ℕ → PairTrees → Tree
texts_from key text more = of_map Bytes Bytes (pair (of_bytes key) (of_bytes text) more)
