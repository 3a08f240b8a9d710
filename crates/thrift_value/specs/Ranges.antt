-- The numbers that may stand in a value.
use Rattle.std.specs.Prelude.{⊤, ◌<◌, ◌^◌, All, FitsSigned}
use Rattle.std.specs.Int.{w8, w16, w32, w64}
use Rattle.thrift_value.specs.Tree.{Tree, of_bool, of_i8, of_i16, of_i32, of_i64, of_double, of_bytes, of_struct, of_map, of_set, of_list, of_uuid, FieldTrees, no_fields, field, ItemTrees, no_items, item, PairTrees, no_pairs, pair}

abbrev mutual
  -- each number fits its type: integers their width, a double 64 bits, a uuid 128, bytes 8 and field ids 16 (Thrift type system, 'Base Types')
  pub IsInRange : Tree → Type 0
  IsInRange (of_bool _) = ⊤
  IsInRange (of_i8 n) = FitsSigned w8 n
  IsInRange (of_i16 n) = FitsSigned w16 n
  IsInRange (of_i32 n) = FitsSigned w32 n
  IsInRange (of_i64 n) = FitsSigned w64 n
  IsInRange (of_double n) = n < 2 ^ 64
  IsInRange (of_bytes bytes) = All (λ b. b < 256) bytes
  IsInRange (of_struct fields) = AreFieldsInRange fields
  IsInRange (of_map _ _ pairs) = ArePairsInRange pairs
  IsInRange (of_set _ items) = AreItemsInRange items
  IsInRange (of_list _ items) = AreItemsInRange items
  IsInRange (of_uuid n) = n < 2 ^ 128

  -- the same of each field, its id included
  pub AreFieldsInRange : FieldTrees → Type 0
  AreFieldsInRange no_fields = ⊤
  AreFieldsInRange (field id value more) = FitsSigned w16 id × IsInRange value × AreFieldsInRange more

  -- the same of each element
  pub AreItemsInRange : ItemTrees → Type 0
  AreItemsInRange no_items = ⊤
  AreItemsInRange (item value more) = IsInRange value × AreItemsInRange more

  -- the same of each key and each value
  pub ArePairsInRange : PairTrees → Type 0
  ArePairsInRange no_pairs = ⊤
  ArePairsInRange (pair key value more) = IsInRange key × IsInRange value × ArePairsInRange more
