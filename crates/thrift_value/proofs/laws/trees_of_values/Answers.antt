use Rattle.thrift_value.proofs.Trees.{tree_of-Bool, tree_of-I8, tree_of-I16, tree_of-I32, tree_of-I64, tree_of-Double, tree_of-Bytes, tree_of-Struct, tree_of-Map, tree_of-Set, tree_of-List, tree_of-Uuid}
use Rattle.thrift_value.proofs.laws.trees_of_values.Goals as goal

pub returns : goal.returns
returns c = record {
  bool = tree_of-Bool;
  i8 = tree_of-I8;
  i16 = tree_of-I16;
  i32 = tree_of-I32;
  i64 = tree_of-I64;
  double = tree_of-Double;
  bytes = tree_of-Bytes;
  struct_ = tree_of-Struct;
  map = tree_of-Map;
  set = tree_of-Set;
  list = tree_of-List;
  uuid = tree_of-Uuid;
}
