use Rattle.schema.proofs.ExampleIsSound.{one_of_a_union, two_of_a_union, none_of_a_union, required_is_missing, undeclared_id, another_type}
use Rattle.schema.proofs.laws.values_as_written.Goals as goal

pub returns : goal.returns
returns c = record {
  one_of_a_union = one_of_a_union;
  two_of_a_union = two_of_a_union;
  none_of_a_union = none_of_a_union;
  required_is_missing = required_is_missing;
  undeclared_id = undeclared_id;
  another_type = another_type;
  empty_list = tt;
}
