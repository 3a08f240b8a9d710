use Rattle.thrift_value.proofs.PlainKeeps.{measures_of_plain, tidy_plain, in_range_plain}
use Rattle.thrift_value.proofs.PlainLaws.{tree_cmp-plain}
use Rattle.thrift_value.proofs.laws.plain_value_is_alike.Goals as goal

pub returns : goal.returns
returns c = record {
  alike = tree_cmp-plain;
  measures = measures_of_plain;
  tidy = tidy_plain;
  in_range = in_range_plain;
}
