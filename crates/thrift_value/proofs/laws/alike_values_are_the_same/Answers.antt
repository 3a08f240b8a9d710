use Rattle.thrift_value.proofs.PlainLaws.{alike_plain}
use Rattle.thrift_value.proofs.laws.alike_values_are_the_same.Goals as goal

pub returns : goal.returns
returns c = alike_plain
