use Rattle.thrift_value.proofs.PlainKeeps.{one_or_more}
use Rattle.thrift_value.proofs.laws.count_is_one_or_more.Goals as goal

pub returns : goal.returns
returns c = one_or_more
