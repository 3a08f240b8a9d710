use Rattle.thrift_value.proofs.TotalOrder.{tree_cmp_total}
use Rattle.thrift_value.proofs.laws.order_is_total.Goals as goal

pub returns : goal.returns
returns c = tree_cmp_total
