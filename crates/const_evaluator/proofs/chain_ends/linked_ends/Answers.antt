use Rattle.std.proofs.Common.{length, rules}
use Rattle.const_evaluator.proofs.ChainTabled.{all_ends}
use Rattle.const_evaluator.proofs.chain_ends.linked_ends.Goals as goal

pub returns : goal.returns
returns c =
    all_ends c.args.links.now c.in_ok-ends.ends.items (length c.in_ok-order.order.items) (length c.args.links.now) (search rules) (search rules) (search rules)
