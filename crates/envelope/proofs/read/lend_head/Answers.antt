use Rattle.envelope.proofs.Heads.{found_by, or_no_memory}
use Rattle.envelope.proofs.read.lend_head.Goals as goal

pub returns : goal.returns
returns c = record {
  found = found_by c.args.protocol c.args.payload.now _ (λ i. (c.type_inv.payload i).fits) (or_no_memory _ _ c.lent.ensures);
  exact = c.lent.ensures;
}
