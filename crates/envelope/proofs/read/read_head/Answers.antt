use Rattle.envelope.proofs.Heads.{found_by, only_by, refused_by}
use Rattle.envelope.proofs.read.read_head.Goals as goal

pub returns : goal.returns
returns c = record {
  found = found_by c.args.protocol c.args.payload.now _ (λ i. (c.type_inv.payload i).fits) c.head_of.ensures;
  only = only_by c.args.protocol c.args.payload.now _ c.head_of.ensures;
  refused = refused_by c.args.protocol c.args.payload.now _ c.head_of.ensures;
  exact = c.head_of.ensures;
}
