use Rattle.envelope.proofs.ReplyHeads.{reply_found_by}
use Rattle.envelope.proofs.reply.lend_reply_head.Goals as goal

pub returns : goal.returns
returns c = record {
  found = reply_found_by c.args.protocol c.args.payload.now _ (λ i. (c.type_inv.payload i).fits) c.lent_reply.ensures;
  exact = c.lent_reply.ensures;
}
