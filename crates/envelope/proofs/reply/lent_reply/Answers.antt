use Rattle.envelope.proofs.Heads.{no_more}
use Rattle.envelope.proofs.reply.lent_reply.Goals as goal

pub overflow_sub-behind : goal.overflow_sub-behind
overflow_sub-behind c = no_more c.args.protocol c.args.payload.now _ (λ i. (c.type_inv.payload i).fits) c.in_ok-front.ensures
