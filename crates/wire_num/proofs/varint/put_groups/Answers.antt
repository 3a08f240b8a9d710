use Rattle.std.proofs.Common.{◌∙◌, rules}
use Rattle.wire_num.proofs.Counted.{put_last, put_more}
use Rattle.wire_num.proofs.varint.put_groups.Goals as goal

pub returns-then-rest-lt128-clause-ok : goal.returns-then-rest-lt128-clause-ok
returns-then-rest-lt128-clause-ok c =
    let same = c.split_at.ensures.front ∙ put_last c.args.number c.args.most c.loop-i.bytes c.loop-i.rest c.loop-i.i c.loop-i.invariant.0 (search rules) c.requires (search rules) in
    search (rules, same)

pub loop-i-preserved : goal.loop-i-preserved
loop-i-preserved c =
    (put_more c.args.number c.args.most c.loop-i.bytes c.loop-i.rest c.loop-i.i c.loop-i.invariant.0 (search rules) c.requires (search rules), c.loop-i.invariant.1)
