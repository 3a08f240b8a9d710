use Rattle.compat_check.proofs.Tied.{inserted, taken, passed}
use Rattle.compat_check.proofs.fresh.take.Goals as goal

pub returns-in_ok-push : goal.returns-in_ok-push
returns-in_ok-push c = record {
  into =
      taken c.args.seen.now.keys c.args.into.now.items c.push.new.self.items c.args.pair c.in_ok-insert.field-0 c.in_ok-insert.ensures.added c.if-branch.true c.in_ok-push.ensures.items;
  seen = inserted c.args.seen.now.keys c.insert.new.self.keys c.args.pair c.in_ok-insert.ensures.keys;
}

pub returns-else-branch : goal.returns-else-branch
returns-else-branch c = record {
  into = passed c.args.seen.now.keys c.args.into.now.items c.args.pair c.in_ok-insert.field-0 c.in_ok-insert.ensures.added c.if-branch.false;
  seen = inserted c.args.seen.now.keys c.insert.new.self.keys c.args.pair c.in_ok-insert.ensures.keys;
}
