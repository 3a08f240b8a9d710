use Rattle.std.proofs.Common.{sym}
use Rattle.plain_machine.proofs.Seeing.{worker_seen, no_worker}
use Rattle.plain_machine.proofs.workers.worker_at.Goals as goal

pub returns : goal.returns
returns g c = worker_seen c.args.workers.now c.args.w c.index-workers-w.result c.if-workers-w.false c.index-workers-w.is

pub returns-then-workers-w : goal.returns-then-workers-w
returns-then-workers-w g c = sym (no_worker c.args.workers.now c.args.w c.if-workers-w.true)
