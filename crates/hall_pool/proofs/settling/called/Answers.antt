use Rattle.std.proofs.Common.{subst}
use Rattle.machine_model.specs.HallState.{Job}
use Rattle.hall_pool.specs.Jobs.{TriesCall}
use Rattle.hall_pool.proofs.Applying.{settled_by_call}
use Rattle.hall_pool.proofs.settling.called.Goals as goal

pub apply-requires-clause-plain : goal.apply-requires-clause-plain
apply-requires-clause-plain g c κs within = (g.met.D.Desk.holds c.args.desk.now).plain c.args.job.now.payload c.args.call c.requires.call

pub returns-in-Answered-clause-settled : goal.returns-in-Answered-clause-settled
returns-in-Answered-clause-settled g c =
    settled_by_call (g.D.Desk.meaning c.args.desk.now) c.args.seat.now c.apply.new.seat c.args.job.now.key c.args.job.now.payload c.args.call c.in-Answered.answer c.apply.result
    c.settled_with.result (subst (λ (job : Job). TriesCall c.args.seat.now c.apply.new.seat job.key c.args.call c.apply.result) c.job.view_is c.apply.ensures.applied) c.in-Answered.is
    c.requires.call c.settled_with.ensures
