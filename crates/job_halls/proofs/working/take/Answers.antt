use Rattle.std.proofs.Common.{sym, subst}
use Rattle.seat_booth.specs.Seats.{MakesCall}
use Rattle.job_halls.specs.Working.{TakesJob, HoldsFound}
use Rattle.job_halls.proofs.working.take.Goals as goal

pub call-reply-requires-clause-may : goal.call-reply-requires-clause-may
call-reply-requires-clause-may g c =
    subst (λ op. g.O.Object.may c.args.booth.now.opening c.args.seat.now.number c.args.seat.now.mine op) (sym c.take_op-op.ensures)
    (g.met.O.JobHall.may_take c.args.booth.now.opening c.args.seat.now.number c.args.seat.now.mine c.requires.hall)

pub returns-clause-taken : goal.returns-clause-taken
returns-clause-taken g c =
    subst (TakesJob (g.O.JobHall.worker_asks c.args.seat.now.mine) (g.O.JobHall.worker_asks c.call-reply.new.seat.mine)) (sym c.taken.ensures)
    (g.met.O.JobHall.takes c.args.booth.now c.args.seat.now c.call-reply.new.seat c.call-reply.result c.requires.hall
    (subst (λ op. MakesCall g.O.Object.gives g.O.Object.may c.args.booth.now c.args.seat.now op c.call-reply.result c.call-reply.new.seat) c.take_op-op.ensures c.call-reply.ensures.call)).0

pub returns-clause-job : goal.returns-clause-job
returns-clause-job g c =
    subst (HoldsFound (g.O.Object.may c.args.booth.now.opening c.call-reply.new.seat.number c.call-reply.new.seat.mine) g.O.JobHall.the_apply g.O.JobHall.the_put (g.O.JobHall.slots c.args.booth.now.opening))
    (sym c.taken.ensures)
    (subst (λ n. HoldsFound (g.O.Object.may c.args.booth.now.opening n c.call-reply.new.seat.mine) g.O.JobHall.the_apply g.O.JobHall.the_put (g.O.JobHall.slots c.args.booth.now.opening)
    (g.O.JobHall.taken_of c.call-reply.result)) (sym c.call-reply.ensures.number)
    (g.met.O.JobHall.takes c.args.booth.now c.args.seat.now c.call-reply.new.seat c.call-reply.result c.requires.hall
    (subst (λ op. MakesCall g.O.Object.gives g.O.Object.may c.args.booth.now c.args.seat.now op c.call-reply.result c.call-reply.new.seat) c.take_op-op.ensures c.call-reply.ensures.call)).1)
