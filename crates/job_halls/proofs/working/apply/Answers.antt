use Rattle.std.proofs.Common.{sym, subst}
use Rattle.seat_booth.specs.Seats.{MakesCall}
use Rattle.job_halls.specs.Working.{AppliesCall}
use Rattle.job_halls.proofs.working.apply.Goals as goal

pub call-reply-requires-clause-may : goal.call-reply-requires-clause-may
call-reply-requires-clause-may g c =
    subst (λ op. g.O.Object.may c.args.booth.now.opening c.args.seat.now.number c.args.seat.now.mine op) (sym c.apply_op-op.ensures) c.requires.may

pub returns-clause-applied : goal.returns-clause-applied
returns-clause-applied g c =
    subst (AppliesCall (g.O.JobHall.worker_asks c.args.seat.now.mine) (g.O.JobHall.worker_asks c.call-reply.new.seat.mine) c.args.key c.args.call) (sym c.tried.ensures)
    (g.met.O.JobHall.applies c.args.booth.now c.args.seat.now c.call-reply.new.seat c.args.key c.args.call c.call-reply.result
    (subst (λ op. MakesCall g.O.Object.gives g.O.Object.may c.args.booth.now c.args.seat.now op c.call-reply.result c.call-reply.new.seat) c.apply_op-op.ensures c.call-reply.ensures.call))

pub returns-clause-held : goal.returns-clause-held
returns-clause-held g c = λ held settled may.
    subst (λ n. g.O.Object.may c.args.booth.now.opening n c.call-reply.new.seat.mine (g.O.JobHall.the_put held settled)) (sym c.call-reply.ensures.number)
    (g.met.O.JobHall.still_held c.args.booth.now c.args.seat.now c.call-reply.new.seat c.args.key c.args.call c.call-reply.result held settled
    (subst (λ op. MakesCall g.O.Object.gives g.O.Object.may c.args.booth.now c.args.seat.now op c.call-reply.result c.call-reply.new.seat) c.apply_op-op.ensures c.call-reply.ensures.call) may)
