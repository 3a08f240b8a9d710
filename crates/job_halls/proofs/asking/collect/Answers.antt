use Rattle.std.proofs.Common.{sym, subst}
use Rattle.seat_booth.specs.Seats.{MakesCall}
use Rattle.job_halls.specs.Asking.{GainsOutcome}
use Rattle.job_halls.proofs.asking.collect.Goals as goal

pub call-reply-requires-clause-may : goal.call-reply-requires-clause-may
call-reply-requires-clause-may g c =
    subst (λ op. g.O.Object.may c.args.booth.now.opening c.args.seat.now.number c.args.seat.now.mine op) (sym c.collect_op-op.ensures)
    (subst (λ n. g.O.Object.may c.args.booth.now.opening n c.args.seat.now.mine (g.O.JobHall.the_collect c.args.side)) (sym c.requires.own)
    (g.met.O.JobHall.may_collect c.args.side c.args.booth.now.opening c.args.seat.now.mine c.requires.hall))

pub returns-clause-fits : goal.returns-clause-fits
returns-clause-fits g c =
    (g.met.O.JobHall.collects c.args.side c.args.booth.now c.args.seat.now c.call-reply.new.seat c.call-reply.result c.requires.hall c.requires.own c.requires.fits
    (subst (λ op. MakesCall g.O.Object.gives g.O.Object.may c.args.booth.now c.args.seat.now op c.call-reply.result c.call-reply.new.seat) c.collect_op-op.ensures c.call-reply.ensures.call)).1

pub returns-clause-collected : goal.returns-clause-collected
returns-clause-collected g c =
    subst (GainsOutcome (g.O.JobHall.asks c.args.side c.args.seat.now.mine) (g.O.JobHall.asks c.args.side c.call-reply.new.seat.mine)) (sym c.collected.ensures)
    (g.met.O.JobHall.collects c.args.side c.args.booth.now c.args.seat.now c.call-reply.new.seat c.call-reply.result c.requires.hall c.requires.own c.requires.fits
    (subst (λ op. MakesCall g.O.Object.gives g.O.Object.may c.args.booth.now c.args.seat.now op c.call-reply.result c.call-reply.new.seat) c.collect_op-op.ensures c.call-reply.ensures.call)).0

pub returns-clause-own : goal.returns-clause-own
returns-clause-own g c =
    g.met.O.JobHall.its_own c.args.side c.args.booth.now c.args.seat.now c.call-reply.new.seat c.collect_op-op.result c.call-reply.result c.requires.hall c.requires.own c.call-reply.ensures.call
