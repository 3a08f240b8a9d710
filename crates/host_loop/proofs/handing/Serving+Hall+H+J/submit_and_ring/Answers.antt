use Rattle.std.proofs.Common.{[], sym, subst}
use Rattle.machine_model.specs.HallState.{key_of}
use Rattle.machine_model.specs.SeenHall.{filled}
use Rattle.loop_conns.specs.Going.{AllHandOut}
use Rattle.host_loop.proofs.Keeping.{some_goes_on, may_submit_here, serves_taken, halts_refused}
use Rattle.host_loop.proofs.handing.Serving+Hall+H+J.submit_and_ring.Goals as goal

pub give-i-requires-clause-under_way : goal.give-i-requires-clause-under_way
give-i-requires-clause-under_way g c = (g.L.Links.state c.requires.serving.0, some_goes_on _ _ _ _ _ _ _ _ c.requires.serving.1)

pub submit-requires-clause-seat : goal.submit-requires-clause-seat
submit-requires-clause-seat g c κs within = c.requires.serving.1.place

pub submit-requires-clause-hall : goal.submit-requires-clause-hall
submit-requires-clause-hall g c κs within = c.requires.serving.1.opened.newly

pub submit-requires-clause-zeroth : goal.submit-requires-clause-zeroth
submit-requires-clause-zeroth g c κs within = c.requires.serving.1.zeroth

pub submit-requires-clause-may : goal.submit-requires-clause-may
submit-requires-clause-may g c κs within = may_submit_here _ _ _ _ _ _ _ _ c.requires.serving.1 c.give-i.new.self (key_of c.args.c c.give-i.result.0) c.new.result (subst (AllHandOut c.args.self.now.conns c.give-i.new.self (key_of c.args.c c.give-i.result.0)) (sym c.new.ensures) c.give-i.ensures.handed) c.give-i.ensures.budget (filled c.args.run.now.booth.now.opening [])

pub returns-then-not-submit : goal.returns-then-not-submit
returns-then-not-submit g c = record { kept = λ links s. halts_refused _ _ _ _ _ _ _ _ s c.give-i.new.self (key_of c.args.c c.give-i.result.0) c.new.result (subst (AllHandOut c.args.self.now.conns c.give-i.new.self (key_of c.args.c c.give-i.result.0)) (sym c.new.ensures) c.give-i.ensures.handed) c.give-i.ensures.budget c.submit.new.seat c.submit.result c.submit.ensures.submitted c.submit.ensures.seat c.submit.ensures.zeroth c.if-not-submit.true }

pub returns : goal.returns
returns g c = record { kept = λ links s. serves_taken _ _ _ _ _ _ _ _ s c.give-i.new.self (key_of c.args.c c.give-i.result.0) c.new.result (subst (AllHandOut c.args.self.now.conns c.give-i.new.self (key_of c.args.c c.give-i.result.0)) (sym c.new.ensures) c.give-i.ensures.handed) c.give-i.ensures.budget c.submit.new.seat c.submit.result c.submit.ensures.submitted c.submit.ensures.seat c.submit.ensures.zeroth c.if-not-submit.false c.submit.ensures.own }
