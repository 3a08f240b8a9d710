use Rattle.std.proofs.Common.{subst}
use Rattle.host_loop.specs.Asked.{CollectsOutcome}
use Rattle.host_loop.proofs.Keeping.{is_collected, serves_settled, serves_behind_none, halts_at_collect}
use Rattle.host_loop.proofs.collecting.Serving+Hall+H+J.collect.Goals as goal

pub collect-requires-clause-seat : goal.collect-requires-clause-seat
collect-requires-clause-seat g c κs within = c.requires.serving.place

pub collect-requires-clause-hall : goal.collect-requires-clause-hall
collect-requires-clause-hall g c κs within = c.requires.serving.opened.newly

pub collect-requires-clause-zeroth : goal.collect-requires-clause-zeroth
collect-requires-clause-zeroth g c κs within = c.requires.serving.zeroth

pub settle-requires-clause-collected : goal.settle-requires-clause-collected
settle-requires-clause-collected g c κs within = is_collected _ _ _ _ _ _ _ _ c.requires.serving c.collect.new.seat c.in-Outcome.key c.in-Outcome.settled (subst (CollectsOutcome c.args.self.now.seat c.collect.new.seat) c.in-Outcome.is c.collect.ensures.collected) c.collect.ensures.own

pub returns-in-Outcome-clause-serving : goal.returns-in-Outcome-clause-serving
returns-in-Outcome-clause-serving g c = serves_settled _ _ _ _ _ _ _ _ c.requires.serving c.collect.new.seat c.in-Outcome.key c.in-Outcome.settled (subst (CollectsOutcome c.args.self.now.seat c.collect.new.seat) c.in-Outcome.is c.collect.ensures.collected) c.collect.ensures.own (g.L.Links.state c.settle.new.links) c.settle.new.self c.settle.ensures.going c.settle.ensures.budget c.collect.ensures.seat c.collect.ensures.zeroth

pub returns-in-Empty-clause-serving : goal.returns-in-Empty-clause-serving
returns-in-Empty-clause-serving g c = serves_behind_none _ _ _ _ _ _ _ _ c.requires.serving c.collect.new.seat (subst (CollectsOutcome c.args.self.now.seat c.collect.new.seat) c.in-Empty.is c.collect.ensures.collected) c.collect.ensures.seat c.collect.ensures.zeroth c.collect.ensures.own

pub returns-in-Closed-clause-halted : goal.returns-in-Closed-clause-halted
returns-in-Closed-clause-halted g c = halts_at_collect _ _ _ _ _ _ _ _ c.requires.serving c.collect.new.seat (subst (CollectsOutcome c.args.self.now.seat c.collect.new.seat) c.in-Closed.is c.collect.ensures.collected) c.collect.ensures.seat c.collect.ensures.zeroth
