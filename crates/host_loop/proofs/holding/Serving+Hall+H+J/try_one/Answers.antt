use Rattle.std.proofs.Common.{subst}
use Rattle.loop_conns.specs.Going.{AdmissionTells}
use Rattle.host_loop.proofs.Keeping.{some_goes_on, serves_on_all, is_there}
use Rattle.host_loop.proofs.holding.Serving+Hall+H+J.try_one.Goals as goal

pub admit-requires-clause-under_way : goal.admit-requires-clause-under_way
admit-requires-clause-under_way g c κs within = some_goes_on _ _ _ _ _ _ _ _ c.requires.serving

pub returns-in-Admitted-clause-serving : goal.returns-in-Admitted-clause-serving
returns-in-Admitted-clause-serving g c = serves_on_all _ _ _ _ _ _ _ _ c.requires.serving (g.L.Links.state c.admit.new.links) c.admit.new.self c.admit.ensures.going c.admit.ensures.budget

pub returns-in-Refused-clause-serving : goal.returns-in-Refused-clause-serving
returns-in-Refused-clause-serving g c = serves_on_all _ _ _ _ _ _ _ _ c.requires.serving (g.L.Links.state c.admit.new.links) c.admit.new.self c.admit.ensures.going c.admit.ensures.budget

pub returns-in-Refused-clause-found : goal.returns-in-Refused-clause-found
returns-in-Refused-clause-found g c = subst (AdmissionTells c.args.c c.admit.new.self) c.in-Refused.is c.admit.ensures.step

pub returns-in-Over-clause-serving : goal.returns-in-Over-clause-serving
returns-in-Over-clause-serving g c = serves_on_all _ _ _ _ _ _ _ _ c.requires.serving (g.L.Links.state c.admit.new.links) c.admit.new.self c.admit.ensures.going c.admit.ensures.budget

pub waits-requires : goal.waits-requires
waits-requires g c = is_there _ _ _ _ _ _ _ _ c.requires.serving c.args.c (c.is_open.ensures c.if-not-is_open.false)

pub admit-requires-clause-waits : goal.admit-requires-clause-waits
admit-requires-clause-waits g c κs within =
    (c.is_open.ensures c.if-not-is_open.false, c.waits.ensures c.if-not-waits.false)
