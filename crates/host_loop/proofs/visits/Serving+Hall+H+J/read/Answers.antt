use Rattle.std.proofs.Common.{◌∙◌, subst}
use Rattle.loop_conns.specs.Going.{ReadTells}
use Rattle.host_loop.proofs.HandedOn.{same_fault}
use Rattle.host_loop.proofs.Keeping.{goes_on, serves_on}
use Rattle.host_loop.proofs.visits.Serving+Hall+H+J.read.Goals as goal

pub read-requires-clause-under_way : goal.read-requires-clause-under_way
read-requires-clause-under_way g c κs within = goes_on _ _ _ _ _ _ _ _ c.requires.serving

pub read-requires-clause-small : goal.read-requires-clause-small
read-requires-clause-small g c κs within = c.requires.serving.small

pub admit-requires-clause-serving : goal.admit-requires-clause-serving
admit-requires-clause-serving g c κs within = serves_on _ _ _ _ _ _ _ _ c.requires.serving (g.L.Links.state c.read.new.links) c.read.new.conns c.read.ensures.going c.read.ensures.budget

pub admit-requires-clause-waits : goal.admit-requires-clause-waits
admit-requires-clause-waits g c κs within = subst (ReadTells c.args.c c.read.new.conns) c.in-Sized.is c.read.ensures.step

pub submit_and_ring-requires-clause-serving : goal.submit_and_ring-requires-clause-serving
submit_and_ring-requires-clause-serving g c κs within = (c.read.new.links, serves_on _ _ _ _ _ _ _ _ c.requires.serving (g.L.Links.state c.read.new.links) c.read.new.conns c.read.ensures.going c.read.ensures.budget)

pub submit_and_ring-requires-clause-open : goal.submit_and_ring-requires-clause-open
submit_and_ring-requires-clause-open g c κs within = (subst (ReadTells c.args.c c.read.new.conns) c.in-Whole.is c.read.ensures.step).0

pub submit_and_ring-requires-clause-whole : goal.submit_and_ring-requires-clause-whole
submit_and_ring-requires-clause-whole g c κs within = (subst (ReadTells c.args.c c.read.new.conns) c.in-Whole.is c.read.ensures.step).1

pub returns-in-More-clause-serving : goal.returns-in-More-clause-serving
returns-in-More-clause-serving g c = serves_on _ _ _ _ _ _ _ _ c.requires.serving (g.L.Links.state c.read.new.links) c.read.new.conns c.read.ensures.going c.read.ensures.budget

pub returns-in-Blocked-clause-serving : goal.returns-in-Blocked-clause-serving
returns-in-Blocked-clause-serving g c = serves_on _ _ _ _ _ _ _ _ c.requires.serving (g.L.Links.state c.read.new.links) c.read.new.conns c.read.ensures.going c.read.ensures.budget

pub returns-in-Over-clause-serving : goal.returns-in-Over-clause-serving
returns-in-Over-clause-serving g c = serves_on _ _ _ _ _ _ _ _ c.requires.serving (g.L.Links.state c.read.new.links) c.read.new.conns c.read.ensures.going c.read.ensures.budget

pub returns-in_ok-submit_and_ring-in-Whole-clause-serving : goal.returns-in_ok-submit_and_ring-in-Whole-clause-serving
returns-in_ok-submit_and_ring-in-Whole-clause-serving g c =
    c.in_ok-submit_and_ring-in-Whole.ensures.kept c.read.new.links
    (serves_on _ _ _ _ _ _ _ _ c.requires.serving (g.L.Links.state c.read.new.links) c.read.new.conns c.read.ensures.going c.read.ensures.budget)

pub returns-in-Sized-clause-serving : goal.returns-in-Sized-clause-serving
returns-in-Sized-clause-serving g c = c.admit.ensures.serving

pub returns-in-Sized-clause-halted : goal.returns-in-Sized-clause-halted
returns-in-Sized-clause-halted g c = c.admit.ensures.halted

pub returns-in-Sized-clause-plan : goal.returns-in-Sized-clause-plan
returns-in-Sized-clause-plan g c = c.admit.ensures.plan ∙ c.read.ensures.plan

pub returns-in_err-submit_and_ring-in-Whole-clause-halted : goal.returns-in_err-submit_and_ring-in-Whole-clause-halted
returns-in_err-submit_and_ring-in-Whole-clause-halted g c =
    same_fault c.from_residual.result _ c.in_err-submit_and_ring-in-Whole.field-0.0 c.from_residual.ensures.1
    (c.in_err-submit_and_ring-in-Whole.ensures.kept c.read.new.links
    (serves_on _ _ _ _ _ _ _ _ c.requires.serving (g.L.Links.state c.read.new.links) c.read.new.conns c.read.ensures.going c.read.ensures.budget))
