use Rattle.conn_table.specs.declared.run_limits.Outcome.TheVariants.{NoMemory}
use Rattle.host_loop.proofs.Keeping.{some_goes_on, serves_on_all, halts}
use Rattle.host_loop.proofs.visits.Serving+Hall+H+J.admit.Goals as goal

pub admit-requires-clause-under_way : goal.admit-requires-clause-under_way
admit-requires-clause-under_way g c κs within = some_goes_on _ _ _ _ _ _ _ _ c.requires.serving

pub returns-in-Admitted-clause-serving : goal.returns-in-Admitted-clause-serving
returns-in-Admitted-clause-serving g c = serves_on_all _ _ _ _ _ _ _ _ c.requires.serving (g.L.Links.state c.admit.new.links) c.admit.new.self c.admit.ensures.going c.admit.ensures.budget

pub returns-in-Ok-clause-serving : goal.returns-in-Ok-clause-serving
returns-in-Ok-clause-serving g c = serves_on_all _ _ _ _ _ _ _ _ c.requires.serving (g.L.Links.state c.admit.new.links) c.admit.new.self c.admit.ensures.going c.admit.ensures.budget

pub returns-in-Err-clause-halted : goal.returns-in-Err-clause-halted
returns-in-Err-clause-halted g c = halts _ _ _ _ _ _ _ _ (serves_on_all _ _ _ _ _ _ _ _ c.requires.serving (g.L.Links.state c.admit.new.links) c.admit.new.self c.admit.ensures.going c.admit.ensures.budget) NoMemory tt

pub returns-in-Over-clause-serving : goal.returns-in-Over-clause-serving
returns-in-Over-clause-serving g c = serves_on_all _ _ _ _ _ _ _ _ c.requires.serving (g.L.Links.state c.admit.new.links) c.admit.new.self c.admit.ensures.going c.admit.ensures.budget
