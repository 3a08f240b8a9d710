use Rattle.std.proofs.Common.{◌∙◌, IsErr, refl, sym, subst}
use Rattle.conn_table.specs.declared.run_limits.Outcome.TheVariants.{NoMemory}
use Rattle.host_loop.proofs.HandedOn.{same_fault}
use Rattle.host_loop.proofs.Keeping.{some_goes_on, serves_on_all, serves_alike, fails_on, halts}
use Rattle.host_loop.proofs.rounds.Serving+Hall+H+J.round.Goals as goal

pub next-requires-clause-under_way : goal.next-requires-clause-under_way
next-requires-clause-under_way g c κs within =
    some_goes_on _ _ _ _ _ _ _ _
    (serves_alike _ _ _ _ _ _ _ _ c.in_ok-held.ensures.serving c.make_place.new.self c.make_place.ensures.table c.make_place.ensures.stages c.make_place.ensures.causes c.make_place.ensures.owing)

pub follow-requires-clause-serving : goal.follow-requires-clause-serving
follow-requires-clause-serving g c κs within =
    serves_on_all _ _ _ _ _ _ _ _
    (serves_alike _ _ _ _ _ _ _ _ c.in_ok-held.ensures.serving c.make_place.new.self c.make_place.ensures.table c.make_place.ensures.stages c.make_place.ensures.causes c.make_place.ensures.owing)
    (g.L.Links.state c.next.new.links) c.next.new.self c.in-Ok-next.ensures.going c.next.ensures.budget

pub returns-in_default-make_place-clause-halted : goal.returns-in_default-make_place-clause-halted
returns-in_default-make_place-clause-halted g c =
    halts _ _ _ _ _ _ _ _
    (serves_alike _ _ _ _ _ _ _ _ c.in_ok-held.ensures.serving c.make_place.new.self c.make_place.ensures.table c.make_place.ensures.stages c.make_place.ensures.causes c.make_place.ensures.owing) NoMemory tt

pub returns-in-Err-clause-halted : goal.returns-in-Err-clause-halted
returns-in-Err-clause-halted g c =
    fails_on _ _ _ _ _ _ _ _
    (serves_alike _ _ _ _ _ _ _ _ c.in_ok-held.ensures.serving c.make_place.new.self c.make_place.ensures.table c.make_place.ensures.stages c.make_place.ensures.causes c.make_place.ensures.owing)
    (g.L.Links.state c.next.new.links) c.next.new.self c.in-Err.ensures.going c.next.ensures.budget (c.next.ensures.failed (subst IsErr (sym c.in-Err.is) refl))

pub retry_held-requires-clause-serving : goal.retry_held-requires-clause-serving
retry_held-requires-clause-serving g c κs within = c.in_ok-collect_alone.ensures.serving

pub returns-in_default-make_place-clause-plan : goal.returns-in_default-make_place-clause-plan
returns-in_default-make_place-clause-plan g c = c.retry_held.ensures.plan ∙ c.collect_alone.ensures.plan

pub returns-in-Err-clause-plan : goal.returns-in-Err-clause-plan
returns-in-Err-clause-plan g c = c.next.ensures.plan ∙ c.retry_held.ensures.plan ∙ c.collect_alone.ensures.plan

pub returns-in-Ok-next-clause-serving : goal.returns-in-Ok-next-clause-serving
returns-in-Ok-next-clause-serving g c = c.follow.ensures.serving

pub returns-in-Ok-next-clause-halted : goal.returns-in-Ok-next-clause-halted
returns-in-Ok-next-clause-halted g c = c.follow.ensures.halted

pub returns-in-Ok-next-clause-over : goal.returns-in-Ok-next-clause-over
returns-in-Ok-next-clause-over g c = c.follow.ensures.over

pub returns-in-Ok-next-clause-plan : goal.returns-in-Ok-next-clause-plan
returns-in-Ok-next-clause-plan g c = c.follow.ensures.plan ∙ c.next.ensures.plan ∙ c.retry_held.ensures.plan ∙ c.collect_alone.ensures.plan

pub returns-in_default-clause-serving : goal.returns-in_default-clause-serving
returns-in_default-clause-serving g c = c.in_ok-held.ensures.serving

pub returns-in_default-clause-plan : goal.returns-in_default-clause-plan
returns-in_default-clause-plan g c = c.retry_held.ensures.plan ∙ c.collect_alone.ensures.plan

pub returns-in_err-collect_alone-clause-halted : goal.returns-in_err-collect_alone-clause-halted
returns-in_err-collect_alone-clause-halted g c =
    same_fault c.from_residual.result _ c.in_err-collect_alone.field-0.0 c.from_residual.ensures.1 c.in_err-collect_alone.ensures.halted

pub returns-in_err-held-clause-halted : goal.returns-in_err-held-clause-halted
returns-in_err-held-clause-halted g c =
    same_fault c.from_residual-in_err-held.result _ c.in_err-held.field-0.0 c.from_residual-in_err-held.ensures.1 c.in_err-held.ensures.halted

pub returns-in_err-held-clause-plan : goal.returns-in_err-held-clause-plan
returns-in_err-held-clause-plan g c = c.retry_held.ensures.plan ∙ c.collect_alone.ensures.plan
