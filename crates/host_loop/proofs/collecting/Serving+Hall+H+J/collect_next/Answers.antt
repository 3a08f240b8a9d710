use Rattle.std.proofs.Common.{◌∙◌}
use Rattle.host_loop.proofs.HandedOn.{same_fault}
use Rattle.host_loop.proofs.collecting.Serving+Hall+H+J.collect_next.Goals as goal

pub make_turn-requires-clause-serving : goal.make_turn-requires-clause-serving
make_turn-requires-clause-serving g c κs within = (c.args.links.now, c.requires.serving)

pub collect-requires-clause-serving : goal.collect-requires-clause-serving
collect-requires-clause-serving g c κs within = c.in_ok-make_turn.ensures.kept c.args.links.now c.requires.serving

pub visit-requires-clause-serving : goal.visit-requires-clause-serving
visit-requires-clause-serving g c κs within = c.in_ok-c.ensures.serving

pub retry_all_held-requires-clause-serving : goal.retry_all_held-requires-clause-serving
retry_all_held-requires-clause-serving g c κs within = c.in_ok-visit.ensures.serving

pub returns-in_err-make_turn-clause-halted : goal.returns-in_err-make_turn-clause-halted
returns-in_err-make_turn-clause-halted g c = same_fault c.from_residual.result _ c.in_err-make_turn.field-0.0 c.from_residual.ensures.1 (c.in_err-make_turn.ensures.kept c.args.links.now c.requires.serving)

pub returns-in_err-c-clause-halted : goal.returns-in_err-c-clause-halted
returns-in_err-c-clause-halted g c = same_fault c.from_residual-in_err-c.result _ c.in_err-c.field-0.0 c.from_residual-in_err-c.ensures.1 c.in_err-c.ensures.halted

pub returns-in_default-clause-serving : goal.returns-in_default-clause-serving
returns-in_default-clause-serving g c = c.in_ok-c.ensures.serving

pub returns-in_err-visit-clause-halted : goal.returns-in_err-visit-clause-halted
returns-in_err-visit-clause-halted g c = same_fault c.from_residual-in_err-visit.result _ c.in_err-visit.field-0.0 c.from_residual-in_err-visit.ensures.1 c.in_err-visit.ensures.halted

pub returns-in_err-visit-clause-plan : goal.returns-in_err-visit-clause-plan
returns-in_err-visit-clause-plan g c = c.visit.ensures.plan ∙ c.collect.ensures.plan

pub returns-in_err-retry_all_held-clause-halted : goal.returns-in_err-retry_all_held-clause-halted
returns-in_err-retry_all_held-clause-halted g c = same_fault c.from_residual-in_err-retry_all_held.result _ c.in_err-retry_all_held.field-0.0 c.from_residual-in_err-retry_all_held.ensures.1 c.in_err-retry_all_held.ensures.halted

pub returns-in_err-retry_all_held-clause-plan : goal.returns-in_err-retry_all_held-clause-plan
returns-in_err-retry_all_held-clause-plan g c = c.retry_all_held.ensures.plan ∙ c.visit.ensures.plan ∙ c.collect.ensures.plan

pub returns-clause-serving : goal.returns-clause-serving
returns-clause-serving g c = c.in_ok-retry_all_held.ensures.serving

pub returns-clause-plan : goal.returns-clause-plan
returns-clause-plan g c = c.retry_all_held.ensures.plan ∙ c.visit.ensures.plan ∙ c.collect.ensures.plan
