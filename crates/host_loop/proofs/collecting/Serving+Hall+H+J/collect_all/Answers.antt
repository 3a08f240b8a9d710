use Rattle.std.proofs.Common.{◌∙◌}
use Rattle.host_loop.proofs.collecting.Serving+Hall+H+J.collect_all.Goals as goal

pub loop-preserved : goal.loop-preserved
loop-preserved g c = record { serving = c.in-Ok-true.ensures.serving; plan = c.collect_next.ensures.plan ∙ c.loop.invariant.plan }

pub returns-in-Ok-false-clause-serving : goal.returns-in-Ok-false-clause-serving
returns-in-Ok-false-clause-serving g c = c.in-Ok-false.ensures.serving

pub returns-in-Ok-false-clause-plan : goal.returns-in-Ok-false-clause-plan
returns-in-Ok-false-clause-plan g c = c.collect_next.ensures.plan ∙ c.loop.invariant.plan

pub returns-in-Err-clause-halted : goal.returns-in-Err-clause-halted
returns-in-Err-clause-halted g c = c.in-Err.ensures.halted

pub returns-in-Err-clause-plan : goal.returns-in-Err-clause-plan
returns-in-Err-clause-plan g c = c.collect_next.ensures.plan ∙ c.loop.invariant.plan
