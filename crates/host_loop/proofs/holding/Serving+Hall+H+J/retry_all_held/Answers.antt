use Rattle.std.proofs.Common.{◌∙◌, subst}
use Rattle.host_loop.specs.Held.{IsToldHeld}
use Rattle.host_loop.proofs.holding.Serving+Hall+H+J.retry_all_held.Goals as goal

pub loop-preserved : goal.loop-preserved
loop-preserved g c = record { serving = c.in-Ok-None.ensures.serving; plan = c.retry_held.ensures.plan ∙ c.loop.invariant.plan }

pub returns-in-Ok-Some-clause-serving : goal.returns-in-Ok-Some-clause-serving
returns-in-Ok-Some-clause-serving g c = c.in-Ok-Some.ensures.serving

pub returns-in-Ok-Some-clause-plan : goal.returns-in-Ok-Some-clause-plan
returns-in-Ok-Some-clause-plan g c = c.retry_held.ensures.plan ∙ c.loop.invariant.plan

pub returns-in-Ok-Some-clause-held : goal.returns-in-Ok-Some-clause-held
returns-in-Ok-Some-clause-held g c = subst (IsToldHeld c.retry_held.new.self.conns) c.in-Ok-Some.field-0-is c.in-Ok-Some.ensures.held

pub returns-in-Err-clause-halted : goal.returns-in-Err-clause-halted
returns-in-Err-clause-halted g c = c.in-Err.ensures.halted

pub returns-in-Err-clause-plan : goal.returns-in-Err-clause-plan
returns-in-Err-clause-plan g c = c.retry_held.ensures.plan ∙ c.loop.invariant.plan
