use Rattle.std.proofs.Common.{◌∙◌, subst}
use Rattle.host_loop.specs.Held.{FoundTells}
use Rattle.host_loop.proofs.holding.Serving+Hall+H+J.look.Goals as goal

pub try_one-requires-clause-serving : goal.try_one-requires-clause-serving
try_one-requires-clause-serving g c κs within = c.loop-at.invariant.serving

pub loop-at-preserved : goal.loop-at-preserved
loop-at-preserved g c =
    record {
      serving = c.try_one.ensures.serving;
      plan = c.try_one.ensures.plan ∙ c.loop-at.invariant.plan;
      held = λ _. (c.in-Some.field-0.now, subst (FoundTells c.in-Some.field-0.now c.try_one.new.self.conns) c.in-NoRoom.is c.try_one.ensures.found);
    }

pub returns-in-Admitted-clause-serving : goal.returns-in-Admitted-clause-serving
returns-in-Admitted-clause-serving g c = c.try_one.ensures.serving

pub returns-in-Admitted-clause-plan : goal.returns-in-Admitted-clause-plan
returns-in-Admitted-clause-plan g c = c.try_one.ensures.plan ∙ c.loop-at.invariant.plan

pub returns-in-Gone-clause-serving : goal.returns-in-Gone-clause-serving
returns-in-Gone-clause-serving g c = c.try_one.ensures.serving

pub returns-in-Gone-clause-plan : goal.returns-in-Gone-clause-plan
returns-in-Gone-clause-plan g c = c.try_one.ensures.plan ∙ c.loop-at.invariant.plan
