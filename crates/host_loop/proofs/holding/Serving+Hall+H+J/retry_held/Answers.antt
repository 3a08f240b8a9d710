use Rattle.std.proofs.Common.{◌∙◌, subst}
use Rattle.host_loop.specs.Held.{HeldLookTells}
use Rattle.host_loop.proofs.HandedOn.{same_fault}
use Rattle.host_loop.proofs.holding.Serving+Hall+H+J.retry_held.Goals as goal

pub visit-requires-clause-serving : goal.visit-requires-clause-serving
visit-requires-clause-serving g c κs within = c.look.ensures.serving

pub returns-in_err-visit-in-Admitted-clause-halted : goal.returns-in_err-visit-in-Admitted-clause-halted
returns-in_err-visit-in-Admitted-clause-halted g c = same_fault c.from_residual.result _ c.in_err-visit-in-Admitted.field-0.0 c.from_residual.ensures.1 c.in_err-visit-in-Admitted.ensures.halted

pub returns-in_err-visit-in-Admitted-clause-plan : goal.returns-in_err-visit-in-Admitted-clause-plan
returns-in_err-visit-in-Admitted-clause-plan g c = c.visit.ensures.plan ∙ c.look.ensures.plan

pub returns-in-Changed-clause-serving : goal.returns-in-Changed-clause-serving
returns-in-Changed-clause-serving g c = c.look.ensures.serving

pub returns-in-StillHeld-clause-serving : goal.returns-in-StillHeld-clause-serving
returns-in-StillHeld-clause-serving g c = c.look.ensures.serving

pub returns-in-StillHeld-clause-held : goal.returns-in-StillHeld-clause-held
returns-in-StillHeld-clause-held g c = subst (HeldLookTells c.look.new.self.conns) c.in-StillHeld.is c.look.ensures.look

pub returns-in_ok-visit-in-Admitted-clause-serving : goal.returns-in_ok-visit-in-Admitted-clause-serving
returns-in_ok-visit-in-Admitted-clause-serving g c = c.in_ok-visit-in-Admitted.ensures.serving

pub returns-in_ok-visit-in-Admitted-clause-plan : goal.returns-in_ok-visit-in-Admitted-clause-plan
returns-in_ok-visit-in-Admitted-clause-plan g c = c.visit.ensures.plan ∙ c.look.ensures.plan
