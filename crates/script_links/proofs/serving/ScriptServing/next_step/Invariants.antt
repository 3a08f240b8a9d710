use Rattle.std.proofs.Common.{◌≡◌, length}
use Rattle.script_links.specs.Plain.{next_step}
use Rattle.script_links.specs.Kept.{served_of, IsKeptServing}
use Rattle.script_links.proofs.serving.ScriptServing.next_step.Given as goal

abbrev pub invariant-steps : goal.invariant-steps
invariant-steps l = IsKeptServing l.self × (next_step l.ask (served_of l.self) ≡ next_step l.ask (served_of l.initial.self))

abbrev pub decreases-steps : goal.decreases-steps
decreases-steps l = length (served_of l.self).steps
