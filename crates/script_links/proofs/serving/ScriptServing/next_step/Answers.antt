use Rattle.std.proofs.Common.{◌∙◌, sym}
use Rattle.script_links.specs.Kept.{served_of}
use Rattle.script_links.proofs.Going.{at_last}
use Rattle.script_links.proofs.serving.ScriptServing.next_step.Goals as goal

pub returns-clause-next : goal.returns-clause-next
returns-clause-next c =
    sym c.steps.invariant.1 ∙ at_last c.args.ask (served_of c.steps.self) (c.first_step.ensures ∙ c.in_default.is) ∙ c.at_end.ensures.next
