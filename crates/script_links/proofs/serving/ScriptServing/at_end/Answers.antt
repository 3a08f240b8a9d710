use Rattle.std.proofs.Common.{◌≡◌, ℕ, suc, ◌+◌, ◌*◌, ◌<◌, ◌≤◌, true, false, List, [], ◌∷◌, length, drop, refl, sym, ap, ◌∙◌, subst, arith, add-one}
use Rattle.std.specs.Vec.{vec_capacity}
use Rattle.script_links.specs.Kept.{served_of, plain_links}
use Rattle.outside.specs.declared.answers.Hint.TheVariants.{Over}
use Rattle.script_links.specs.declared.step.Came.TheVariants.{Gives, Waits}
use Rattle.script_links.specs.Plain.{is_open_link}
use Rattle.script_links.proofs.Connected.{any_plain}
use Rattle.script_links.proofs.Stepping.{ends_over, ends_waiting}
use Rattle.script_links.proofs.serving.ScriptServing.at_end.Goals as goal

pub returns-then-some_open-clause-next : goal.returns-then-some_open-clause-next
returns-then-some_open-clause-next c =
    ends_waiting (served_of c.args.self.now) (sym (any_plain is_open_link c.args.self.now.links.items.items) ∙ sym c.some_open.ensures ∙ c.if-some_open.true)

pub returns-clause-next : goal.returns-clause-next
returns-clause-next c =
    ends_over (served_of c.args.self.now) (sym (any_plain is_open_link c.args.self.now.links.items.items) ∙ sym c.some_open.ensures ∙ c.if-some_open.false)
