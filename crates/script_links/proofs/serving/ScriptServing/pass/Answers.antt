use Rattle.std.proofs.Common.{◌≡◌, ℕ, suc, ◌+◌, ◌*◌, ◌<◌, ◌≤◌, true, false, List, [], ◌∷◌, length, drop, refl, sym, ap, ◌∙◌, subst, arith, add-one}
use Rattle.std.specs.Vec.{vec_capacity}
use Rattle.script_links.specs.Kept.{served_of, plain_links}
use Rattle.script_links.specs.declared.step.Came.TheVariants.{GoesOn}
use Rattle.script_links.proofs.Connected.{drop_on}
use Rattle.script_links.proofs.Keeping.{same_room, passed_rests}
use Rattle.script_links.proofs.serving.ScriptServing.pass.Goals as goal

pub returns-clause-next : goal.returns-clause-next
returns-clause-next c = λ i. record { came = GoesOn; left = record (served_of c.args.self.now) { steps = drop_on c.args.self.now.done c.args.self.now.steps.items i } }

pub returns-clause-kept : goal.returns-clause-kept
returns-clause-kept c =
    same_room _ _ (served_of c.args.self.now) _ c.requires.kept c.args.self.now.tape.capacity (omega arith) refl refl refl
    (passed_rests c.args.self.now.done c.args.self.now.steps.items)
