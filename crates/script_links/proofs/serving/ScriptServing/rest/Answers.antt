use Rattle.std.proofs.Common.{◌≡◌, ℕ, suc, ◌+◌, ◌*◌, ◌<◌, ◌≤◌, true, false, List, [], ◌∷◌, length, drop, refl, sym, ap, ◌∙◌, subst, arith, add-one}
use Rattle.std.specs.Vec.{vec_capacity}
use Rattle.script_links.specs.Kept.{served_of, plain_links}
use Rattle.std.proofs.Common.{◌++◌}
use Rattle.std.specs.List.{count_by}
use Rattle.streams.specs.declared.marks.Mark.{Mark}
use Rattle.script_links.specs.declared.step.Came.TheVariants.{GoesOn, Waits}
use Rattle.script_links.specs.ServedScript.{ServedScript}
use Rattle.script_links.specs.Steps.{is_rest}
use Rattle.script_links.proofs.Connected.{drop_on}
use Rattle.script_links.proofs.Stepping.{rest_passes}
use Rattle.script_links.proofs.Keeping.{rested_room, rests_less}
use Rattle.script_links.proofs.serving.ScriptServing.rest.Goals as goal

pub push_reserved-requires : goal.push_reserved-requires
push_reserved-requires c =
    let s : ServedScript = served_of c.args.self.now in
    let less : count_by is_rest (drop 1 s.steps) + 1 ≡ count_by is_rest s.steps = rests_less s.steps c.requires.first in
    let fits : length s.rests + count_by is_rest s.steps ≤ vec_capacity c.args.self.now.rests = c.requires.kept.for_rests in
    omega arith

pub returns-clause-next : goal.returns-clause-next
returns-clause-next c =
    rest_passes c.args.ask (served_of c.args.self.now) (sym c.may_rest.ensures ∙ c.if-not-may_rest.false)
    ∙ (λ i. record {
      came = GoesOn;
      left = record (served_of c.args.self.now) {
        steps = drop_on c.args.self.now.done c.args.self.now.steps.items i;
        rests =
            sym (c.push_reserved.ensures.items
            ∙ ap (λ (n : ℕ). c.args.self.now.rests.items ++ record { place = n; held = c.args.ask.held } ∷ []) c.len.ensures) i;
      };
    })

pub returns-clause-kept : goal.returns-clause-kept
returns-clause-kept c =
    rested_room _ _ (served_of c.args.self.now) _ c.requires.kept (vec_capacity c.push_reserved.new.self) c.args.self.now.done c.args.self.now.steps.items refl
    c.requires.first _ c.push_reserved.ensures.items c.push_reserved.ensures.capacity refl refl refl
