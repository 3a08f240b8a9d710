use Rattle.std.proofs.Common.{◌≡◌, ◌≤◌, ◌*◌, ℕ, List, length, refl, ◌∙◌, subst, sym}
use Rattle.std.proofs.lemmas.List.{length-map}
use Rattle.std.specs.List.{count_by}
use Rattle.std.specs.Vec.{vec_capacity}
use Rattle.script_links.specs.declared.step.Step.{Step}
use Rattle.script_links.specs.Steps.{is_rest}
use Rattle.script_links.specs.Kept.{plain_link}
use Rattle.script_links.proofs.Beginning.{begins, begins_with_room, are_links}
use Rattle.script_links.proofs.Firsts.{untouched, untouched_follow}
use Rattle.script_links.proofs.serving.ScriptServing.new.Goals as goal

pub returns-clause-fresh : goal.returns-clause-fresh
returns-clause-fresh c =
    begins c.args.script _ c.in_ok-steps.ensures.steps refl c.in_ok-steps.ensures.links (length-map c.in_ok-steps.links.items.items plain_link ∙ c.in_ok-steps.ensures.count) refl
    c.new.ensures.items refl c.in_ok-tape.ensures.no_marks c.in_ok-tape.ensures.no_rests c.new-2.ensures.items

pub returns-clause-own : goal.returns-clause-own
returns-clause-own c = are_links c.args.script _ (c.scripts_are_sound.ensures.sound c.args.script c.lines.ensures.sound) (returns-clause-fresh c)

pub returns-clause-follows : goal.returns-clause-follows
returns-clause-follows c = λ script own. untouched_follow script _ (untouched c.args.script _ (returns-clause-fresh c)) own

pub returns-clause-kept : goal.returns-clause-kept
returns-clause-kept c =
    let long = length-map c.in_ok-steps.links.items.items plain_link in
    begins_with_room c.args.script _ c.in_ok-tape.tape.capacity (vec_capacity c.in_ok-tape.rests) (c.scripts_are_sound.ensures.sound c.args.script c.lines.ensures.sound)
    c.in_ok-steps.ensures.links (long ∙ c.in_ok-steps.ensures.count) c.in_ok-tape.ensures.no_marks c.in_ok-tape.ensures.no_rests
    (subst (λ (n : ℕ). 3 * n ≤ c.in_ok-tape.tape.capacity) (sym long) c.in_ok-tape.ensures.marks)
    (subst (λ (steps : List Step). count_by is_rest steps ≤ vec_capacity c.in_ok-tape.rests) c.as_slice.ensures.value c.in_ok-tape.ensures.rests)
