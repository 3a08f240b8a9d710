use Rattle.std.proofs.Common.{◌≡◌, ℕ, ◌<◌, true, length, sym, ap, ◌∙◌, subst}
use Rattle.script_links.specs.ServedScript.{ServedScript, link_at, is_open_at, is_sound_link}
use Rattle.script_links.specs.Kept.{served_of}
use Rattle.script_links.specs.Shown.{links_told}
use Rattle.script_links.proofs.Connected.{open_is_there}
use Rattle.script_links.proofs.Keeping.{sound_at}
use Rattle.std.proofs.Common.{Ok}
use Rattle.streams.specs.declared.streams.Failed.{Failed}
use Rattle.outside.specs.declared.answers.Hint.{Hint}
use Rattle.outside.specs.Asking.{AnswersAsk}
use Rattle.script_links.specs.Plain.{Next, next_of, hint_of}
use Rattle.script_links.specs.Kept.{IsOverAtEnd}
use Rattle.script_links.proofs.Hinting.{next_answers, next_over, answers_hint}
use Rattle.script_links.specs.Followed.{plan_of_links}
use Rattle.script_links.proofs.FollowedToEnd.{next_on, plan_kept, next_keeps}
use Rattle.script_links.proofs.over_script.ScriptLinksLinks.next.Goals as goal

pub invariant_of-self : goal.invariant_of-self
invariant_of-self g c = (
  c.next-came.ensures.kept,
  subst (λ (n : Next). IsOverAtEnd n.left) c.next-came.ensures.next (next_over c.args.ask (served_of c.self.inside.serving) c.self.invariant.1),
  next_on (served_of c.self.inside.serving) (served_of c.next-came.new.self) c.self.invariant.2 c.args.ask (sym (ap (λ (n : Next). n.left) c.next-came.ensures.next)),
)

pub returns-clause-answers : goal.returns-clause-answers
returns-clause-answers g c =
    let s : ServedScript = served_of c.self.inside.serving in
    let next : Next = next_of c.args.ask s in
    let own : AnswersAsk {E = Failed} c.args.ask (links_told s) (links_told next.left) (Ok (hint_of next.came)) =
    answers_hint c.args.ask s next.came next.left (next_answers c.args.ask s c.self.invariant.1 c.self.invariant.0.few) in
    subst (λ (h : Hint). AnswersAsk {E = Failed} c.args.ask (links_told c.args.self.now) (links_told (served_of c.next-came.new.self)) (Ok h)) (sym c.told.ensures)
    (subst (λ (x : ServedScript). AnswersAsk {E = Failed} c.args.ask (links_told x) (links_told (served_of c.next-came.new.self)) (Ok (hint_of c.next-came.result))) c.self.view_is
    (subst (λ (n : Next). AnswersAsk {E = Failed} c.args.ask (links_told s) (links_told n.left) (Ok (hint_of n.came))) c.next-came.ensures.next own))

pub returns-clause-same_plan : goal.returns-clause-same_plan
returns-clause-same_plan g c =
    ap plan_of_links (sym (ap (λ (n : Next). n.left) c.next-came.ensures.next)) ∙ plan_kept (served_of c.self.inside.serving) _ (next_keeps c.args.ask (served_of c.self.inside.serving)) ∙ ap plan_of_links c.self.view_is
