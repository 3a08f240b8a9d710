use Rattle.std.proofs.Common.{◌≡◌, ℕ, ◌<◌, true, length, sym, ap, ◌∙◌, subst}
use Rattle.script_links.specs.ServedScript.{ServedScript, link_at, is_open_at, is_sound_link}
use Rattle.script_links.specs.Kept.{served_of}
use Rattle.script_links.specs.Shown.{links_told}
use Rattle.script_links.proofs.Connected.{open_is_there}
use Rattle.script_links.proofs.Keeping.{sound_at}
use Rattle.outside.specs.Closing.{Closes}
use Rattle.script_links.proofs.Telling.{closes}
use Rattle.script_links.specs.Kept.{IsOverAtEnd}
use Rattle.script_links.specs.Followed.{plan_of_links}
use Rattle.script_links.proofs.FollowedToEnd.{close_on, plan_kept, close_keeps}
use Rattle.script_links.proofs.over_script.ScriptLinksLinks.close.Goals as goal

pub close-requires-clause-open_still : goal.close-requires-clause-open_still
close-requires-clause-open_still c = ap (λ (x : ServedScript). is_open_at x.links c.args.c) c.self.view_is ∙ c.requires

pub returns-clause-closes : goal.returns-clause-closes
returns-clause-closes c =
    let s : ServedScript = served_of c.self.inside.serving in
    let here : is_open_at s.links c.args.c ≡ true = ap (λ (x : ServedScript). is_open_at x.links c.args.c) c.self.view_is ∙ c.requires in
    subst (λ (x : ServedScript). Closes c.args.c (links_told x) (links_told (served_of c.close.new.self))) c.self.view_is
    (subst (λ (x : ServedScript). Closes c.args.c (links_told s) (links_told x)) (sym c.close.ensures.after) (closes c.args.c s here))

pub invariant_of-self : goal.invariant_of-self
invariant_of-self c =
    let s : ServedScript = served_of c.self.inside.serving in
    let here : is_open_at s.links c.args.c ≡ true = ap (λ (x : ServedScript). is_open_at x.links c.args.c) c.self.view_is ∙ c.requires in
    (c.close.ensures.kept, subst IsOverAtEnd (sym c.close.ensures.after) c.self.invariant.1, close_on s (served_of c.close.new.self) c.self.invariant.2 c.args.c here c.close.ensures.after)

pub returns-clause-same_plan : goal.returns-clause-same_plan
returns-clause-same_plan c =
    let s : ServedScript = served_of c.self.inside.serving in
    let here : is_open_at s.links c.args.c ≡ true = ap (λ (x : ServedScript). is_open_at x.links c.args.c) c.self.view_is ∙ c.requires in
    ap plan_of_links c.close.ensures.after ∙ plan_kept s _ (close_keeps s c.args.c here) ∙ ap plan_of_links c.self.view_is
