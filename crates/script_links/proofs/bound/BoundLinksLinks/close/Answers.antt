use Rattle.std.proofs.Common.{◌≡◌, ◌≤◌, true, length, sym, ap, ◌∙◌, subst}
use Rattle.outside.specs.LinksState.{Listening}
use Rattle.outside.specs.Closing.{Closes}
use Rattle.script_links.specs.ServedScript.{ServedScript, is_open_at}
use Rattle.script_links.specs.Plain.{left_by_close}
use Rattle.script_links.specs.Kept.{served_of, IsOverAtEnd}
use Rattle.script_links.specs.Shown.{links_told}
use Rattle.script_links.specs.Followed.{plan_of_links}
use Rattle.script_links.specs.Listens.{ListeningScript, told_listening, listening_told, listening_with, plan_of_listening}
use Rattle.script_links.proofs.Telling as telling
use Rattle.script_links.proofs.FollowedToEnd.{close_keeps, plan_kept}
use Rattle.script_links.proofs.Listening.{closes, still_few}
use Rattle.script_links.proofs.bound.BoundLinksLinks.close.Goals as goal

pub close-requires-clause-open_still : goal.close-requires-clause-open_still
close-requires-clause-open_still c = ap (λ (x : ListeningScript). is_open_at x.served.links c.args.c) c.self.view_is ∙ c.requires

pub returns-clause-closes : goal.returns-clause-closes
returns-clause-closes c =
    let s : ServedScript = served_of c.self.inside.serving in
    let l : Listening = record { port = c.self.inside.port; accept = c.self.inside.accept } in
    let here : is_open_at s.links c.args.c ≡ true = ap (λ (x : ListeningScript). is_open_at x.served.links c.args.c) c.self.view_is ∙ c.requires in
    subst (λ (x : ListeningScript). Closes c.args.c (listening_told x) (told_listening l c.self.inside.net_faults (served_of c.close.new.self))) c.self.view_is
    (closes l c.self.inside.net_faults s (served_of c.close.new.self) c.args.c
    (subst (λ (x : ServedScript). Closes c.args.c (links_told s) (links_told x)) (sym c.close.ensures.after) (telling.closes c.args.c s here)))

pub invariant_of-self : goal.invariant_of-self
invariant_of-self c =
    let s : ServedScript = served_of c.self.inside.serving in
    let here : is_open_at s.links c.args.c ≡ true = ap (λ (x : ListeningScript). is_open_at x.served.links c.args.c) c.self.view_is ∙ c.requires in (
      c.close.ensures.kept,
      subst IsOverAtEnd (sym c.close.ensures.after) c.self.invariant.1,
      subst (λ (x : ServedScript). length x.links ≤ c.self.inside.accept) (sym c.close.ensures.after) (still_few c.self.inside.accept s _ (close_keeps s c.args.c here) c.self.invariant.2),
    )

pub returns-clause-same_plan : goal.returns-clause-same_plan
returns-clause-same_plan c =
    let s : ServedScript = served_of c.self.inside.serving in
    let here : is_open_at s.links c.args.c ≡ true = ap (λ (x : ListeningScript). is_open_at x.served.links c.args.c) c.self.view_is ∙ c.requires in
    ap plan_of_links c.close.ensures.after ∙ plan_kept s _ (close_keeps s c.args.c here) ∙ ap plan_of_listening c.self.view_is

pub returns-clause-after : goal.returns-clause-after
returns-clause-after c =
    let l : Listening = record { port = c.self.inside.port; accept = c.self.inside.accept } in
    let own : ListeningScript = record { served = served_of c.self.inside.serving; listening = l; plan = c.self.inside.failing; net_faults = c.self.inside.net_faults } in
    ap (λ (u : ServedScript). listening_with own u) c.close.ensures.after ∙ ap (λ (x : ListeningScript). listening_with x (left_by_close c.args.c x.served)) c.self.view_is
