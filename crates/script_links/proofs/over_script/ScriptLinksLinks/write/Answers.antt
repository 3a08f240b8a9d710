use Rattle.std.proofs.Common.{◌≡◌, ℕ, ◌<◌, true, length, sym, ap, ◌∙◌, subst}
use Rattle.script_links.specs.ServedScript.{ServedScript, link_at, is_open_at, is_sound_link}
use Rattle.script_links.specs.Kept.{served_of}
use Rattle.script_links.specs.Shown.{links_told}
use Rattle.script_links.proofs.Connected.{open_is_there}
use Rattle.script_links.proofs.Keeping.{sound_at}
use Rattle.outside.specs.Writing.{WritesToConnection}
use Rattle.script_links.proofs.Telling.{writes}
use Rattle.script_links.specs.Followed.{plan_of_links}
use Rattle.script_links.proofs.FollowedToEnd.{write_on, write_over, plan_kept, write_keeps}
use Rattle.script_links.proofs.over_script.ScriptLinksLinks.write.Goals as goal

pub write-requires-clause-open_still : goal.write-requires-clause-open_still
write-requires-clause-open_still c = ap (λ (x : ServedScript). is_open_at x.links c.args.c) c.self.view_is ∙ c.requires.open_still

pub returns-clause-writes : goal.returns-clause-writes
returns-clause-writes c =
    let s : ServedScript = served_of c.self.inside.serving in
    let here : is_open_at s.links c.args.c ≡ true = ap (λ (x : ServedScript). is_open_at x.links c.args.c) c.self.view_is ∙ c.requires.open_still in
    let sound : is_sound_link (link_at s.links c.args.c) ≡ true = sound_at _ _ s c.args.c c.self.invariant.0 (open_is_there s.links c.args.c here) in
    subst (λ (x : ServedScript). WritesToConnection c.args.c c.args.bytes.now (links_told x) (links_told (served_of c.write.new.self)) c.write.result) c.self.view_is
    (subst (λ (x : ServedScript). WritesToConnection c.args.c c.args.bytes.now (links_told s) (links_told x) c.write.result) (sym c.write.ensures.after)
    (writes c.args.c c.args.bytes.now s here sound c.requires.some c.write.result c.write.ensures.comes))

pub invariant_of-self : goal.invariant_of-self
invariant_of-self c =
    let s : ServedScript = served_of c.self.inside.serving in
    let here : is_open_at s.links c.args.c ≡ true = ap (λ (x : ServedScript). is_open_at x.links c.args.c) c.self.view_is ∙ c.requires.open_still in
    let sound : is_sound_link (link_at s.links c.args.c) ≡ true = sound_at _ _ s c.args.c c.self.invariant.0 (open_is_there s.links c.args.c here) in (
      c.write.ensures.kept,
      write_over c.args.c c.args.bytes.now c.write.result s (served_of c.write.new.self) c.self.invariant.1 c.write.ensures.after,
      write_on s (served_of c.write.new.self) c.self.invariant.2 c.args.c c.args.bytes.now c.write.result here sound c.requires.some c.write.ensures.comes c.write.ensures.after,
    )

pub returns-clause-same_plan : goal.returns-clause-same_plan
returns-clause-same_plan c =
    let s : ServedScript = served_of c.self.inside.serving in
    let here : is_open_at s.links c.args.c ≡ true = ap (λ (x : ServedScript). is_open_at x.links c.args.c) c.self.view_is ∙ c.requires.open_still in
    ap plan_of_links c.write.ensures.after ∙ plan_kept s _ (write_keeps s c.args.c here c.args.bytes.now c.write.result) ∙ ap plan_of_links c.self.view_is
