use Rattle.std.proofs.Common.{◌≡◌, ℕ, ◌<◌, true, length, sym, ap, ◌∙◌, subst}
use Rattle.script_links.specs.ServedScript.{ServedScript, link_at, is_open_at, is_sound_link}
use Rattle.script_links.specs.Kept.{served_of}
use Rattle.script_links.specs.Shown.{links_told}
use Rattle.script_links.proofs.Connected.{open_is_there}
use Rattle.script_links.proofs.Keeping.{sound_at}
use Rattle.outside.specs.Reading.{Reads, bytes_read}
use Rattle.script_links.proofs.ReadsGoOn.{reads_so}
use Rattle.script_links.specs.Followed.{plan_of_links}
use Rattle.script_links.proofs.FollowedToEnd.{read_on, read_over, plan_kept, read_keeps}
use Rattle.script_links.proofs.over_script.ScriptLinksLinks.read.Goals as goal

pub read-requires-clause-open_still : goal.read-requires-clause-open_still
read-requires-clause-open_still c = ap (λ (x : ServedScript). is_open_at x.links c.args.c) c.self.view_is ∙ c.requires.open_still

pub returns-clause-reads : goal.returns-clause-reads
returns-clause-reads c =
    let s : ServedScript = served_of c.self.inside.serving in
    let here : is_open_at s.links c.args.c ≡ true = ap (λ (x : ServedScript). is_open_at x.links c.args.c) c.self.view_is ∙ c.requires.open_still in
    let sound : is_sound_link (link_at s.links c.args.c) ≡ true = sound_at _ _ s c.args.c c.self.invariant.0 (open_is_there s.links c.args.c here) in
    subst (λ (x : ServedScript). Reads c.args.c c.read.new.into (links_told x) (links_told (served_of c.read.new.self)) c.read.result) c.self.view_is
    (reads_so c.args.c c.read.new.into s (served_of c.read.new.self) (length c.args.into.now) c.read.result c.read.auto.into c.requires.room here sound c.read.ensures.comes
    c.read.ensures.front c.read.ensures.after)

pub invariant_of-self : goal.invariant_of-self
invariant_of-self c =
    let s : ServedScript = served_of c.self.inside.serving in
    let here : is_open_at s.links c.args.c ≡ true = ap (λ (x : ServedScript). is_open_at x.links c.args.c) c.self.view_is ∙ c.requires.open_still in
    let sound : is_sound_link (link_at s.links c.args.c) ≡ true = sound_at _ _ s c.args.c c.self.invariant.0 (open_is_there s.links c.args.c here) in (
      c.read.ensures.kept,
      read_over c.args.c (length c.args.into.now) (bytes_read c.read.new.into c.read.result) c.read.result s (served_of c.read.new.self) c.self.invariant.1 c.read.ensures.after,
      read_on s (served_of c.read.new.self) c.self.invariant.2 c.args.c (length c.args.into.now) c.read.new.into c.read.result here sound c.requires.room c.read.ensures.comes c.read.ensures.front
          c.read.ensures.after,
    )

pub returns-clause-same_plan : goal.returns-clause-same_plan
returns-clause-same_plan c =
    let s : ServedScript = served_of c.self.inside.serving in
    let here : is_open_at s.links c.args.c ≡ true = ap (λ (x : ServedScript). is_open_at x.links c.args.c) c.self.view_is ∙ c.requires.open_still in
    ap plan_of_links c.read.ensures.after ∙ plan_kept s _ (read_keeps s c.args.c here (length c.args.into.now) (bytes_read c.read.new.into c.read.result) c.read.result) ∙ ap plan_of_links c.self.view_is
