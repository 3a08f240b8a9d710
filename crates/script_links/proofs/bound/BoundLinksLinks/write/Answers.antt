use Rattle.std.proofs.Common.{◌≡◌, ◌≤◌, Bool, true, length, sym, ap, ◌∙◌, subst}
use Rattle.outside.specs.LinksState.{Listening}
use Rattle.outside.specs.Writing.{WritesToConnection}
use Rattle.script_links.specs.ServedScript.{ServedScript, link_at, is_open_at, is_sound_link}
use Rattle.script_links.specs.Plain.{taken_by_rules, MayComeTo}
use Rattle.script_links.specs.Kept.{served_of}
use Rattle.script_links.specs.Followed.{plan_of_links}
use Rattle.script_links.specs.Listens.{ListeningScript, told_listening, listening_told, plan_of_listening, failed_or, taken_by_writing, left_by_writing}
use Rattle.script_links.proofs.Connected.{open_is_there}
use Rattle.script_links.proofs.Keeping.{sound_at}
use Rattle.script_links.proofs.FollowedToEnd.{write_over, write_keeps, plan_kept}
use Rattle.script_links.proofs.ReadsGoOn.{writes_or_fails}
use Rattle.script_links.proofs.Listening.{writes, still_few}
use Rattle.script_links.proofs.bound.BoundLinksLinks.write.Goals as goal

pub write-requires-clause-open_still : goal.write-requires-clause-open_still
write-requires-clause-open_still c = ap (λ (x : ListeningScript). is_open_at x.served.links c.args.c) c.self.view_is ∙ c.requires.open_still

pub returns-clause-writes : goal.returns-clause-writes
returns-clause-writes c =
    let s : ServedScript = served_of c.self.inside.serving in
    let t : ServedScript = served_of c.write.new.serving in
    let l : Listening = record { port = c.self.inside.port; accept = c.self.inside.accept } in
    let here : is_open_at s.links c.args.c ≡ true = ap (λ (x : ListeningScript). is_open_at x.served.links c.args.c) c.self.view_is ∙ c.requires.open_still in
    let sound : is_sound_link (link_at s.links c.args.c) ≡ true = sound_at _ _ s c.args.c c.self.invariant.0 (open_is_there s.links c.args.c here) in
    subst (λ (x : ListeningScript). WritesToConnection c.args.c c.args.bytes.now (listening_told x) (told_listening l c.self.inside.net_faults t) c.write.result) c.self.view_is
    (writes l c.self.inside.net_faults s t c.args.c c.args.bytes.now c.write.result
    (writes_or_fails c.args.c c.args.bytes.now s t c.write-fails.result c.write.result here sound c.requires.some c.write.ensures.comes c.write.ensures.after))

pub invariant_of-self : goal.invariant_of-self
invariant_of-self c =
    let s : ServedScript = served_of c.self.inside.serving in
    let here : is_open_at s.links c.args.c ≡ true = ap (λ (x : ListeningScript). is_open_at x.served.links c.args.c) c.self.view_is ∙ c.requires.open_still in (
      c.write.ensures.kept,
      write_over c.args.c c.args.bytes.now c.write.result s (served_of c.write.new.serving) c.self.invariant.1 c.write.ensures.after,
      subst (λ (x : ServedScript). length x.links ≤ c.self.inside.accept) (sym c.write.ensures.after)
          (still_few c.self.inside.accept s _ (write_keeps s c.args.c here c.args.bytes.now c.write.result) c.self.invariant.2),
    )

pub returns-clause-same_plan : goal.returns-clause-same_plan
returns-clause-same_plan c =
    let s : ServedScript = served_of c.self.inside.serving in
    let here : is_open_at s.links c.args.c ≡ true = ap (λ (x : ListeningScript). is_open_at x.served.links c.args.c) c.self.view_is ∙ c.requires.open_still in
    ap plan_of_links c.write.ensures.after ∙ plan_kept s _ (write_keeps s c.args.c here c.args.bytes.now c.write.result) ∙ ap plan_of_listening c.self.view_is

pub returns-clause-comes : goal.returns-clause-comes
returns-clause-comes c =
    let s : ServedScript = served_of c.self.inside.serving in
    subst (λ (x : ListeningScript). MayComeTo (taken_by_writing c.args.c (length c.args.bytes.now) x) c.write.result) c.self.view_is
    (subst (λ (b : Bool). MayComeTo (failed_or b (taken_by_rules (length c.args.bytes.now) (link_at s.links c.args.c).rules)) c.write.result) c.write-fails.ensures.fails c.write.ensures.comes)

pub returns-clause-after : goal.returns-clause-after
returns-clause-after c =
    let l : Listening = record { port = c.self.inside.port; accept = c.self.inside.accept } in
    let one : record { served = served_of c.write.new.serving; listening = l; plan = c.write-fails.new.self; net_faults = c.self.inside.net_faults }
    ≡ left_by_writing c.args.c c.args.bytes.now c.write.result
    (record { served = served_of c.self.inside.serving; listening = l; plan = c.self.inside.failing; net_faults = c.self.inside.net_faults }) =
    (λ i. record { served = c.write.ensures.after i; listening = l; plan = c.write-fails.ensures.after i; net_faults = c.self.inside.net_faults }) in
    one ∙ ap (λ (x : ListeningScript). left_by_writing c.args.c c.args.bytes.now c.write.result x) c.self.view_is
