use Rattle.std.proofs.Common.{◌≡◌, ◌≤◌, Bool, true, length, sym, ap, ◌∙◌, subst}
use Rattle.outside.specs.LinksState.{Listening}
use Rattle.outside.specs.Reading.{Reads, bytes_read}
use Rattle.script_links.specs.ServedScript.{ServedScript, link_at, is_open_at, is_sound_link}
use Rattle.script_links.specs.Plain.{taken_by_read, MayComeTo}
use Rattle.script_links.specs.Kept.{served_of}
use Rattle.script_links.specs.Followed.{plan_of_links}
use Rattle.script_links.specs.Listens.{ListeningScript, told_listening, listening_told, plan_of_listening, failed_or, taken_by_reading, left_by_reading}
use Rattle.script_links.proofs.Connected.{open_is_there}
use Rattle.script_links.proofs.Keeping.{sound_at}
use Rattle.script_links.proofs.FollowedToEnd.{read_over, read_keeps, plan_kept}
use Rattle.script_links.proofs.ReadsGoOn.{reads_or_fails}
use Rattle.script_links.proofs.Listening.{reads, still_few}
use Rattle.script_links.proofs.bound.BoundLinksLinks.read.Goals as goal

pub read-requires-clause-open_still : goal.read-requires-clause-open_still
read-requires-clause-open_still c = ap (λ (x : ListeningScript). is_open_at x.served.links c.args.c) c.self.view_is ∙ c.requires.open_still

pub returns-clause-reads : goal.returns-clause-reads
returns-clause-reads c =
    let s : ServedScript = served_of c.self.inside.serving in
    let t : ServedScript = served_of c.read.new.serving in
    let l : Listening = record { port = c.self.inside.port; accept = c.self.inside.accept } in
    let here : is_open_at s.links c.args.c ≡ true = ap (λ (x : ListeningScript). is_open_at x.served.links c.args.c) c.self.view_is ∙ c.requires.open_still in
    let sound : is_sound_link (link_at s.links c.args.c) ≡ true = sound_at _ _ s c.args.c c.self.invariant.0 (open_is_there s.links c.args.c here) in
    subst (λ (x : ListeningScript). Reads c.args.c c.read.new.into (listening_told x) (told_listening l c.self.inside.net_faults t) c.read.result) c.self.view_is
    (reads l c.self.inside.net_faults s t c.args.c c.read.new.into c.read.result
    (reads_or_fails c.args.c c.read.new.into s t (length c.args.into.now) c.read-fails.result c.read.result c.read.auto.into c.requires.room here sound c.read.ensures.comes c.read.ensures.front
    c.read.ensures.after))

pub invariant_of-self : goal.invariant_of-self
invariant_of-self c =
    let s : ServedScript = served_of c.self.inside.serving in
    let here : is_open_at s.links c.args.c ≡ true = ap (λ (x : ListeningScript). is_open_at x.served.links c.args.c) c.self.view_is ∙ c.requires.open_still in (
      c.read.ensures.kept,
      read_over c.args.c (length c.args.into.now) (bytes_read c.read.new.into c.read.result) c.read.result s (served_of c.read.new.serving) c.self.invariant.1 c.read.ensures.after,
      subst (λ (x : ServedScript). length x.links ≤ c.self.inside.accept) (sym c.read.ensures.after)
          (still_few c.self.inside.accept s _ (read_keeps s c.args.c here (length c.args.into.now) (bytes_read c.read.new.into c.read.result) c.read.result) c.self.invariant.2),
    )

pub returns-clause-same_plan : goal.returns-clause-same_plan
returns-clause-same_plan c =
    let s : ServedScript = served_of c.self.inside.serving in
    let here : is_open_at s.links c.args.c ≡ true = ap (λ (x : ListeningScript). is_open_at x.served.links c.args.c) c.self.view_is ∙ c.requires.open_still in
    ap plan_of_links c.read.ensures.after ∙ plan_kept s _ (read_keeps s c.args.c here (length c.args.into.now) (bytes_read c.read.new.into c.read.result) c.read.result)
    ∙ ap plan_of_listening c.self.view_is

pub returns-clause-comes : goal.returns-clause-comes
returns-clause-comes c =
    let s : ServedScript = served_of c.self.inside.serving in
    subst (λ (x : ListeningScript). MayComeTo (taken_by_reading c.args.c (length c.args.into.now) x) c.read.result) c.self.view_is
    (subst (λ (b : Bool). MayComeTo (failed_or b (taken_by_read (length c.args.into.now) (link_at s.links c.args.c))) c.read.result) c.read-fails.ensures.fails c.read.ensures.comes)

pub returns-clause-after : goal.returns-clause-after
returns-clause-after c =
    let l : Listening = record { port = c.self.inside.port; accept = c.self.inside.accept } in
    let one : record { served = served_of c.read.new.serving; listening = l; plan = c.read-fails.new.self; net_faults = c.self.inside.net_faults }
    ≡ left_by_reading c.args.c (length c.args.into.now) (bytes_read c.read.new.into c.read.result) c.read.result
    (record { served = served_of c.self.inside.serving; listening = l; plan = c.self.inside.failing; net_faults = c.self.inside.net_faults }) =
    (λ i. record { served = c.read.ensures.after i; listening = l; plan = c.read-fails.ensures.after i; net_faults = c.self.inside.net_faults }) in
    one ∙ ap (λ (x : ListeningScript). left_by_reading c.args.c (length c.args.into.now) (bytes_read c.read.new.into c.read.result) c.read.result x) c.self.view_is
