use Rattle.std.proofs.Common.{◌≡◌, ℕ, suc, ◌+◌, ◌*◌, ◌<◌, ◌≤◌, true, false, List, [], ◌∷◌, ◌++◌, length, take, drop, refl, sym, ap, ◌∙◌, subst, arith}
use Rattle.std.proofs.lemmas.List.{length-map}
use Rattle.std.specs.Vec.{vec_capacity}
use Rattle.script_links.specs.ServedScript.{ServedScript, PlainLink, link_at, with_link, is_open_at, marks_owed, marks_owed_at}
use Rattle.script_links.specs.Kept.{served_of, plain_link, plain_links}
use Rattle.script_links.proofs.Connected.{open_is_there}
use Rattle.script_links.specs.Plain.{with_closing}
use Rattle.script_links.proofs.Keeping.{marked_room, sound_at, owed_open, one_longer}
use Rattle.script_links.proofs.serving.ScriptServing.close.Goals as goal

pub returns-clause-kept : goal.returns-clause-kept
returns-clause-kept c =
    let s : ServedScript = served_of c.args.self.now in
    let below : c.args.c < length s.links = open_is_there s.links c.args.c c.requires.open_still in
    let one : 1 ≤ marks_owed_at (link_at s.links c.args.c).stage = owed_open (link_at s.links c.args.c).stage c.requires.open_still in
    let same : c.push.new.self.capacity ≡ c.args.self.now.tape.capacity = c.push.ensures.capacity in
    marked_room _ _ s _ c.requires.kept c.push.new.self.capacity c.args.c with_closing below c.close.ensures (sound_at _ _ s c.args.c c.requires.kept below)
    (omega arith) (one_longer s.tape c.push.new.self.items _ c.push.ensures.items) (omega arith) refl (omega arith)
