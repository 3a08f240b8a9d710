use Rattle.std.proofs.Common.{◌≡◌, ◌+◌, ◌<◌, ◌≤◌, true, length, refl, ap, ◌∙◌, arith}
use Rattle.script_links.specs.ServedScript.{ServedScript, link_at, with_link, is_open_at, marks_owed}
use Rattle.script_links.specs.Kept.{served_of}
use Rattle.script_links.proofs.Connected.{open_is_there}
use Rattle.script_links.specs.Plain.{with_end, with_fault}
use Rattle.script_links.proofs.Keeping.{changed_room, sound_at, fault_sound, end_owed, one_longer}
use Rattle.script_links.proofs.serving.ScriptServing.fail_read.Goals as goal

pub returns-clause-kept : goal.returns-clause-kept
returns-clause-kept c =
    let s : ServedScript = served_of c.make_end_room.new.self in
    let here : is_open_at s.links c.args.c ≡ true = ap (λ (x : ServedScript). is_open_at x.links c.args.c) c.make_end_room.ensures.same ∙ c.requires.open_still in
    let below : c.args.c < length s.links = open_is_there s.links c.args.c here in
    let same : c.push.new.self.capacity ≡ c.make_end_room.new.self.tape.capacity = c.push.ensures.capacity in
    let fits : length s.tape + 1 + marks_owed (with_link c.args.c with_end s.links) ≤ c.make_end_room.new.self.tape.capacity = c.in-Ok.ensures.room in
    let owed : marks_owed (with_link c.args.c with_fault s.links) ≡ marks_owed (with_link c.args.c with_end s.links) = end_owed s.links c.args.c with_fault below refl in
    let long : length c.push.new.self.items ≡ length s.tape + 1 = one_longer s.tape c.push.new.self.items _ c.push.ensures.items in
    changed_room _ _ s _ c.make_end_room.ensures.kept c.push.new.self.capacity c.args.c with_fault below c.fail.ensures
    (fault_sound (link_at s.links c.args.c) (sound_at _ _ s c.args.c c.make_end_room.ensures.kept below)) (omega arith) refl (omega arith)
