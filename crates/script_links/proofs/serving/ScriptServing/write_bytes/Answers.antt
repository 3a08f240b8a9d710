use Rattle.std.proofs.Common.{◌≡◌, ℕ, suc, ◌+◌, ◌*◌, ◌<◌, ◌≤◌, true, false, List, [], ◌∷◌, ◌++◌, length, take, drop, refl, sym, ap, ◌∙◌, subst, arith}
use Rattle.std.proofs.lemmas.List.{length-map}
use Rattle.std.specs.Vec.{vec_capacity}
use Rattle.script_links.specs.ServedScript.{ServedScript, PlainLink, link_at, with_link, is_open_at, marks_owed, marks_owed_at}
use Rattle.script_links.specs.Kept.{served_of, plain_link, plain_links}
use Rattle.script_links.proofs.Connected.{open_is_there}
use Rattle.script_links.specs.Plain.{with_written}
use Rattle.script_links.proofs.Keeping.{extra_room, sound_at, rule_sound, one_longer}
use Rattle.script_links.proofs.serving.ScriptServing.write_bytes.Goals as goal

pub returns-clause-kept : goal.returns-clause-kept
returns-clause-kept c =
    let m : ServedScript = served_of c.make_room.new.self in
    let same : m ≡ served_of c.args.self.now = c.make_room.ensures.same in
    let here : is_open_at m.links c.args.c ≡ true = ap (λ (x : ServedScript). is_open_at x.links c.args.c) same ∙ c.requires.open_still in
    let below : c.args.c < length m.links = open_is_there m.links c.args.c here in
    let capacity : c.push.new.self.capacity ≡ c.make_room.new.self.tape.capacity = c.push.ensures.capacity in
    let count : length m.links ≡ length c.make_room.new.self.links.items.items = length-map c.make_room.new.self.links.items.items plain_link in
    let fits : length m.tape + (1 + 3 * length c.make_room.new.self.links.items.items) ≤ c.make_room.new.self.tape.capacity = c.in-Ok.ensures.room.mark in
    extra_room _ _ m _ c.make_room.ensures.kept c.push.new.self.capacity c.args.c (with_written c.split_at.result.0.now) below c.in-Ok-write.ensures.ok
    (rule_sound (link_at m.links c.args.c) (sound_at _ _ m c.args.c c.make_room.ensures.kept below)) (omega arith)
    (one_longer m.tape c.push.new.self.items _ c.push.ensures.items) (omega arith) refl (omega arith)
