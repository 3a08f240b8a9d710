use Rattle.std.proofs.Common.{◌≡◌, ℕ, suc, ◌+◌, ◌*◌, ◌<◌, ◌≤◌, true, false, List, [], ◌∷◌, ◌++◌, length, take, drop, refl, sym, ap, ◌∙◌, subst, arith}
use Rattle.std.proofs.lemmas.List.{length-map}
use Rattle.std.specs.Vec.{vec_capacity}
use Rattle.script_links.specs.ServedScript.{ServedScript, PlainLink, link_at, with_link, is_open_at, marks_owed, marks_owed_at}
use Rattle.script_links.specs.Kept.{served_of, plain_link, plain_links}
use Rattle.script_links.proofs.Connected.{open_is_there}
use Rattle.script_links.specs.Plain.{with_rule_used}
use Rattle.script_links.proofs.Keeping.{eased_room, sound_at, rule_sound}
use Rattle.script_links.proofs.serving.ScriptServing.block.Goals as goal

pub returns-clause-kept : goal.returns-clause-kept
returns-clause-kept c =
    let s : ServedScript = served_of c.args.self.now in
    let below : c.args.c < length s.links = open_is_there s.links c.args.c c.requires.open_still in
    eased_room _ _ s _ c.requires.kept c.args.self.now.tape.capacity c.args.c with_rule_used below c.use_rule.ensures
    (rule_sound (link_at s.links c.args.c) (sound_at _ _ s c.args.c c.requires.kept below)) (omega arith) refl (omega arith) refl (omega arith)
