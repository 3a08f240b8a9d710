use Rattle.std.proofs.Common.{◌≡◌, ℕ, suc, ◌+◌, ◌*◌, ◌<◌, ◌≤◌, true, false, List, [], ◌∷◌, ◌++◌, length, take, drop, refl, sym, ap, ◌∙◌, subst, arith}
use Rattle.std.proofs.lemmas.List.{length-map}
use Rattle.std.specs.Vec.{vec_capacity}
use Rattle.script_links.specs.ServedScript.{ServedScript, PlainLink, link_at, with_link, is_open_at, marks_owed, marks_owed_at}
use Rattle.script_links.specs.Kept.{served_of, plain_link, plain_links}
use Rattle.script_links.proofs.Connected.{open_is_there}
use Rattle.streams.specs.declared.marks.Mark.TheVariants.{Read}
use Rattle.script_links.specs.Plain.{with_bytes_read, oldest_of}
use Rattle.script_links.proofs.Keeping.{extra_room, sound_at, read_sound, read_stands, one_longer, IsCopied, copied, front_copied}
use Rattle.script_links.proofs.Reading.{oldest_is}
use Rattle.script_links.proofs.serving.ScriptServing.read_bytes.Goals as goal

pub fill-requires : goal.fill-requires
fill-requires c =
    let copy : IsCopied (length c.args.into.now) c.args.count c.in-Ok.bytes.items (link_at (served_of c.args.self.now).links c.args.c) =
    copied (length c.args.into.now) c.args.count c.in-Ok.bytes.items (link_at (served_of c.args.self.now).links c.args.c) c.requires.comes c.in-Ok.ensures in
    let long : length c.as_slice.result.now ≡ length c.in-Ok.bytes.items = ap length c.as_slice.ensures.value in
    let own : length c.in-Ok.bytes.items ≡ c.args.count = copy.long in
    let within : c.args.count ≤ length c.args.into.now = copy.within in
    omega arith

pub returns-clause-after : goal.returns-clause-after
returns-clause-after c =
    let s : ServedScript = served_of c.args.self.now in
    let m : ServedScript = served_of c.make_room.new.self in
    let same : m ≡ s = c.make_room.ensures.same in
    let copy : IsCopied (length c.args.into.now) c.args.count c.in-Ok.bytes.items (link_at s.links c.args.c) =
    copied (length c.args.into.now) c.args.count c.in-Ok.bytes.items (link_at s.links c.args.c) c.requires.comes c.in-Ok.ensures in
    let front : take c.args.count c.fill.new.into ≡ c.in-Ok.bytes.items =
    ap (λ n. take n c.fill.new.into) (sym copy.long ∙ sym (ap length c.as_slice.ensures.value)) ∙ c.fill.ensures ∙ c.as_slice.ensures.value in
    let links : plain_links c.read.new.self.items.items ≡ with_link c.args.c (with_bytes_read c.args.count) s.links =
    c.read.ensures ∙ ap (λ (x : ServedScript). with_link c.args.c (with_bytes_read c.args.count) x.links) same in
    let tape : c.push.new.self.items ≡ s.tape ++ Read c.args.c (take c.args.count c.fill.new.into) ∷ [] =
    c.push.ensures.items ∙ ap (λ (x : ServedScript). x.tape ++ Read c.args.c c.as_slice-2.result.now ∷ []) same
    ∙ ap (λ (bytes : List ℕ). s.tape ++ Read c.args.c bytes ∷ []) (c.as_slice-2.ensures.value ∙ sym front) in
    let lengths : c.push_reserved.new.self.items ≡ s.lengths ++ length c.args.into.now ∷ [] =
    c.push_reserved.ensures.items ∙ ap (λ (x : ServedScript). x.lengths ++ length c.args.into.now ∷ []) same in
    λ i. record {
      lines = (same i).lines;
      steps = (same i).steps;
      opened = (same i).opened;
      links = links i;
      blocked = (same i).blocked;
      over = (same i).over;
      tape = tape i;
      rests = (same i).rests;
      lengths = lengths i;
    }

pub returns-clause-front : goal.returns-clause-front
returns-clause-front c =
    let s : ServedScript = served_of c.args.self.now in
    let copy : IsCopied (length c.args.into.now) c.args.count c.in-Ok.bytes.items (link_at s.links c.args.c) =
    copied (length c.args.into.now) c.args.count c.in-Ok.bytes.items (link_at s.links c.args.c) c.requires.comes c.in-Ok.ensures in
    let front : take c.args.count c.fill.new.into ≡ c.in-Ok.bytes.items =
    ap (λ n. take n c.fill.new.into) (sym copy.long ∙ sym (ap length c.as_slice.ensures.value)) ∙ c.fill.ensures ∙ c.as_slice.ensures.value in
    front_copied c.args.count c.in-Ok.bytes.items c.fill.new.into (oldest_of (link_at s.links c.args.c)) copy.piece copy.oldest front copy.same

pub returns-clause-kept : goal.returns-clause-kept
returns-clause-kept c =
    let m : ServedScript = served_of c.make_room.new.self in
    let same : m ≡ served_of c.args.self.now = c.make_room.ensures.same in
    let here : is_open_at m.links c.args.c ≡ true = ap (λ (x : ServedScript). is_open_at x.links c.args.c) same ∙ c.requires.open_still in
    let below : c.args.c < length m.links = open_is_there m.links c.args.c here in
    let copy : IsCopied (length c.args.into.now) c.args.count c.in-Ok.bytes.items (link_at (served_of c.args.self.now).links c.args.c) =
    copied (length c.args.into.now) c.args.count c.in-Ok.bytes.items (link_at (served_of c.args.self.now).links c.args.c) c.requires.comes c.in-Ok.ensures in
    let arrived : 0 < (link_at m.links c.args.c).arrived =
    subst (λ (x : ServedScript). 0 < (link_at x.links c.args.c).arrived) (sym same) (oldest_is (link_at (served_of c.args.self.now).links c.args.c) copy.piece copy.oldest).0 in
    let capacity : c.push.new.self.capacity ≡ c.make_room.new.self.tape.capacity = c.push.ensures.capacity in
    let count : length m.links ≡ length c.make_room.new.self.links.items.items = length-map c.make_room.new.self.links.items.items plain_link in
    let fits : length m.tape + (1 + 3 * length c.make_room.new.self.links.items.items) ≤ c.make_room.new.self.tape.capacity = c.in-Ok-make_room.ensures.room.mark in
    let stands : (with_bytes_read c.args.count (link_at m.links c.args.c)).stage ≡ (link_at m.links c.args.c).stage =
    read_stands c.args.count (link_at m.links c.args.c).pieces (link_at m.links c.args.c) in
    let owed : marks_owed_at (with_bytes_read c.args.count (link_at m.links c.args.c)).stage ≡ marks_owed_at (link_at m.links c.args.c).stage = ap marks_owed_at stands in
    extra_room _ _ m _ c.make_room.ensures.kept c.push.new.self.capacity c.args.c (with_bytes_read c.args.count) below c.read.ensures
    (read_sound c.args.count (link_at m.links c.args.c) (sound_at _ _ m c.args.c c.make_room.ensures.kept below) arrived) (omega arith)
    (one_longer m.tape c.push.new.self.items _ c.push.ensures.items) (omega arith) refl (omega arith)
