use Rattle.std.proofs.Common.{◌≡◌, ℕ, ◌+◌, ◌*◌, ◌≤◌, Result, Ok, Err, OnOk, length, arith}
use Rattle.std.proofs.lemmas.List.{length-map}
use Rattle.std.specs.Vec.{vec_capacity}
use Rattle.script_links.specs.ServedScript.{ServedScript, with_link, marks_owed}
use Rattle.script_links.specs.Plain.{with_end}
use Rattle.script_links.specs.Kept.{served_of, plain_link, HasMarkRoom, HasEndRoom}
use Rattle.script_links.specs.declared.serving.ScriptServing.{ScriptServing}
use Rattle.script_links.proofs.Keeping.{end_at_most}
use Rattle.script_links.proofs.serving.ScriptServing.make_end_room.Goals as goal

on_ok : (P Q : Type 0) {A E : Type 0} (result : Result A E) → (P → Q) → OnOk result P → OnOk result Q
on_ok P Q (Ok value) f p = f p
on_ok P Q (Err error) f p = p

enough : (s : ScriptServing) (c : ℕ) → HasMarkRoom 0 s → HasEndRoom c s
enough s c room =
    let mark : length s.tape.items + (1 + 3 * length s.links.items.items) ≤ s.tape.capacity = room.mark in
    let count : length (served_of s).links ≡ length s.links.items.items = length-map s.links.items.items plain_link in
    let most : marks_owed (with_link c with_end (served_of s).links) ≤ 3 * length (served_of s).links = end_at_most (served_of s).links c in
    omega arith

pub returns-clause-room : goal.returns-clause-room
returns-clause-room c = on_ok _ _ c.make_room.result (enough c.make_room.new.self c.args.c) c.make_room.ensures.room
