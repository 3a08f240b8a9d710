use Rattle.std.proofs.Common.{◌≡◌, Some, refl, ap, sym, ◌∙◌, subst}
use Rattle.std.specs.Result.{IfOk}
use Rattle.machine_model.specs.Plain.{when}
use Rattle.plain_machine.specs.Seen.{conn_of, conns_of, loop_of, conn_event_of}
use Rattle.plain_machine.proofs.Seeing.{conn_seen, loop_set, no_conn, moved_there, moved_nowhere, is_not_open}
use Rattle.plain_machine.proofs.conn_events.conn_event.Goals as goal

pub returns : goal.returns
returns c =
    let old = c.args.loop_part.now in
    let there = c.if-not-is_open.ensures.there refl in
    let is : conn_of c.index_mut-conn.result.now ≡ conns_of old.conns.items c.in-Some.c = ap conn_of c.index_mut-conn.ensures.value ∙ sym (conn_seen old.conns.items c.in-Some.c _ there) in
    let moves = rw c.in-Some-2.is at (c.in_ok-marks.ensures {u = tt}) in
    moved_there c.args.max (loop_of old) _ (conn_event_of c.args.conn_event.now) c.in-Some.c _ (conn_of c.moves.new.conn) c.in-Some-2.marks.items c.in-Some.ensures c.if-not-is_open.ensures.is is moves
    (loop_set old c.in-Some.c c.moves.new.conn c.in-Some-2.marks.items c.append.new.self.items there (c.in_ok-append.ensures {u = tt}).items)

pub returns-in_default : goal.returns-in_default
returns-in_default c =
    subst (λ out. IfOk c.opens.result (λ can. when can (Some (loop_of c.opens.new.loop_part)) ≡ out))
    (no_conn c.args.max (loop_of c.args.loop_part.now) (conn_event_of c.args.conn_event.now) c.in_default.ensures) c.opens.ensures

pub returns-then-not-is_open : goal.returns-then-not-is_open
returns-then-not-is_open c =
    is_not_open c.args.max (loop_of c.args.loop_part.now) (conn_event_of c.args.conn_event.now) c.in-Some.c c.in-Some.ensures c.if-not-is_open.ensures.is

pub returns-in_default-2 : goal.returns-in_default-2
returns-in_default-2 c =
    let old = c.args.loop_part.now in
    let is : conn_of c.index_mut-conn.result.now ≡ conns_of old.conns.items c.in-Some.c =
    ap conn_of c.index_mut-conn.ensures.value ∙ sym (conn_seen old.conns.items c.in-Some.c _ (c.if-not-is_open.ensures.there refl)) in
    let moves = rw c.in_default-2.is at (c.in_ok-marks.ensures {u = tt}) in
    moved_nowhere c.args.max (loop_of old) (conn_event_of c.args.conn_event.now) c.in-Some.c _ c.in-Some.ensures c.if-not-is_open.ensures.is is moves
