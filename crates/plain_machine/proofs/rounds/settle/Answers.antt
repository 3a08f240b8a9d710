use Rattle.std.proofs.Common.{◌≡◌, ◌<◌, Some, length, ap, sym, ◌∙◌, arith}
use Rattle.std.proofs.lemmas.Bool.{lt-ltb}
use Rattle.machine_model.specs.Loop.{LoopConn, changed, conn_settled, conn_marks_settled}
use Rattle.machine_model.specs.Plain.{when}
use Rattle.plain_machine.specs.Seen.{conn_of, conns_of, loop_of}
use Rattle.plain_machine.proofs.Seeing.{conn_seen, loop_set}
use Rattle.plain_machine.proofs.rounds.settle.Goals as goal

pub returns : goal.returns
returns c =
    let old = c.args.loop_part.now in
    let there : c.args.c < length old.conns.items = omega arith in
    let e : conn_of c.index_mut.result.now ≡ conns_of old.conns.items c.args.c = ap conn_of c.index_mut.ensures.value ∙ sym (conn_seen old.conns.items c.args.c _ there) in
    let settled = λ (x : LoopConn). changed (loop_of old) c.args.c (conn_settled x.cause c.args.settled x) (conn_marks_settled x.cause c.args.c c.args.settled) in
    ap Some
    (loop_set old c.args.c c.settle_conn.new.conn c.in_ok-marks.marks.items c.append.new.self.items there (c.in_ok-append.ensures {u = tt}).items
    ∙ (λ i. changed (loop_of old) c.args.c ((c.in_ok-marks.ensures {u = tt}).conn i) ((c.in_ok-marks.ensures {u = tt}).marks i))
    ∙ ap settled e)
    ∙ ap (λ b. when b (Some (settled (conns_of old.conns.items c.args.c)))) (sym (lt-ltb c.args.c (length old.conns.items) there))
