use Rattle.std.proofs.Common.{◌≡◌, suc, [], ap, sym, ◌∙◌, append-nil}
use Rattle.machine_model.specs.Loop.{LoopConn, changed}
use Rattle.plain_machine.specs.Seen.{conn_of, conns_of, loop_of}
use Rattle.plain_machine.proofs.Seeing.{conn_seen, loop_set}
use Rattle.plain_machine.proofs.rounds.submit_next.Goals as goal

pub returns-clause-next : goal.returns-clause-next
returns-clause-next c =
    let e : conn_of c.index_mut-conn.result.now ≡ conns_of c.args.loop_part.now.conns.items c.args.c =
    ap conn_of c.index_mut-conn.ensures.value ∙ sym (conn_seen c.args.loop_part.now.conns.items c.args.c _ c.requires) in
    let n : c.in_ok-conn.field-0 ≡ suc (conns_of c.args.loop_part.now.conns.items c.args.c).submitted = c.in_ok-conn.ensures {u = tt} ∙ ap (λ (x : LoopConn). suc x.submitted) e in
    loop_set c.args.loop_part.now c.args.c (record c.index_mut-conn.result.now { submitted = c.in_ok-conn.field-0 }) [] c.args.loop_part.now.tape.items c.requires
    (sym (append-nil c.args.loop_part.now.tape.items))
    ∙ (λ i. changed (loop_of c.args.loop_part.now) c.args.c (record (e i) { submitted = n i }) [])
