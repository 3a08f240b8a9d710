use Rattle.std.proofs.Common.{◌+◌, ◌++◌, drop, refl, subst, ◌∙◌, arith}
use Rattle.text_out.specs.Line.{line_of}
use Rattle.streams.specs.Taken.{IsTakenBut}
use Rattle.streams.proofs.Taking.{next_taken, next_in_part, err_takes}
use Rattle.run_report.specs.Summary.{conn_text, conn_lines}
use Rattle.run_report.proofs.Ended.{conns_left}
use Rattle.run_report.proofs.summary.write_conns.Goals as goal

pub returns-in_err-write_conn-clause-told : goal.returns-in_err-write_conn-clause-told
returns-in_err-write_conn-clause-told g c =
    let i = c.conns.c in
    let causes = c.args.causes.now in
    err_takes _ _ _ _ c.from_residual.result c.from_residual.ensures.0
    (next_in_part _ (g.K.Sink.taken c.conns.out) _ _ c.conns.pending.items (line_of (conn_text i _)) (conn_lines (i + 1) (drop (i + 1) causes))
    (subst
    (λ t. IsTakenBut (g.K.Sink.taken c.args.out.now) (g.K.Sink.taken c.conns.out) (c.args.pending.now.items ++ conn_lines 0 causes) (c.conns.pending.items ++ t))
    (conns_left causes i _ _ (omega arith) refl) c.conns.invariant.told)
    (c.in_err-write_conn.ensures {u = tt}).told)

pub conns-preserved : goal.conns-preserved
conns-preserved g c =
    let i = c.conns.c in
    let causes = c.args.causes.now in
    let w = c.in_ok-write_conn.ensures {u = tt} in
    record {
      told = next_taken _ (g.K.Sink.taken c.conns.out) _ _ c.conns.pending.items (line_of (conn_text i _)) (conn_lines (i + 1) (drop (i + 1) causes)) _
          (subst
          (λ t. IsTakenBut (g.K.Sink.taken c.args.out.now) (g.K.Sink.taken c.conns.out) (c.args.pending.now.items ++ conn_lines 0 causes)
          (c.conns.pending.items ++ t))
          (conns_left causes i _ _ (omega arith) refl) c.conns.invariant.told)
          w.told;
      kept = w.cause.kept (λ e. absurd (let never : ⊥ = cc in never)) ∙ c.conns.invariant.kept;
    }
