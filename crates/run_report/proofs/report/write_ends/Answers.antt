use Rattle.std.proofs.Common.{◌+◌, ◌++◌, drop, refl, subst, ◌∙◌, arith}
use Rattle.text_out.specs.Line.{line_of}
use Rattle.host_model.specs.Report.{end_text}
use Rattle.streams.specs.Taken.{IsTakenBut}
use Rattle.streams.proofs.Taking.{next_taken, next_in_part, err_takes}
use Rattle.run_report.specs.Written.{ended_lines}
use Rattle.run_report.proofs.Ended.{ended_left}
use Rattle.run_report.proofs.report.write_ends.Goals as goal

pub returns-in_err-write_end-clause-told : goal.returns-in_err-write_end-clause-told
returns-in_err-write_end-clause-told g c =
    let i = c.ends.c in
    let causes = c.args.causes.now in
    let written = c.args.written.now in
    let bytes = c.index-written-c.result in
    err_takes _ _ _ _ c.from_residual.result c.from_residual.ensures.0
    (next_in_part _ (g.K.Sink.taken c.ends.out) _ _ c.ends.pending.items (line_of (end_text i _ bytes)) (ended_lines (i + 1) (drop (i + 1) causes) (drop (i + 1) written))
    (subst
    (λ t. IsTakenBut (g.K.Sink.taken c.args.out.now) (g.K.Sink.taken c.ends.out) (c.args.pending.now.items ++ ended_lines 0 causes written) (c.ends.pending.items ++ t))
    (ended_left causes written i _ _ bytes bytes (omega arith) c.requires refl c.index-written-c.is) c.ends.invariant.told)
    (c.in_err-write_end.ensures {u = tt}).told)

pub ends-preserved : goal.ends-preserved
ends-preserved g c =
    let i = c.ends.c in
    let causes = c.args.causes.now in
    let written = c.args.written.now in
    let bytes = c.index-written-c.result in
    let w = c.in_ok-write_end.ensures {u = tt} in
    record {
      told = next_taken _ (g.K.Sink.taken c.ends.out) _ _ c.ends.pending.items (line_of (end_text i _ bytes)) (ended_lines (i + 1) (drop (i + 1) causes) (drop (i + 1) written)) _
          (subst
          (λ t. IsTakenBut (g.K.Sink.taken c.args.out.now) (g.K.Sink.taken c.ends.out) (c.args.pending.now.items ++ ended_lines 0 causes written)
          (c.ends.pending.items ++ t))
          (ended_left causes written i _ _ bytes bytes (omega arith) c.requires refl c.index-written-c.is) c.ends.invariant.told)
          w.told;
      kept = w.cause.kept (λ e. absurd (let never : ⊥ = cc in never)) ∙ c.ends.invariant.kept;
    }
