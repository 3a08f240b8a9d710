use Rattle.std.proofs.Common.{◌++◌, subst}
use Rattle.streams.specs.Taken.{IsTakenBut}
use Rattle.run_report.specs.Summary.{summary_lines}
use Rattle.run_report.proofs.Taking.{whole_or_part}
use Rattle.run_report.proofs.summary.write_summary.Goals as goal

pub returns-clause-told : goal.returns-clause-told
returns-clause-told g c =
    whole_or_part _ (g.K.Sink.taken c.write_ended.new.out) _ _ c.write_ended.new.pending.items c.flush.result
    (subst
    (λ t. IsTakenBut (g.K.Sink.taken c.args.out.now) (g.K.Sink.taken c.write_ended.new.out) (t ++ summary_lines c.args.causes.now c.args.calls) c.write_ended.new.pending.items)
    c.new-pending.ensures.items (c.in_ok-write_ended.ensures {u = tt}).told)
    c.flush.ensures.told
