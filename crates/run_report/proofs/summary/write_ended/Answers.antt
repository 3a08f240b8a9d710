use Rattle.std.proofs.Common.{◌++◌, codes}
use Rattle.text_out.specs.Line.{line_of}
use Rattle.host_model.specs.Report.{numbered}
use Rattle.streams.proofs.Taking.{none_taken, next_taken, next_in_part, last_takes, err_takes}
use Rattle.run_report.specs.Summary.{conn_lines}
use Rattle.run_report.proofs.summary.write_ended.Goals as goal

pub returns-in_err-write_conns-clause-told : goal.returns-in_err-write_conns-clause-told
returns-in_err-write_conns-clause-told g c =
    let x = g.K.Sink.taken c.args.out.now in
    let pending = c.args.pending.now.items in
    let conns = conn_lines 0 c.args.causes.now in
    let count = line_of (numbered (codes "calls") c.args.calls) in
    err_takes _ _ _ _ c.from_residual.result c.from_residual.ensures.0
    (next_in_part x x _ (pending ++ (conns ++ count)) pending conns count (none_taken x (pending ++ (conns ++ count))) (c.in_err-write_conns.ensures {u = tt}).told)

pub returns-clause-told : goal.returns-clause-told
returns-clause-told g c =
    let x = g.K.Sink.taken c.args.out.now in
    let pending = c.args.pending.now.items in
    let conns = conn_lines 0 c.args.causes.now in
    let count = line_of (numbered (codes "calls") c.args.calls) in
    last_takes x (g.K.Sink.taken c.write_conns.new.out) _ (pending ++ (conns ++ count)) _ _ c.write_count.result
    (next_taken x x (g.K.Sink.taken c.write_conns.new.out) (pending ++ (conns ++ count)) pending conns count c.write_conns.new.pending.items
    (none_taken x (pending ++ (conns ++ count))) (c.in_ok-write_conns.ensures {u = tt}).told)
    c.write_count.ensures.told
