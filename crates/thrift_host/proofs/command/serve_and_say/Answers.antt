use Rattle.std.proofs.Common.{None}
use Rattle.command_line.specs.Answering.{plain_served}
use Rattle.thrift_host.proofs.Served.{serving_means, serving_said, never_reads, written_by}
use Rattle.thrift_host.proofs.Ended.{read_run, served_on, summary_written}
use Rattle.thrift_host.proofs.command.serve_and_say.Goals as goal

pub returns-clause-means : goal.returns-clause-means
returns-clause-means g c = λ left.
    serving_means _ _ c.end_run-status.result _ c.serve_connections-came_to.result (c.serve_connections-came_to.ensures.tells left) c.end_run-status.ensures

pub returns-clause-errors : goal.returns-clause-errors
returns-clause-errors g c =
    serving_said _ _ c.end_run-status.result _ c.serve_connections-came_to.result (c.serve_connections-came_to.ensures.tells None) c.end_run-status.ensures

pub returns-clause-read_fault : goal.returns-clause-read_fault
returns-clause-read_fault g c = λ is.
    never_reads _ _ c.end_run-status.result
    (serving_means _ _ c.end_run-status.result _ c.serve_connections-came_to.result (c.serve_connections-came_to.ensures.tells None) c.end_run-status.ensures) is

pub returns-clause-write_fault : goal.returns-clause-write_fault
returns-clause-write_fault g c = λ is.
    c.serve_connections-came_to.ensures.write_fault
    (written_by _ _ c.end_run-status.result _ c.serve_connections-came_to.result (c.serve_connections-came_to.ensures.tells None) c.end_run-status.ensures is)

pub returns-clause-files_kept : goal.returns-clause-files_kept
returns-clause-files_kept g c not_it = c.serve_connections-came_to.ensures.files_kept (read_run _ _ (plain_served c.args.served) c.serve_connections-came_to.result c.end_run-status.ensures not_it)

pub returns-clause-output_kept : goal.returns-clause-output_kept
returns-clause-output_kept g c over not_it =
    c.serve_connections-came_to.ensures.output_kept (served_on _ _ (plain_served c.args.served) c.serve_connections-came_to.result c.end_run-status.ensures over) (summary_written _ _ (plain_served c.args.served) c.serve_connections-came_to.result c.end_run-status.ensures not_it)

pub returns-clause-binder_kept : goal.returns-clause-binder_kept
returns-clause-binder_kept g c over = c.serve_connections-came_to.ensures.binder_kept (served_on _ _ (plain_served c.args.served) c.serve_connections-came_to.result c.end_run-status.ensures over)

pub returns-clause-sinks_kept : goal.returns-clause-sinks_kept
returns-clause-sinks_kept g c over = c.serve_connections-came_to.ensures.sinks_kept (served_on _ _ (plain_served c.args.served) c.serve_connections-came_to.result c.end_run-status.ensures over)
