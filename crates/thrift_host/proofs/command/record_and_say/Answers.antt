use Rattle.command_line.specs.Answering.{plain_served}
use Rattle.thrift_host.specs.Runs.{recording}
use Rattle.thrift_host.proofs.Ran.{run_means, run_said}
use Rattle.thrift_host.proofs.Ended.{read_run, input_read, output_written}
use Rattle.thrift_host.proofs.command.record_and_say.Goals as goal

pub returns-clause-means : goal.returns-clause-means
returns-clause-means g c =
    run_means recording _ c.end_run-status.result _ _ c.serve_script-came_to.result c.serve_script-came_to.ensures.tells c.end_run-status.ensures

pub returns-clause-errors : goal.returns-clause-errors
returns-clause-errors g c =
    run_said recording _ c.end_run-status.result _ _ c.serve_script-came_to.result c.serve_script-came_to.ensures.tells c.end_run-status.ensures

pub returns-clause-files_kept : goal.returns-clause-files_kept
returns-clause-files_kept g c not_it = c.serve_script-came_to.ensures.files_kept (read_run _ _ (plain_served c.args.served) c.serve_script-came_to.result c.end_run-status.ensures not_it)

pub returns-clause-input_kept : goal.returns-clause-input_kept
returns-clause-input_kept g c not_it = c.serve_script-came_to.ensures.input_kept (input_read _ _ (plain_served c.args.served) c.serve_script-came_to.result c.end_run-status.ensures not_it)

pub returns-clause-output_kept : goal.returns-clause-output_kept
returns-clause-output_kept g c not_it = c.serve_script-came_to.ensures.output_kept (output_written _ _ (plain_served c.args.served) c.serve_script-came_to.result c.end_run-status.ensures not_it)
