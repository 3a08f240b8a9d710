use Rattle.std.proofs.Common.{map}
use denote.Param.Send.{sendable}
use Rattle.call_model.specs.Desk.{desk_of}
use Rattle.journal_text.specs.EntryText.{entry_text}
use Rattle.processor.specs.Offices.{plain_office}
use Rattle.recorded_runs.specs.Answered.{Answering}
use Rattle.recorded_runs.specs.ServedScripts.{IsServedScript, script_to_serve}
use Rattle.recorded_runs.proofs.Coming.{means_alone}
use Rattle.thrift_host.proofs.Shared.{office_sync, reported_send}
use Rattle.thrift_host.proofs.recording.run_recording.Goals as goal

pub serve_recorded-answered-requires-sync-D : goal.serve_recorded-answered-requires-sync-D
serve_recorded-answered-requires-sync-D g c κs within = search (sendable, office_sync)

pub serve_recorded-answered-requires-send-J : goal.serve_recorded-answered-requires-send-J
serve_recorded-answered-requires-send-J g c κs within = search (sendable, reported_send)

pub returns-clause-means : goal.returns-clause-means
returns-clause-means g c =
    let a : Answering =
    (record {
      desk = desk_of (plain_office c.args.office);
      services = map g.H.Handler.service c.args.handlers.items;
      workers = c.args.workers;
      budget = c.args.limits.read_budget;
      line = entry_text;
    })
    in
    means_alone (script_to_serve a) (IsServedScript a) entry_text _ c.serve_recorded-answered.result.result _ c.serve_recorded-answered.ensures.means
