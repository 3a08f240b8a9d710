use Rattle.std.proofs.Common.{map}
use Rattle.call_model.specs.Desk.{desk_of}
use Rattle.journal_text.specs.EntryText.{entry_text}
use Rattle.processor.specs.Offices.{plain_office}
use Rattle.recorded_runs.specs.Answered.{Answering, IsRunOfScript, script_for}
use Rattle.recorded_runs.proofs.Coming.{means_alone}
use Rattle.thrift_host.proofs.rehearsing.run_rehearsal.Goals as goal

pub returns-clause-means : goal.returns-clause-means
returns-clause-means g c =
    let a : Answering =
    (record {
      desk = desk_of (plain_office c.args.office);
      services = map g.H.Handler.service c.args.handlers.items;
      workers = c.args.workers;
      budget = c.args.limits.read_budget;
      line = entry_text;
    })
    in
    means_alone (script_for a) (IsRunOfScript a) entry_text _ c.answer_recorded-answered.result.result _ c.answer_recorded-answered.ensures.means
