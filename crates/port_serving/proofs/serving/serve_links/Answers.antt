use Rattle.std.proofs.Common.{◌≡◌, List, [], Option, Some, map, refl, sym, ap, subst, ◌∙◌}
use denote.Param.Send.{sendable}
use Rattle.streams.specs.Files.{File}
use Rattle.streams.specs.Making.{told_with_file}
use Rattle.outside.specs.LinksState.{Listening}
use Rattle.outside.specs.Binding.{one_more_back}
use Rattle.call_rules.specs.Entries.{CallEntry}
use Rattle.host_loop.specs.Served.{ServerSetting, ServedRun}
use Rattle.port_serving.specs.FileJournals.{KeepsJournal}
use Rattle.port_serving.specs.Places.{PortPlace, PlaceChange}
use Rattle.port_serving.proofs.Linking.{they_listen}
use Rattle.port_serving.proofs.PlaceServed.{has_served, sinks_stay, links_stay, net_rose, journal_rose, journal_torn}
use Rattle.port_serving.proofs.Sent.{file_journal_send}
use Rattle.port_serving.proofs.serving.serve_links.Goals as goal

pub serve-run-requires-send-J : goal.serve-run-requires-send-J
serve-run-requires-send-J g c κs within = search (sendable, file_journal_send)

pub serve-run-requires-clause-fresh : goal.serve-run-requires-clause-fresh
serve-run-requires-clause-fresh g c κs within = c.requires.starts.fresh

pub close_journal-requires-clause-finished : goal.close_journal-requires-clause-finished
close_journal-requires-clause-finished g c κs within whole = c.finish-lost.ensures.empty (sym c.finish-lost.ensures.failed ∙ whole)

pub take_back-requires : goal.take_back-requires
take_back-requires g c = they_listen _ _ (c.serve-run.ensures.served.left.listens ∙ c.requires.starts.listens)

pub returns-clause-served : goal.returns-clause-served
returns-clause-served g c before handed made out =
    let s : ServerSetting =
    (record {
      desk = g.D.Desk.meaning c.args.desk.now;
      services = map g.H.Handler.service c.args.handlers.items;
      budget = c.args.limits.read_budget;
    })
    in
    let at : Listening = record { port = c.args.place.now.port; accept = c.args.place.now.accept } in
    let place : PortPlace = record { listening = at; journal = c.args.place.now.journal.now } in
    let change : PlaceChange =
    (record {
      files_before = before;
      files = g.F.Files.files c.close_journal.new.files;
      sink_faults_before = g.F.Files.sink_faults c.args.files.now;
      sink_faults = g.F.Files.sink_faults c.close_journal.new.files;
      past_before = g.B.Binder.past c.args.binder.now;
      past = g.B.Binder.past c.take_back.new.self;
      handed_before = handed;
      handed = g.B.Binder.handed c.take_back.new.self;
    })
    in
    let unwritten : Option CallEntry = c.finish-lost.new.self.unwritten in
    let left : (b : Option (List File)) → g.F.Files.files c.args.files.now ≡ told_with_file b c.args.place.now.journal.now (Some [])
    → KeepsJournal b (g.F.Files.files c.close_journal.new.files) c.args.place.now.journal.now c.serve-run.result.journal.entries unwritten c.finish-lost.result =
    λ b is. subst (λ (es : List CallEntry). KeepsJournal b (g.F.Files.files c.close_journal.new.files) c.args.place.now.journal.now es unwritten c.finish-lost.result)
    c.finish-lost.ensures.entries
    (subst (KeepsJournal b (g.F.Files.files c.close_journal.new.files) c.args.place.now.journal.now c.finish-lost.new.self.entries unwritten) c.finish-lost.ensures.failed
    (c.close_journal.ensures.kept b is)) in
    let run : ServedRun =
    (record {
      first = g.B.L.Links.state c.args.links;
      links = g.B.L.Links.state c.serve-run.new.links;
      causes = c.serve-run.result.ends;
      outcome = c.serve-run.result.outcome;
      services = map g.H.Handler.service c.serve-run.result.handlers.items;
      told = Some c.serve-run.result.journal.entries;
      torn = c.serve-run.result.journal.failed;
      faults_before = g.F.Out.Sink.faults c.args.journal.sink;
      faults = g.F.Out.Sink.faults c.serve-run.result.journal.sink;
    })
    in
    has_served s place change run c.serve-run.result.journal.entries unwritten c.count-calls.result (g.F.Out.Sink.faults c.finish-lost.new.self.sink) c.finish-lost.result
    c.serve-run.ensures.served refl c.requires.faultless c.requires.starts c.take_back.ensures.past (c.take_back.ensures.handed ∙ ap one_more_back out)
    c.finish-lost.ensures.torn c.finish-lost.ensures.later c.finish-lost.ensures.rose c.close_journal.ensures.sinks (left before made)
    c.finish-lost.ensures.unwritten c.count-calls.ensures

pub returns-clause-net_fault : goal.returns-clause-net_fault
returns-clause-net_fault g c is =
    net_rose _ _ (g.B.Binder.faults c.args.binder.now) (g.B.Binder.faults c.take_back.new.self) c.serve-run.ensures.served c.requires.starts.faultless c.take_back.ensures.cause is

pub returns-clause-torn : goal.returns-clause-torn
returns-clause-torn g c is = journal_torn _ _ c.finish-lost.result c.serve-run.ensures.served c.finish-lost.ensures.torn is

pub returns-clause-journal_fault : goal.returns-clause-journal_fault
returns-clause-journal_fault g c is =
    journal_rose _ _ c.finish-lost.result (g.F.Out.Sink.faults c.finish-lost.new.self.sink) (g.F.Files.sink_faults c.args.files.now)
    (g.F.Files.sink_faults c.close_journal.new.files) c.serve-run.ensures.served c.requires.faultless c.finish-lost.ensures.later c.finish-lost.ensures.rose
    c.close_journal.ensures.sinks is

pub returns-clause-binder_kept : goal.returns-clause-binder_kept
returns-clause-binder_kept g c is =
    links_stay _ _ (g.B.Binder.faults c.args.binder.now) (g.B.Binder.faults c.take_back.new.self) c.serve-run.ensures.served c.requires.starts.faultless c.take_back.ensures.cause is

pub returns-clause-sinks_kept : goal.returns-clause-sinks_kept
returns-clause-sinks_kept g c is =
    sinks_stay _ _ c.finish-lost.result (g.F.Out.Sink.faults c.finish-lost.new.self.sink) (g.F.Files.sink_faults c.args.files.now)
    (g.F.Files.sink_faults c.close_journal.new.files) c.serve-run.ensures.served c.requires.faultless c.finish-lost.ensures.torn (c.finish-lost.ensures.kept is)
    c.close_journal.ensures.sinks is
