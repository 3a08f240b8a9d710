use Rattle.std.proofs.Common.{ℕ, List, Option, map, refl, sym, subst, ◌∙◌}
use Rattle.std.proofs.lemmas.Result.{err_from_is_err_and}
use Rattle.streams.specs.Cause.{Rose}
use Rattle.streams.specs.Files.{File}
use Rattle.outside.specs.LinksState.{Listening}
use Rattle.outside.specs.Binding.{PastLinks, StartListening, HandedOut}
use Rattle.host_loop.specs.Served.{ServerSetting}
use Rattle.port_serving.specs.declared.fault.PortFault.TheVariants as faults
use Rattle.port_serving.specs.Places.{PortPlace, PlaceChange}
use Rattle.port_serving.specs.Served.{HasServedPort}
use Rattle.port_serving.specs.Answered.{OutputChange}
use Rattle.port_serving.proofs.Filing.{empty_file}
use Rattle.port_serving.proofs.PlaceServed.{rose_later, same_count}
use Rattle.port_serving.proofs.Answering.{unopened, unlistened, opening_other, other_err}
use Rattle.port_serving.proofs.serving.serve_port.Goals as goal

abbrev changed : (files_before files : Option (List File)) (sinks_before sinks : ℕ) (past_before past : Option (List PastLinks)) (handed_before handed : HandedOut) → PlaceChange
changed files_before files sinks_before sinks past_before past handed_before handed =
    record {
      files_before = files_before;
      files = files;
      sink_faults_before = sinks_before;
      sink_faults = sinks;
      past_before = past_before;
      past = past;
      handed_before = handed_before;
      handed = handed;
    }

pub serve_links-run-requires-clause-empty : goal.serve_links-run-requires-clause-empty
serve_links-run-requires-clause-empty g c κs within = c.in_ok-journal.ensures.opened.none

pub serve_links-run-requires-clause-whole : goal.serve_links-run-requires-clause-whole
serve_links-run-requires-clause-whole g c κs within = c.in_ok-journal.ensures.opened.whole

pub serve_links-run-requires-clause-faultless : goal.serve_links-run-requires-clause-faultless
serve_links-run-requires-clause-faultless g c κs within = c.in_ok-journal.ensures.opened.faultless

pub serve_links-run-requires-clause-there : goal.serve_links-run-requires-clause-there
serve_links-run-requires-clause-there g c κs within = c.in_ok-journal.ensures.opened.there

pub serve_links-run-requires-clause-starts : goal.serve_links-run-requires-clause-starts
serve_links-run-requires-clause-starts g c κs within =
    let at : Listening = record { port = c.args.place.now.port; accept = c.args.place.now.accept } in
    subst (λ o. StartListening o at (g.B.L.Links.state c.in-Ok.links)) (sym c.in-Ok.ensures.listening.same) c.in-Ok.ensures.listening.starts

pub close_journal-requires-clause-there : goal.close_journal-requires-clause-there
close_journal-requires-clause-there g c κs within = c.in_ok-journal.ensures.opened.there

pub close_journal-requires-clause-finished : goal.close_journal-requires-clause-finished
close_journal-requires-clause-finished g c κs within whole = c.in_ok-journal.ensures.opened.empty

pub returns-in_err-journal-clause-means : goal.returns-in_err-journal-clause-means
returns-in_err-journal-clause-means g c =
    let s : ServerSetting =
    (record {
      desk = g.D.Desk.meaning c.args.desk.now;
      services = map g.H.Handler.service c.args.handlers.items;
      budget = c.args.limits.read_budget;
    })
    in
    let at : Listening = record { port = c.args.place.now.port; accept = c.args.place.now.accept } in
    let place : PortPlace = record { listening = at; journal = c.args.place.now.journal.now } in
    let files_before = g.F.Files.files c.args.files.now in
    let sinks_before = g.F.Files.sink_faults c.args.files.now in
    let past_before = g.B.Binder.past c.args.binder.now in
    let handed_before = g.B.Binder.handed c.args.binder.now in
    let taken_before = g.K.Sink.taken c.args.output.now in
    let change : PlaceChange = changed files_before (g.F.Files.files c.open_journal.new.files) sinks_before (g.F.Files.sink_faults c.open_journal.new.files) past_before past_before
    handed_before handed_before in
    let output : OutputChange = record { taken_before = taken_before; taken = taken_before } in
    let p = err_from_is_err_and c.from_residual.result c.from_residual.ensures.1 in
    rw (p.1, p.2) (unopened s place change output c.in_err-journal.field-0.0 c.in_err-journal.ensures.opened refl refl refl)

pub returns-in_err-journal-clause-net_fault : goal.returns-in_err-journal-clause-net_fault
returns-in_err-journal-clause-net_fault g c is =
    let p = err_from_is_err_and c.from_residual.result c.from_residual.ensures.1 in
    absurd
    (opening_other c.from_residual.result p.0 c.in_err-journal.field-0.0 faults.NetFault (g.F.Files.files c.args.files.now) (g.F.Files.files c.open_journal.new.files)
    c.args.place.now.journal.now p.1 p.2 is c.in_err-journal.ensures.opened)

pub returns-in_err-journal-clause-write_fault : goal.returns-in_err-journal-clause-write_fault
returns-in_err-journal-clause-write_fault g c is =
    let p = err_from_is_err_and c.from_residual.result c.from_residual.ensures.1 in
    absurd
    (opening_other c.from_residual.result p.0 c.in_err-journal.field-0.0 faults.WriteFault (g.F.Files.files c.args.files.now) (g.F.Files.files c.open_journal.new.files)
    c.args.place.now.journal.now p.1 p.2 is c.in_err-journal.ensures.opened)

pub returns-in_err-journal-clause-journal_fault : goal.returns-in_err-journal-clause-journal_fault
returns-in_err-journal-clause-journal_fault g c is =
    let p = err_from_is_err_and c.from_residual.result c.from_residual.ensures.1 in
    absurd
    (opening_other c.from_residual.result p.0 c.in_err-journal.field-0.0 faults.JournalFault (g.F.Files.files c.args.files.now) (g.F.Files.files c.open_journal.new.files)
    c.args.place.now.journal.now p.1 p.2 is c.in_err-journal.ensures.opened)

pub returns-in-Ok-clause-means : goal.returns-in-Ok-clause-means
returns-in-Ok-clause-means g c =
    let s : ServerSetting =
    (record {
      desk = g.D.Desk.meaning c.args.desk.now;
      services = map g.H.Handler.service c.args.handlers.items;
      budget = c.args.limits.read_budget;
    })
    in
    let at : Listening = record { port = c.args.place.now.port; accept = c.args.place.now.accept } in
    let place : PortPlace = record { listening = at; journal = c.args.place.now.journal.now } in
    let files_before = g.F.Files.files c.args.files.now in
    let sinks_before = g.F.Files.sink_faults c.args.files.now in
    let past_before = g.B.Binder.past c.args.binder.now in
    let handed_before = g.B.Binder.handed c.args.binder.now in
    let taken_before = g.K.Sink.taken c.args.output.now in
    let files = g.F.Files.files c.serve_links-run.new.files in
    let sinks = g.F.Files.sink_faults c.serve_links-run.new.files in
    let past = g.B.Binder.past c.serve_links-run.new.binder in
    let handed = g.B.Binder.handed c.serve_links-run.new.binder in
    let change : PlaceChange = changed files_before files sinks_before sinks past_before past handed_before handed in
    let ends = c.serve_links-run.result.ends in
    let calls = c.serve_links-run.result.calls in
    let outcome = c.serve_links-run.result.outcome in
    let lost = c.serve_links-run.result.lost in
    let served : HasServedPort s place change ends calls outcome lost =
    subst (λ o. HasServedPort s place (changed files_before files sinks_before sinks o past handed_before handed) ends calls outcome lost) c.in-Ok.ensures.listening.same
    (subst (λ n. HasServedPort s place (changed files_before files n sinks (g.B.Binder.past c.listen.new.binder) past handed_before handed) ends calls outcome lost) c.open_journal.ensures.sinks
    (c.serve_links-run.ensures.served files_before handed_before c.in_ok-journal.ensures.opened.files c.in-Ok.ensures.listening.out))
    in
    c.finish.ensures.means s place change taken_before served c.in-Ok.ensures.listening.line

pub returns-in-Ok-clause-net_fault : goal.returns-in-Ok-clause-net_fault
returns-in-Ok-clause-net_fault g c is =
    rose_later (g.B.Binder.faults c.args.binder.now) (g.B.Binder.faults c.listen.new.binder) (g.B.Binder.faults c.serve_links-run.new.binder) c.listen.ensures.binder_later
    (c.serve_links-run.ensures.net_fault (c.finish.ensures.net_fault is))

pub returns-in-Ok-clause-write_fault : goal.returns-in-Ok-clause-write_fault
returns-in-Ok-clause-write_fault g c is =
    rose_later (g.K.Sink.faults c.args.output.now) (g.K.Sink.faults c.listen.new.output) (g.K.Sink.faults c.finish.new.output) c.listen.ensures.output_later
    (c.finish.ensures.write_fault is)

pub returns-in-Ok-clause-journal_fault : goal.returns-in-Ok-clause-journal_fault
returns-in-Ok-clause-journal_fault g c is =
    subst (λ n. Rose n (g.F.Files.sink_faults c.serve_links-run.new.files)) c.open_journal.ensures.sinks
    (c.serve_links-run.ensures.journal_fault (c.finish.ensures.journal_fault is))

pub returns-in-Err-clause-means : goal.returns-in-Err-clause-means
returns-in-Err-clause-means g c =
    let s : ServerSetting =
    (record {
      desk = g.D.Desk.meaning c.args.desk.now;
      services = map g.H.Handler.service c.args.handlers.items;
      budget = c.args.limits.read_budget;
    })
    in
    let at : Listening = record { port = c.args.place.now.port; accept = c.args.place.now.accept } in
    let place : PortPlace = record { listening = at; journal = c.args.place.now.journal.now } in
    let files_before = g.F.Files.files c.args.files.now in
    let sinks_before = g.F.Files.sink_faults c.args.files.now in
    let past_before = g.B.Binder.past c.args.binder.now in
    let handed_before = g.B.Binder.handed c.args.binder.now in
    let taken_before = g.K.Sink.taken c.args.output.now in
    let files = g.F.Files.files c.close_journal.new.files in
    let change : PlaceChange =
    changed files_before files sinks_before (g.F.Files.sink_faults c.close_journal.new.files) past_before (g.B.Binder.past c.listen.new.binder)
    handed_before (g.B.Binder.handed c.listen.new.binder) in
    let output : OutputChange = record { taken_before = taken_before; taken = g.K.Sink.taken c.listen.new.output } in
    unlistened s place change output c.in-Err.fault
    (empty_file files_before files c.args.place.now.journal.now c.in_ok-journal.journal.entries c.in_ok-journal.journal.unwritten c.in_ok-journal.journal.failed c.in_ok-journal.ensures.opened.none
    c.in_ok-journal.ensures.opened.whole (c.close_journal.ensures.kept files_before c.in_ok-journal.ensures.opened.files))
    c.in-Err.ensures.listening

pub returns-in_err-journal-clause-files_kept : goal.returns-in_err-journal-clause-files_kept
returns-in_err-journal-clause-files_kept g c =
    let p = err_from_is_err_and c.from_residual.result c.from_residual.ensures.1 in
    rw (p.1, p.2) (λ not_it. c.in_err-journal.ensures.kept (other_err c.in_err-journal.field-0.0 faults.FileFault not_it))

pub returns-in_err-journal-clause-sinks_kept : goal.returns-in_err-journal-clause-sinks_kept
returns-in_err-journal-clause-sinks_kept g c = λ over. c.open_journal.ensures.sinks

pub returns-in-Ok-clause-files_kept : goal.returns-in-Ok-clause-files_kept
returns-in-Ok-clause-files_kept g c = λ not_it. c.serve_links-run.ensures.files_kept ∙ c.in_ok-journal.ensures.kept (λ e. let never : ⊥ = cc in never)

pub returns-in-Ok-clause-binder_kept : goal.returns-in-Ok-clause-binder_kept
returns-in-Ok-clause-binder_kept g c = λ over. c.serve_links-run.ensures.binder_kept (c.finish.ensures.all over) ∙ c.in-Ok.ensures.binder_kept refl

pub returns-in-Ok-clause-output_kept : goal.returns-in-Ok-clause-output_kept
returns-in-Ok-clause-output_kept g c = λ over not_it.
    c.finish.ensures.output_kept over not_it ∙ c.in-Ok.ensures.output_kept refl (λ e. let never : ⊥ = cc in never)

pub returns-in-Ok-clause-sinks_kept : goal.returns-in-Ok-clause-sinks_kept
returns-in-Ok-clause-sinks_kept g c = λ over. c.serve_links-run.ensures.sinks_kept (c.finish.ensures.whole over) ∙ c.open_journal.ensures.sinks

pub returns-in-Err-clause-files_kept : goal.returns-in-Err-clause-files_kept
returns-in-Err-clause-files_kept g c = λ not_it. c.close_journal.ensures.same ∙ c.in_ok-journal.ensures.kept (λ e. let never : ⊥ = cc in never)

pub returns-in-Err-clause-binder_kept : goal.returns-in-Err-clause-binder_kept
returns-in-Err-clause-binder_kept g c = λ over. c.in-Err.ensures.binder_kept over

pub returns-in-Err-clause-output_kept : goal.returns-in-Err-clause-output_kept
returns-in-Err-clause-output_kept g c = λ over not_it. c.in-Err.ensures.output_kept over (other_err c.in-Err.fault faults.WriteFault not_it)

pub returns-in-Err-clause-sinks_kept : goal.returns-in-Err-clause-sinks_kept
returns-in-Err-clause-sinks_kept g c = λ over.
    same_count (g.F.Out.Sink.faults c.in_ok-journal.journal.sink) _ _ c.in_ok-journal.ensures.opened.faultless c.close_journal.ensures.sinks ∙ c.open_journal.ensures.sinks
