use Rattle.std.proofs.Common.{◌≡◌, Some, slice_get, sym, ◌∙◌}
use Rattle.std.proofs.lemmas.Option.{slice_get_within, get_or_from_slice_get}
use Rattle.text_out.specs.Line.{line_of}
use Rattle.streams.proofs.Taking.{line_taken, line_in_part, err_takes}
use Rattle.run_report.proofs.report.write_journal.Goals as goal

pub returns-in_err-write_entry-clause-told : goal.returns-in_err-write_entry-clause-told
returns-in_err-write_entry-clause-told g c =
    let listed = g.J.ReportedJournal.listed c.args.journal.now in
    let i = c.loop-i.i in
    let item = c.in-Some.entry.now in
    let there : slice_get listed i ≡ Some item = sym c.in-Some.ensures.entry in
    err_takes _ _ _ _ c.from_residual.result c.from_residual.ensures.0
    (line_in_part (λ e. line_of (g.L.EntryLine.line e)) listed i item item
    _ (g.K.Sink.taken c.loop-i.out) _ _ c.loop-i.pending.items (slice_get_within listed i item there) (sym (get_or_from_slice_get listed i item item there))
    c.loop-i.invariant.told (c.in_err-write_entry.ensures {u = tt}).told)

pub loop-i-preserved : goal.loop-i-preserved
loop-i-preserved g c =
    let listed = g.J.ReportedJournal.listed c.args.journal.now in
    let i = c.loop-i.i in
    let item = c.in-Some.entry.now in
    let there : slice_get listed i ≡ Some item = sym c.in-Some.ensures.entry in
    let w = c.in_ok-write_entry.ensures {u = tt} in
    record {
      told = line_taken (λ e. line_of (g.L.EntryLine.line e)) listed i item item
          _ (g.K.Sink.taken c.loop-i.out) _ _ c.loop-i.pending.items _ (slice_get_within listed i item there) (sym (get_or_from_slice_get listed i item item there))
          c.loop-i.invariant.told w.told;
      kept = w.cause.kept (λ e. absurd (let never : ⊥ = cc in never)) ∙ c.loop-i.invariant.kept;
    }
