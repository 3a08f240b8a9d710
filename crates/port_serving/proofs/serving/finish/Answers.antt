use Rattle.std.proofs.Common.{inr, inl, true, false, refl, sym, subst, Err, ap}
use Rattle.std.proofs.lemmas.Result.{err_from_is_err_and}
use Rattle.conn_table.specs.declared.run_limits.Outcome.TheVariants as outcomes
use Rattle.port_serving.specs.Served.{HasServedPort}
use Rattle.port_serving.specs.Answered.{OutputChange}
use Rattle.port_serving.proofs.Answering.{summed, begun, unwritten, summary_over}
use Rattle.port_serving.proofs.serving.finish.Goals as goal

pub returns-in_err-written-in-All-clause-means : goal.returns-in_err-written-in-All-clause-means
returns-in_err-written-in-All-clause-means g c s place change before served line =
    let output : OutputChange = record { taken_before = before; taken = g.K.Sink.taken c.write_summary-written.new.out } in
    let here : HasServedPort s place change c.as_slice.result.now c.args.run.now.calls c.args.run.now.outcome c.args.run.now.lost =
    subst (λ causes. HasServedPort s place change causes c.args.run.now.calls c.args.run.now.outcome c.args.run.now.lost) (sym c.as_slice.ensures) served in
    let p = err_from_is_err_and c.from_residual.result c.from_residual.ensures.1 in
    rw (p.1, p.2)
    (unwritten s place change output c.in_err-written-in-All.field-0.0
    (begun s place change output (g.K.Sink.taken c.args.output.now) line c.as_slice.result.now c.args.run.now.calls c.args.run.now.outcome c.args.run.now.lost here
    c.write_summary-written.result outcomes.All false c.in-All.is c.if-run.false c.write_summary-written.ensures.told))

pub returns-in_ok-written-in-All-clause-means : goal.returns-in_ok-written-in-All-clause-means
returns-in_ok-written-in-All-clause-means g c s place change before served line =
    let output : OutputChange = record { taken_before = before; taken = g.K.Sink.taken c.write_summary-written.new.out } in
    let here : HasServedPort s place change c.as_slice.result.now c.args.run.now.calls c.args.run.now.outcome c.args.run.now.lost =
    subst (λ causes. HasServedPort s place change causes c.args.run.now.calls c.args.run.now.outcome c.args.run.now.lost) (sym c.as_slice.ensures) served in
    summed s place change output (g.K.Sink.taken c.args.output.now) line c.as_slice.result.now c.args.run.now.calls c.args.run.now.outcome c.args.run.now.lost here c.in-All.is c.if-run.false
    c.in_ok-written-in-All.ensures.told

pub returns-in-NetFault-clause-means : goal.returns-in-NetFault-clause-means
returns-in-NetFault-clause-means g c s place change before served line =
    let output : OutputChange = record { taken_before = before; taken = g.K.Sink.taken c.write_summary-written.new.out } in
    let here : HasServedPort s place change c.as_slice.result.now c.args.run.now.calls c.args.run.now.outcome c.args.run.now.lost =
    subst (λ causes. HasServedPort s place change causes c.args.run.now.calls c.args.run.now.outcome c.args.run.now.lost) (sym c.as_slice.ensures) served in
    inr (
      c.args.run.now.lost,
      begun s place change output (g.K.Sink.taken c.args.output.now) line c.as_slice.result.now c.args.run.now.calls c.args.run.now.outcome c.args.run.now.lost here
          c.write_summary-written.result outcomes.NetFault c.args.run.now.lost c.in-NetFault.is refl c.write_summary-written.ensures.told,
    )

pub returns-in-JournalFault-clause-means : goal.returns-in-JournalFault-clause-means
returns-in-JournalFault-clause-means g c s place change before served line =
    let output : OutputChange = record { taken_before = before; taken = g.K.Sink.taken c.write_summary-written.new.out } in
    let here : HasServedPort s place change c.as_slice.result.now c.args.run.now.calls c.args.run.now.outcome c.args.run.now.lost =
    subst (λ causes. HasServedPort s place change causes c.args.run.now.calls c.args.run.now.outcome c.args.run.now.lost) (sym c.as_slice.ensures) served in
    inl
    (begun s place change output (g.K.Sink.taken c.args.output.now) line c.as_slice.result.now c.args.run.now.calls c.args.run.now.outcome c.args.run.now.lost here
    c.write_summary-written.result outcomes.JournalFault true c.in-JournalFault.is (c.requires.torn c.in-JournalFault.is) c.write_summary-written.ensures.told)

pub returns-in-NoMemory-clause-means : goal.returns-in-NoMemory-clause-means
returns-in-NoMemory-clause-means g c s place change before served line =
    let output : OutputChange = record { taken_before = before; taken = g.K.Sink.taken c.write_summary-written.new.out } in
    let here : HasServedPort s place change c.as_slice.result.now c.args.run.now.calls c.args.run.now.outcome c.args.run.now.lost =
    subst (λ causes. HasServedPort s place change causes c.args.run.now.calls c.args.run.now.outcome c.args.run.now.lost) (sym c.as_slice.ensures) served in
    inr (inr (inl (
      c.args.run.now.lost,
      begun s place change output (g.K.Sink.taken c.args.output.now) line c.as_slice.result.now c.args.run.now.calls c.args.run.now.outcome c.args.run.now.lost here
          c.write_summary-written.result outcomes.NoMemory c.args.run.now.lost c.in-NoMemory.is refl c.write_summary-written.ensures.told,
    )))

pub returns-then-run-clause-means : goal.returns-then-run-clause-means
returns-then-run-clause-means g c s place change before served line =
    let output : OutputChange = record { taken_before = before; taken = g.K.Sink.taken c.write_summary-written.new.out } in
    let here : HasServedPort s place change c.as_slice.result.now c.args.run.now.calls c.args.run.now.outcome c.args.run.now.lost =
    subst (λ causes. HasServedPort s place change causes c.args.run.now.calls c.args.run.now.outcome c.args.run.now.lost) (sym c.as_slice.ensures) served in
    inr
    (begun s place change output (g.K.Sink.taken c.args.output.now) line c.as_slice.result.now c.args.run.now.calls c.args.run.now.outcome c.args.run.now.lost here
    c.write_summary-written.result outcomes.All true c.in-All.is c.if-run.true c.write_summary-written.ensures.told)

pub returns-in_err-written-in-All-clause-output_kept : goal.returns-in_err-written-in-All-clause-output_kept
returns-in_err-written-in-All-clause-output_kept g c =
    let p = err_from_is_err_and c.from_residual.result c.from_residual.ensures.1 in
    rw (p.1, p.2) (λ over not_it. absurd (not_it (ap Err (summary_over c.in_err-written-in-All.field-0.0 over))))

pub returns-in_ok-written-in-All-clause-output_kept : goal.returns-in_ok-written-in-All-clause-output_kept
returns-in_ok-written-in-All-clause-output_kept g c = λ over not_it. c.in_ok-written-in-All.ensures.cause.kept (λ e. let never : ⊥ = cc in never)
