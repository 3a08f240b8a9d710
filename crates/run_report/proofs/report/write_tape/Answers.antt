use Rattle.std.proofs.Common.{◌≡◌, ◌<◌, ◌++◌, suc, List, length, ap, subst, ◌∙◌, arith}
use Rattle.streams.specs.declared.marks.Mark.{Mark}
use Rattle.streams.specs.Taken.{IsTakenBut}
use Rattle.host_model.specs.Report.{mark_text, tape_lines}
use Rattle.text_out.specs.Line.{line_of}
use Rattle.streams.specs.Marks.{lent_mark}
use Rattle.streams.proofs.Taking.{next_taken, next_in_part, err_takes}
use Rattle.run_report.proofs.report.write_tape.Goals as goal

pub returns-in_err-write_mark-clause-told : goal.returns-in_err-write_mark-clause-told
returns-in_err-write_mark-clause-told g c =
    err_takes _ _ _ _ c.from_residual.result c.from_residual.ensures.0
    (next_in_part (g.K.Sink.taken c.args.out.now) (g.K.Sink.taken c.tape.out) (g.K.Sink.taken c.write_mark.new.out) (c.args.pending.now.items ++ tape_lines c.args.tape.now) c.tape.pending.items
    (line_of (mark_text (lent_mark c.in-Some.mark))) (tape_lines c.next.new.self)
    (subst (λ (marks : List Mark). IsTakenBut (g.K.Sink.taken c.args.out.now) (g.K.Sink.taken c.tape.out) (c.args.pending.now.items ++ tape_lines c.args.tape.now) (c.tape.pending.items ++ tape_lines marks))
    c.in-Some.ensures c.tape.invariant.told)
    (c.in_err-write_mark.ensures {u = tt}).told)

pub tape-preserved : goal.tape-preserved
tape-preserved g c =
    let w = c.in_ok-write_mark.ensures {u = tt} in
    record {
      told = next_taken (g.K.Sink.taken c.args.out.now) (g.K.Sink.taken c.tape.out) (g.K.Sink.taken c.write_mark.new.out) (c.args.pending.now.items ++ tape_lines c.args.tape.now) c.tape.pending.items
          (line_of (mark_text (lent_mark c.in-Some.mark))) (tape_lines c.next.new.self) c.write_mark.new.pending.items
          (subst (λ (marks : List Mark). IsTakenBut (g.K.Sink.taken c.args.out.now) (g.K.Sink.taken c.tape.out) (c.args.pending.now.items ++ tape_lines c.args.tape.now) (c.tape.pending.items ++ tape_lines marks))
          c.in-Some.ensures c.tape.invariant.told) w.told;
      kept = w.cause.kept (λ e. absurd (let never : ⊥ = cc in never)) ∙ c.tape.invariant.kept;
    }

pub tape-smaller : goal.tape-smaller
tape-smaller g c =
    let more : length c.tape.marks ≡ suc (length c.next.new.self) = ap length c.in-Some.ensures in
    let less : length c.next.new.self < length c.tape.marks = omega arith in
    less
