use Rattle.std.proofs.Common.{◌≡◌, ℕ, List, ◌++◌, length, codes, Option, sym, ap, subst, ◌∙◌, append_assoc}
use Rattle.streams.specs.declared.marks.Mark.{Mark}
use Rattle.text_out.specs.Line.{line_of}
use Rattle.host_model.specs.declared.cause.EndCause.{EndCause}
use Rattle.host_model.specs.Report.{end_lines, journal_lines, numbered, report, tape_lines}
use Rattle.call_rules.specs.Entries.{CallEntry}
use Rattle.streams.specs.Taken.{IsTakenBut, TakesText}
use Rattle.streams.proofs.Taking.{none_taken, next_taken, next_in_part, last_takes, err_takes}
use Rattle.run_report.specs.Written.{outputs, ended_lines}
use Rattle.run_report.proofs.Ended.{ended_as_told, as_many}
use Rattle.run_report.proofs.report.write_lines.Goals as goal

-- a run, by what its report tells
record Told : Type 0 where
  line : CallEntry → List ℕ
  tape : List Mark
  journal : List CallEntry
  causes : List EndCause
  written : List (List ℕ)
  same : written ≡ outputs tape 0 causes

abbrev journal_text : Told → List ℕ
journal_text t = journal_lines t.line t.journal

abbrev count_line : Told → List ℕ
count_line t = line_of (numbered (codes "calls") (length t.journal))

abbrev last_lines : Told → List ℕ
last_lines t = ended_lines 0 t.causes t.written ++ count_line t

abbrev whole : Told → List ℕ
whole t = report t.line t.tape t.journal t.causes

-- the report's four parts
report_parts : (t : Told) → whole t ≡ tape_lines t.tape ++ (journal_text t ++ last_lines t)
report_parts t =
    append_assoc (tape_lines t.tape ++ journal_text t) (end_lines t.tape 0 t.causes) (count_line t)
    ∙ append_assoc (tape_lines t.tape) (journal_text t) (end_lines t.tape 0 t.causes ++ count_line t)
    ∙ ap (λ r. tape_lines t.tape ++ (journal_text t ++ (r ++ count_line t)))
    (sym (ended_as_told t.tape 0 t.causes) ∙ ap (ended_lines 0 t.causes) (sym t.same))

-- nothing was taken yet of what is pending and the report
at_first : (t : Told) (x : Option (List ℕ)) (pending : List ℕ)
    → IsTakenBut x x (pending ++ whole t) (pending ++ (tape_lines t.tape ++ (journal_text t ++ last_lines t)))
at_first t x pending = subst (λ r. IsTakenBut x x (pending ++ whole t) (pending ++ r)) (report_parts t) (none_taken x (pending ++ whole t))

-- the tape was taken
after_tape : (t : Told) (x y : Option (List ℕ)) (pending left : List ℕ) → IsTakenBut x y (pending ++ tape_lines t.tape) left
    → IsTakenBut x y (pending ++ whole t) (left ++ (journal_text t ++ last_lines t))
after_tape t x y pending left f = next_taken x x y (pending ++ whole t) pending (tape_lines t.tape) (journal_text t ++ last_lines t) left (at_first t x pending) f

-- and the journal was taken too
after_journal : (t : Told) (x y z : Option (List ℕ)) (pending left rest : List ℕ) → IsTakenBut x y (pending ++ tape_lines t.tape) left
    → IsTakenBut y z (left ++ journal_text t) rest → IsTakenBut x z (pending ++ whole t) (rest ++ last_lines t)
after_journal t x y z pending left rest f h =
    next_taken x y z (pending ++ whole t) left (journal_text t) (last_lines t) rest (after_tape t x y pending left f) h

pub returns-in_err-write_tape-clause-told : goal.returns-in_err-write_tape-clause-told
returns-in_err-write_tape-clause-told g c =
    let t : Told = record { line = g.L.EntryLine.line; tape = c.args.tape.now; journal = g.J.ReportedJournal.listed c.args.journal.now; causes = c.args.causes.now; written = c.args.written.now; same = c.requires.written } in
    err_takes _ _ _ _ c.from_residual.result c.from_residual.ensures.0
    (next_in_part _ _ _ _ c.args.pending.now.items (tape_lines t.tape) _ (at_first t (g.K.Sink.taken c.args.out.now) c.args.pending.now.items)
    (c.in_err-write_tape.ensures {u = tt}).told)

pub returns-in_err-write_journal-clause-told : goal.returns-in_err-write_journal-clause-told
returns-in_err-write_journal-clause-told g c =
    let t : Told = record { line = g.L.EntryLine.line; tape = c.args.tape.now; journal = g.J.ReportedJournal.listed c.args.journal.now; causes = c.args.causes.now; written = c.args.written.now; same = c.requires.written } in
    err_takes _ _ _ _ c.from_residual-in_err-write_journal.result c.from_residual-in_err-write_journal.ensures.0
    (next_in_part _ (g.K.Sink.taken c.write_tape.new.out) _ _ c.write_tape.new.pending.items (journal_text t) _
    (after_tape t (g.K.Sink.taken c.args.out.now) (g.K.Sink.taken c.write_tape.new.out) c.args.pending.now.items c.write_tape.new.pending.items
    (c.in_ok-write_tape.ensures {u = tt}).told)
    (c.in_err-write_journal.ensures {u = tt}).told)

pub returns-in_err-write_ends-clause-told : goal.returns-in_err-write_ends-clause-told
returns-in_err-write_ends-clause-told g c =
    let t : Told = record { line = g.L.EntryLine.line; tape = c.args.tape.now; journal = g.J.ReportedJournal.listed c.args.journal.now; causes = c.args.causes.now; written = c.args.written.now; same = c.requires.written } in
    err_takes _ _ _ _ c.from_residual-in_err-write_ends.result c.from_residual-in_err-write_ends.ensures.0
    (next_in_part _ (g.K.Sink.taken c.write_journal.new.out) _ _ c.write_journal.new.pending.items (ended_lines 0 t.causes t.written) _
    (after_journal t (g.K.Sink.taken c.args.out.now) (g.K.Sink.taken c.write_tape.new.out) (g.K.Sink.taken c.write_journal.new.out) c.args.pending.now.items
    c.write_tape.new.pending.items c.write_journal.new.pending.items (c.in_ok-write_tape.ensures {u = tt}).told (c.in_ok-write_journal.ensures {u = tt}).told)
    (c.in_err-write_ends.ensures {u = tt}).told)

pub returns-clause-told : goal.returns-clause-told
returns-clause-told g c =
    let t : Told = record { line = g.L.EntryLine.line; tape = c.args.tape.now; journal = g.J.ReportedJournal.listed c.args.journal.now; causes = c.args.causes.now; written = c.args.written.now; same = c.requires.written } in
    last_takes _ (g.K.Sink.taken c.write_ends.new.out) _ _ _ _ c.write_count.result
    (next_taken _ (g.K.Sink.taken c.write_journal.new.out) _ _ c.write_journal.new.pending.items (ended_lines 0 t.causes t.written) (count_line t)
    c.write_ends.new.pending.items
    (after_journal t (g.K.Sink.taken c.args.out.now) (g.K.Sink.taken c.write_tape.new.out) (g.K.Sink.taken c.write_journal.new.out) c.args.pending.now.items
    c.write_tape.new.pending.items c.write_journal.new.pending.items (c.in_ok-write_tape.ensures {u = tt}).told (c.in_ok-write_journal.ensures {u = tt}).told)
    (c.in_ok-write_ends.ensures {u = tt}).told)
    (subst
    (λ n. TakesText (g.K.Sink.taken c.write_ends.new.out) (g.K.Sink.taken c.write_count.new.out) (c.write_ends.new.pending.items ++ line_of (numbered (codes "calls") n))
    c.write_count.new.pending.items c.write_count.result) c.count.ensures c.write_count.ensures.told)

pub write_ends-requires : goal.write_ends-requires
write_ends-requires g c = ap length c.requires.written ∙ as_many c.args.tape.now 0 c.args.causes.now
