use Rattle.journal_text.specs.EntryText.{call_line}
use Rattle.streams.proofs.Causes.{cause_on}
use Rattle.journal_text.proofs.Written.{line_broken, cut_result, line_flushed}
use Rattle.journal_text.proofs.Handing.{cause_of_break}
use Rattle.journal_text.proofs.buffered.Buffered.write_line.Goals as goal

pub returns-in_err-put_line-clause-taken : goal.returns-in_err-put_line-clause-taken
returns-in_err-put_line-clause-taken g c =
    cut_result (g.K.Sink.taken c.args.self.now.sink) (g.K.Sink.taken c.put_line.new.self.sink) (call_line c.args.entry.now) c.from_residual.result c.from_residual.ensures.0
    (line_broken (g.K.Sink.taken c.args.self.now.sink) (g.K.Sink.taken c.put_line.new.self.sink) c.args.self.now.held c.put_line.new.self.held (call_line c.args.entry.now)
    (g.K.Sink.faults c.args.self.now.sink) (g.K.Sink.faults c.put_line.new.self.sink) c.requires.none_held (c.in_err-put_line.ensures {u = tt}).handed)

pub returns-clause-taken : goal.returns-clause-taken
returns-clause-taken g c =
    line_flushed (g.K.Sink.taken c.args.self.now.sink) (g.K.Sink.taken c.put_line.new.self.sink) (g.K.Sink.taken c.flush.new.self.sink) c.args.self.now.held c.put_line.new.self.held
    (call_line c.args.entry.now) (g.K.Sink.faults c.args.self.now.sink) (g.K.Sink.faults c.put_line.new.self.sink) c.flush.result c.requires.none_held
    (c.in_ok-put_line.ensures {u = tt}).handed c.flush.ensures.taken

pub returns-in_err-put_line-clause-cause : goal.returns-in_err-put_line-clause-cause
returns-in_err-put_line-clause-cause g c =
    cause_of_break _ _ (g.K.Sink.faults c.args.self.now.sink) (g.K.Sink.faults c.put_line.new.self.sink) (call_line c.args.entry.now) c.from_residual.result c.from_residual.ensures.0
    (c.in_err-put_line.ensures {u = tt}).handed

pub returns-clause-cause : goal.returns-clause-cause
returns-clause-cause g c =
    cause_on (g.K.Sink.faults c.args.self.now.sink) (g.K.Sink.faults c.put_line.new.self.sink) (g.K.Sink.faults c.flush.new.self.sink) c.flush.result
    (c.in_ok-put_line.ensures {u = tt}).handed.kept c.flush.ensures.cause
