use Rattle.std.proofs.Common.{ap}
use Rattle.journal_text.specs.EntryText.{call_line}
use Rattle.journal_text.proofs.Buffering.{line_handed, line_entered}
use Rattle.journal_text.proofs.buffered.Buffered.put_line.Goals as goal

pub returns-clause-handed : goal.returns-clause-handed
returns-clause-handed g c =
    line_handed (g.K.Sink.taken c.args.self.now.sink) (g.K.Sink.taken c.begin_line.new.self.start) (g.K.Sink.taken c.spell_entry-put.new.out.start) (g.K.Sink.taken c.spell_entry-put.new.out.sink)
    c.begin_line.new.self.passed c.spell_entry-put.new.out.passed c.args.self.now.held c.begin_line.new.self.held c.spell_entry-put.new.out.held (call_line c.args.entry.now)
    (g.K.Sink.faults c.args.self.now.sink) (g.K.Sink.faults c.begin_line.new.self.sink) (g.K.Sink.faults c.spell_entry-put.new.out.sink) (ap g.K.Sink.taken c.begin_line.ensures.start) c.begin_line.ensures.none
    c.begin_line.ensures.held (ap g.K.Sink.faults c.begin_line.ensures.sink) c.is_buffer.ensures c.spell_entry-put.result c.spell_entry-put.ensures.handed

pub returns-clause-entered : goal.returns-clause-entered
returns-clause-entered g c =
    line_entered (g.K.Sink.taken c.args.self.now.sink) (g.K.Sink.taken c.begin_line.new.self.start) (g.K.Sink.taken c.spell_entry-put.new.out.start) (g.K.Sink.taken c.spell_entry-put.new.out.sink)
    c.begin_line.new.self.passed c.spell_entry-put.new.out.passed c.args.self.now.held c.begin_line.new.self.held c.spell_entry-put.new.out.held (call_line c.args.entry.now)
    (g.K.Sink.faults c.args.self.now.sink) (g.K.Sink.faults c.begin_line.new.self.sink) (g.K.Sink.faults c.spell_entry-put.new.out.sink) (ap g.K.Sink.taken c.begin_line.ensures.start) c.begin_line.ensures.none
    c.begin_line.ensures.held (ap g.K.Sink.faults c.begin_line.ensures.sink) c.is_buffer.ensures c.spell_entry-put.result c.spell_entry-put.ensures.handed
