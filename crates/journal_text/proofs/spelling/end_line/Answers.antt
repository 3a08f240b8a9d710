use Rattle.std.proofs.Common.{refl}
use Rattle.journal_text.proofs.Handing.{one_handed, one_broken}
use Rattle.journal_text.proofs.spelling.end_line.Goals as goal

pub returns-in_err-write-clause-handed : goal.returns-in_err-write-clause-handed
returns-in_err-write-clause-handed g c =
    one_broken (g.K.Sink.taken c.args.out.now) (g.K.Sink.taken c.write.new.self) (g.K.Sink.faults c.args.out.now) (g.K.Sink.faults c.write.new.self) 10 c.from_residual.result
    c.from_residual.ensures.0 (c.in_err-write.ensures {u = tt}).told (c.in_err-write.ensures {u = tt}).cause.later ((c.in_err-write.ensures {u = tt}).cause.failed refl)

pub returns-clause-handed : goal.returns-clause-handed
returns-clause-handed g c =
    one_handed (g.K.Sink.taken c.args.out.now) (g.K.Sink.taken c.write.new.self) (g.K.Sink.faults c.args.out.now) (g.K.Sink.faults c.write.new.self) 10 _
    c.in_ok-write.ensures.told c.in_ok-write.ensures.cause.kept
