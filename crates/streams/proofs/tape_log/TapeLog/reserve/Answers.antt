use Rattle.std.proofs.Common.{arith}
use Rattle.streams.proofs.Growing.{as_many_marks}
use Rattle.streams.proofs.tape_log.TapeLog.reserve.Goals as goal

pub returns-clause-room : goal.returns-clause-room
returns-clause-room c = search (arith, as_many_marks, c.reserve.ensures.ok)
