use Rattle.std.proofs.Common.{sym, arith, take_all}
use Rattle.workload.proofs.lines.front_of.Goals as goal

pub returns-then-bytes-le-PIECE_SIZE : goal.returns-then-bytes-le-PIECE_SIZE
returns-then-bytes-le-PIECE_SIZE c = sym (take_all 61 c.args.bytes.now (omega arith))
