use Rattle.std.proofs.Common.{length}
use Rattle.workload.proofs.lines.+most_pieces.Given as goal

abbrev pub decreases-most_pieces : goal.decreases-most_pieces
decreases-most_pieces l = length l.streams.now
