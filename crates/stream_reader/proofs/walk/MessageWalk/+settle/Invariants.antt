use Rattle.std.proofs.Common.{length}
use Rattle.stream_reader.proofs.walk.MessageWalk.+settle.Given as goal

abbrev pub decreases-settle : goal.decreases-settle
decreases-settle l = length l.self.now.stack
