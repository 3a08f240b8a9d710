use Rattle.std.proofs.Common.{length}
use Rattle.value_text.proofs.fronts.+past.Given as goal

abbrev pub decreases-past : goal.decreases-past
decreases-past l = length l.word.now
