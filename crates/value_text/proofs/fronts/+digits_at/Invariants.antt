use Rattle.std.proofs.Common.{length}
use Rattle.value_text.proofs.fronts.+digits_at.Given as goal

abbrev pub decreases-digits_at : goal.decreases-digits_at
decreases-digits_at l = length l.text.now
