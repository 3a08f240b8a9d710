use Rattle.std.proofs.Common.{length}
use Rattle.value_text.proofs.fronts.+tag_among.Given as goal

abbrev pub decreases-tag_among : goal.decreases-tag_among
decreases-tag_among l = length l.tags.now
