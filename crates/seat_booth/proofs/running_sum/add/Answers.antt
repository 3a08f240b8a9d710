use Rattle.std.proofs.Common.{ap, ◌∙◌}
use Rattle.seat_booth.specs.Sums.{added}
use Rattle.seat_booth.proofs.Added.{added-push}
use Rattle.seat_booth.proofs.running_sum.add.Goals as goal

pub returns-clause-added : goal.returns-clause-added
returns-clause-added g c = ap added c.call.ensures.call.mine ∙ added-push _ _
