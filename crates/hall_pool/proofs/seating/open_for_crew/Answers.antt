use Rattle.std.proofs.Common.{◌+◌, ◌∙◌, refl}
use Rattle.hall_pool.proofs.Opening.{new_seating}
use Rattle.hall_pool.proofs.seating.open_for_crew.Goals as goal

pub returns-in-Ok-clause-seating : goal.returns-in-Ok-clause-seating
returns-in-Ok-clause-seating g c =
    new_seating c.in-Ok.booth (c.args.workers + 2) c.args.workers c.apart.result.first c.apart.result.own c.apart.result.crew.items refl (c.apart.ensures.seats ∙ c.in-Ok.ensures.seats)
