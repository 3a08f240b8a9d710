use Rattle.machine_model.proofs.Budgeting.{first_within, run_within, nothing_keeps, weave_within}
use Rattle.machine_model.proofs.moments.sizes_at_fronts.Goals as goal

pub returns-clause-first : goal.returns-clause-first
returns-clause-first g c d memories first budget small is_first = first_within d.max small budget memories first is_first

pub returns-clause-step : goal.returns-clause-step
returns-clause-step g c d r memories first old new events event budget small is_first runs kept step less =
    run_within d r small budget memories first old new events event is_first runs kept step less

pub returns-clause-nothing : goal.returns-clause-nothing
returns-clause-nothing g c max budget small = nothing_keeps max small budget

pub returns-clause-item : goal.returns-clause-item
returns-clause-item g c max budget items old new item small woven kept step less = weave_within max small budget items old item new woven kept step less
