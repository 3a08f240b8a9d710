use Rattle.std.proofs.Common.{[], ◌∷◌, arith}
use Rattle.host_model.specs.TinyDesk.{tiny_desk, counting}
use Rattle.machine_model.specs.Merge.{cell_at_first}
use Rattle.machine_model.specs.Tiny.{tiny_hall}
use Rattle.machine_model.proofs.Showing.{tiny_is_first, shown_meets}
use Rattle.machine_model.proofs.examples.shown_runs_meet.Goals as goal

pub returns : goal.returns
returns c events tape journal causes e =
    shown_meets (λ told cell r. c.plain_machine_runs.ensures tiny_desk counting (cell_at_first tiny_hall) cell told (omega arith) r)
    (λ events cell causes runs ended. c.every_run_meets.ensures tiny_desk counting (5 ∷ []) (cell_at_first tiny_hall) cell events causes (omega arith) tiny_is_first runs ended)
    events tape journal causes e
