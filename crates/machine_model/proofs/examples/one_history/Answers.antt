use Rattle.std.proofs.Common.{[], ◌∷◌, refl, arith}
use Rattle.host_model.specs.TinyDesk.{tiny_desk, counting}
use Rattle.host_model.specs.declared.cause.EndCause.TheVariants.{End}
use Rattle.machine_model.specs.Tiny.{tiny_hall}
use Rattle.machine_model.specs.TinyThreads.{small_history, small_weave}
use Rattle.machine_model.proofs.Showing.{ended_by}
use Rattle.machine_model.proofs.Weaving.{small_loop, small_is_one}
use Rattle.machine_model.proofs.examples.one_history.Goals as goal

pub returns-clause-is_one : goal.returns-clause-is_one
returns-clause-is_one c = (
  small_loop,
  small_is_one (λ bytes. c.less_than_a_frame.ensures.size 2 bytes) (λ size bytes. c.less_than_a_frame.ensures.payload 2 size bytes (omega arith)),
  refl,
  ended_by small_loop (End ∷ End ∷ []) refl,
)

pub returns-clause-journal : goal.returns-clause-journal
returns-clause-journal c = refl

pub returns-clause-meets : goal.returns-clause-meets
returns-clause-meets c =
    c.one_history_runs.ensures.headline tiny_desk counting (5 ∷ []) tiny_hall small_history small_weave small_loop (End ∷ End ∷ []) (omega arith)
    (small_is_one (λ bytes. c.less_than_a_frame.ensures.size 2 bytes) (λ size bytes. c.less_than_a_frame.ensures.payload 2 size bytes (omega arith)))
    (ended_by small_loop (End ∷ End ∷ []) refl)
