use Rattle.std.proofs.Common.{◌≢◌, ℕ, Some, List, slice_get, refl}
use Rattle.host_model.specs.declared.cause.EndCause.{EndCause}
use Rattle.host_model.specs.declared.cause.EndCause.TheVariants.{Stopped}
use Rattle.machine_model.specs.HallRule.{apply, done}
use Rattle.machine_model.specs.Worker.{has_none}
use Rattle.machine_model.specs.Machine.{MachineEvent, EventsLead, HaveAllEnded}
use Rattle.script_model.proofs.Leading.{is_run}
use Rattle.script_model.proofs.Ended.{rests, ended}
use Rattle.script_model.proofs.ending.a_rehearsal_ends.Goals as goal

pub returns-clause-rests : goal.returns-clause-rests
returns-clause-rests g c d r memories memory budget workers script wants first last small is_first services lets rehearsed =
    rests d r memory (λ old cell told. c.plain_machine_runs.ensures d r old cell told small) budget workers script wants memories first last is_first lets
    (λ cell events run. c.every_cell_keeps.ensures d r memories first cell events small is_first run)
    (λ cell events run w key payload call e q.
    (c.every_step_can.ensures.asked_by_worker d r memories first cell events w (apply key call) done (has_none key payload) small is_first run services (payload, e, q, refl)).1)
    rehearsed

pub returns-clause-ended : goal.returns-clause-ended
returns-clause-ended g c d r memories memory budget workers script wants first last small is_first services lets room rehearsed =
    ended d r memory (λ old cell told. c.plain_machine_runs.ensures d r old cell told small) budget workers script wants memories first last is_first lets.moves
    (λ cell events run. c.every_cell_keeps.ensures d r memories first cell events small is_first run)
    (λ cell events run w key payload call e q.
    (c.every_step_can.ensures.asked_by_worker d r memories first cell events w (apply key call) done (has_none key payload) small is_first run services (payload, e, q, refl)).1)
    rehearsed room lets.inputs

pub returns-clause-meets : goal.returns-clause-meets
returns-clause-meets g c d r memories memory budget workers script wants first last small is_first services lets room rehearsed =
    let run : (events : List MachineEvent) × EventsLead d r first events last =
    is_run d r memory (λ old cell told. c.plain_machine_runs.ensures d r old cell told small) budget workers script wants first last rehearsed in
    let t : (causes : List EndCause) × HaveAllEnded last.loop causes × ((c : ℕ) → slice_get causes c ≢ Some Stopped) =
    ended d r memory (λ old cell told. c.plain_machine_runs.ensures d r old cell told small) budget workers script wants memories first last is_first lets.moves
    (λ cell events led. c.every_cell_keeps.ensures d r memories first cell events small is_first led)
    (λ cell events led w key payload call e q.
    (c.every_step_can.ensures.asked_by_worker d r memories first cell events w (apply key call) done (has_none key payload) small is_first led services (payload, e, q, refl)).1)
    rehearsed room lets.inputs in
    (t.0, c.every_run_meets.ensures d r memories first last run.0 t.0 small is_first run.1 t.1)
