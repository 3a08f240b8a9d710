use Rattle.std.proofs.Common.{◌≢◌, ℕ, Some, List, slice_get}
use Rattle.host_model.specs.declared.cause.EndCause.{EndCause}
use Rattle.host_model.specs.declared.cause.EndCause.TheVariants.{Stopped}
use Rattle.machine_model.specs.Machine.{Cell, HaveAllEnded}
use Rattle.script_model.specs.Rehearsing.{IsRehearsalOf}
use Rattle.script_model.proofs.steps.a_script_comes_to_its_end.Goals as goal

pub returns : goal.returns
returns g c d r memories memory budget workers script first small is_first services lets room =
    let run : (wants : ℕ) × (last : Cell g.row.C.Denot g.row.A.Denot g.row.M.Denot) × IsRehearsalOf d r memory budget workers script wants first last =
    c.some_steps_suffice.ensures.comes d r memory budget workers script first is_first.hall.opened.closed in
    let t : (causes : List EndCause) × HaveAllEnded run.1.loop causes × ((x : ℕ) → slice_get causes x ≢ Some Stopped) =
    c.a_rehearsal_ends.ensures.ended d r memories memory budget workers script run.0 first run.1 small is_first services lets room run.2 in
    (run.0, run.1, t.0, run.2, t.1, t.2, c.a_rehearsal_is_a_run.ensures.meets d r memories memory budget workers script run.0 first run.1 t.0 small is_first run.2 t.1)
