use Rattle.std.proofs.Common.{false, [], refl}
use Rattle.machine_model.specs.HallState.{HallState}
use Rattle.machine_model.specs.Machine.{IsFirst}
use Rattle.machine_model.specs.Merge.{cell_at_first}
use Rattle.script_model.proofs.showing.something_shows.Goals as goal

pub returns : goal.returns
returns g c d r memories memory budget workers script small services lets room =
    let hall : HallState g.row.C.Denot g.row.A.Denot g.row.M.Denot =
    record { jobs = []; taken = []; outcomes = []; memories = memories; journal = []; faults = 0; closed = false; broken = false } in
    let is_first : IsFirst memories (cell_at_first hall) =
    record { tape = refl; count = refl; hall = record { opened = record { jobs = refl; taken = refl; outcomes = refl; closed = refl; broken = refl }; memories = refl; journal = refl }; workers = λ w. refl } in
    let t = c.a_script_comes_to_its_end.ensures d r memories memory budget workers script (cell_at_first hall) small is_first services lets room in (
      t.0,
      t.1.loop.tape,
      t.1.hall.journal,
      t.2,
      record { first = cell_at_first hall; last = t.1; is_first = is_first; rehearsed = t.3; same_tape = refl; same_journal = refl; ended = t.4 },
      t.6,
    )
