use Rattle.std.proofs.Common.{refl}
use Rattle.machine_model.specs.HallRule.{apply, done}
use Rattle.machine_model.specs.Worker.{has_none}
use Rattle.script_model.proofs.FedReads.{opens_all, reads_all}
use Rattle.script_model.proofs.Placing.{place_at_end, place_at_rest}
use Rattle.script_model.proofs.Ruling.{each_written}
use Rattle.script_model.proofs.feeding.a_rehearsal_is_fed.Goals as goal

pub returns-clause-rests : goal.returns-clause-rests
returns-clause-rests g c d r memories memory budget workers script wants first last before behind small is_first services lets few rehearsed is =
    place_at_rest d r memory (λ old cell told. c.plain_machine_runs.ensures d r old cell told small) small memories first is_first
    (λ cell events run. c.every_cell_keeps.ensures d r memories first cell events small is_first run)
    (λ cell events run w key payload call e q.
    (c.every_step_can.ensures.asked_by_worker d r memories first cell events w (apply key call) done (has_none key payload) small is_first run services (payload, e, q, refl)).1)
    (λ mid end events more run rest led. c.a_moment_of_rest_tells.ensures d r memories first mid end events more small is_first run rest led) budget workers script lets wants last rehearsed few
    before behind is

pub returns-clause-at_end : goal.returns-clause-at_end
returns-clause-at_end g c d r memories memory budget workers script wants first last small is_first services lets few rehearsed =
    place_at_end d r memory (λ old cell told. c.plain_machine_runs.ensures d r old cell told small) small memories first is_first
    (λ cell events run. c.every_cell_keeps.ensures d r memories first cell events small is_first run)
    (λ cell events run w key payload call e q.
    (c.every_step_can.ensures.asked_by_worker d r memories first cell events w (apply key call) done (has_none key payload) small is_first run services (payload, e, q, refl)).1)
    (λ mid end events more run rest led. c.a_moment_of_rest_tells.ensures d r memories first mid end events more small is_first run rest led) budget workers script lets wants last rehearsed few

pub returns-clause-fed : goal.returns-clause-fed
returns-clause-fed g c d r memories memory budget workers script wants first last small is_first services lets few behind_pieces rehearsed =
    record {
      opened = opens_all d r memory (λ old cell told. c.plain_machine_runs.ensures d r old cell told small) small script memories budget workers wants first last is_first rehearsed few;
      each_read = λ conn.
          reads_all d r memory (λ old cell told. c.plain_machine_runs.ensures d r old cell told small) small script memories budget workers wants first last is_first rehearsed behind_pieces conn;
      each_written = λ conn.
          each_written d r memory script memories first (λ old cell told. c.plain_machine_runs.ensures d r old cell told small)
          (λ cell events run. c.every_cell_keeps.ensures d r memories first cell events small is_first run) budget workers wants last is_first rehearsed conn;
      rests = λ before behind is.
          returns-clause-rests g c d r memories memory budget workers script wants first last before behind small is_first services lets few rehearsed is;
    }
