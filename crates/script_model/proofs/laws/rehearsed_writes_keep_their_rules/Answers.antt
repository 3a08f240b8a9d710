use Rattle.script_model.proofs.Ruling.{each_written}
use Rattle.script_model.proofs.laws.rehearsed_writes_keep_their_rules.Goals as goal

pub returns : goal.returns
returns g c d r memories memory budget workers script wants first last conn small is_first rehearsed =
    each_written d r memory script memories first (λ old cell told. c.plain_machine_runs.ensures d r old cell told small)
    (λ cell events lead. c.every_cell_keeps.ensures d r memories first cell events small is_first lead) budget workers wants last is_first rehearsed conn
