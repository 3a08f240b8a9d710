use Rattle.std.proofs.Common.{refl}
use Rattle.script_model.proofs.Wanting.{at_its_end}
use Rattle.script_model.proofs.Settling.{exactly, nothing_left, only_then}
use Rattle.script_model.proofs.NoWants.{no_wants}
use Rattle.script_model.proofs.wants.want_of_memory_shows.Goals as goal

pub returns-clause-exactly : goal.returns-clause-exactly
returns-clause-exactly g c d r memories memory budget workers script wants first last causes small is_first rehearsed ended =
    exactly d r memory memories first (λ old cell told. c.plain_machine_runs.ensures d r old cell told small)
    (λ cell events lead. c.every_cell_keeps.ensures d r memories first cell events small is_first lead) budget workers script wants last is_first rehearsed causes ended

pub returns-clause-nothing_left : goal.returns-clause-nothing_left
returns-clause-nothing_left g c d r memories memory budget workers script wants first last causes small is_first rehearsed ended =
    nothing_left d r memory memories first (λ old cell told. c.plain_machine_runs.ensures d r old cell told small)
    (λ cell events lead. c.every_cell_keeps.ensures d r memories first cell events small is_first lead) budget workers script wants last is_first rehearsed causes ended

pub returns-clause-at_rest : goal.returns-clause-at_rest
returns-clause-at_rest g c d r memories memory budget workers script wants first last small is_first rehearsed =
    at_its_end d r memory memories first (λ old cell told. c.plain_machine_runs.ensures d r old cell told small)
    (λ cell events lead. c.every_cell_keeps.ensures d r memories first cell events small is_first lead) budget workers script wants last is_first rehearsed

pub returns-clause-only_then : goal.returns-clause-only_then
returns-clause-only_then g c d r memories memory budget workers script first last small is_first rehearsed =
    only_then d r memory memories first (λ old cell told. c.plain_machine_runs.ensures d r old cell told small)
    (λ cell events lead. c.every_cell_keeps.ensures d r memories first cell events small is_first lead) budget workers script 0 last is_first rehearsed refl

pub returns-clause-ample : goal.returns-clause-ample
returns-clause-ample g c d r budget workers script wants first last rehearsed = no_wants d r budget workers script wants first last rehearsed
