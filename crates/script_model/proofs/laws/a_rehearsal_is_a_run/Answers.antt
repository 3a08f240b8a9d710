use Rattle.script_model.proofs.Leading.{is_run}
use Rattle.script_model.proofs.Sufficing.{one_rehearsal}
use Rattle.script_model.proofs.Ample.{with_ample}
use Rattle.script_model.proofs.laws.a_rehearsal_is_a_run.Goals as goal

pub returns-clause-run : goal.returns-clause-run
returns-clause-run g c d r memory budget workers script wants first last small rehearsed =
    is_run d r memory (λ old cell told. c.plain_machine_runs.ensures d r old cell told small) budget workers script wants first last rehearsed

pub returns-clause-meets : goal.returns-clause-meets
returns-clause-meets g c d r memories memory budget workers script wants first last causes small is_first rehearsed ended =
    let t = is_run d r memory (λ old cell told. c.plain_machine_runs.ensures d r old cell told small) budget workers script wants first last rehearsed in
    c.every_run_meets.ensures d r memories first last t.0 causes small is_first t.1 ended

pub returns-clause-only : goal.returns-clause-only
returns-clause-only g c d r memory budget workers script wants others first last other one two =
    one_rehearsal d r memory budget workers script wants others first last other one two

pub returns-clause-with_ample_memory : goal.returns-clause-with_ample_memory
returns-clause-with_ample_memory g c d r memory budget workers script first last small rehearsed =
    with_ample d r memory (λ old cell told. c.plain_machine_runs.ensures d r old cell told small) budget workers script first last rehearsed
