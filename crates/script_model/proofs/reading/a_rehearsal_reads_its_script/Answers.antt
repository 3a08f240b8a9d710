use Rattle.script_model.proofs.FedReads.{opens_all, reads_all}
use Rattle.script_model.proofs.reading.a_rehearsal_reads_its_script.Goals as goal

pub returns-clause-opened : goal.returns-clause-opened
returns-clause-opened g c d r memories memory budget workers script wants first last small is_first rehearsed few =
    opens_all d r memory (λ old cell told. c.plain_machine_runs.ensures d r old cell told small) small script memories budget workers wants first last is_first rehearsed few

pub returns-clause-read : goal.returns-clause-read
returns-clause-read g c d r memories memory budget workers script wants first last small is_first rehearsed behind at =
    reads_all d r memory (λ old cell told. c.plain_machine_runs.ensures d r old cell told small) small script memories budget workers wants first last is_first rehearsed behind at
