use Rattle.machine_model.specs.Merge.{cell_at_first}
use Rattle.machine_model.proofs.Merging.{merged, merged_meets, first_is}
use Rattle.machine_model.proofs.laws.one_history_runs.Goals as goal

pub returns-clause-run : goal.returns-clause-run
returns-clause-run g c d r memories opening log weave loop o = merged d r memories opening log weave loop o

pub returns-clause-headline : goal.returns-clause-headline
returns-clause-headline g c d r memories opening log weave loop causes small o ended =
    merged_meets d r memories opening log weave loop causes
    (λ cell events runs over. c.every_run_meets.ensures d r memories (cell_at_first opening) cell events causes small (first_is d r memories opening o.opened) runs over) o ended
