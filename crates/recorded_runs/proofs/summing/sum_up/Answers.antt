use Rattle.std.proofs.Common.{sym, subst, ◌∙◌}
use Rattle.host_model.specs.declared.cause.EndCause.TheVariants.{NoMemory}
use Rattle.recorded_runs.specs.Answered.{HasNone}
use Rattle.workload.specs.Summed.{ComesToSum}
use Rattle.recorded_runs.proofs.Counted.{none_ran_out}
use Rattle.recorded_runs.proofs.summing.sum_up.Goals as goal

pub summary-requires-clause-comes : goal.summary-requires-clause-comes
summary-requires-clause-comes g c entries is =
    subst (ComesToSum c.args.work.seed c.args.work.size c.args.tape.now entries) (sym c.as_slice-ends.ensures)
    (c.requires.comes c.in-All.is entries is
    (subst (HasNone NoMemory) c.as_slice-ends.ensures (none_ran_out c.as_slice-ends.result.now (sym c.ran_out.ensures ∙ c.if-ran_out.false))))
