use Rattle.recorded_runs.specs.Answered.{IsRunOfScript}
use Rattle.recorded_runs.specs.ServedScripts.{IsServedScript}
use Rattle.recorded_runs.proofs.ManyReports.{one_run_told_of_many}
use Rattle.recorded_runs.proofs.laws.a_report_of_many_tells_its_run.Goals as goal

pub returns-clause-rehearsed : goal.returns-clause-rehearsed
returns-clause-rehearsed c = λ a script text small desk lines few x y.
    one_run_told_of_many a desk lines (IsRunOfScript a) small (λ script tape journal causes run. run.headline) (λ script tape journal causes run. run.fed) script text few x y

pub returns-clause-served : goal.returns-clause-served
returns-clause-served c = λ a script text small desk lines few x y.
    one_run_told_of_many a desk lines (IsServedScript a) small (λ script tape journal causes run. run.headline) (λ script tape journal causes run. run.fed) script text few x y
