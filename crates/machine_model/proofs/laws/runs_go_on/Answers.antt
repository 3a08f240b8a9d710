use Rattle.machine_model.proofs.Extending.{weaves-append, calls-append}
use Rattle.machine_model.proofs.Merging.{runs-append}
use Rattle.machine_model.proofs.laws.runs_go_on.Goals as goal

pub returns-clause-run : goal.returns-clause-run
returns-clause-run g c d r old mid new events more one other = runs-append d r old mid new events more one other

pub returns-clause-weave : goal.returns-clause-weave
returns-clause-weave g c max old mid new items more one other = weaves-append max old mid new items more one other

pub returns-clause-calls : goal.returns-clause-calls
returns-clause-calls g c items more = calls-append items more
