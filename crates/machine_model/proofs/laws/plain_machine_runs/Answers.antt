use Rattle.machine_model.proofs.Computing.{run_is}
use Rattle.machine_model.proofs.laws.plain_machine_runs.Goals as goal

pub returns : goal.returns
returns g c d r first cell events small e =
    run_is d r small (λ bytes. c.less_than_a_frame.ensures.size d.max bytes) (λ size bytes. c.less_than_a_frame.ensures.payload d.max size bytes small) first events cell e
