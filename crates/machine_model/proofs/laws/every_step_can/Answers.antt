use Rattle.std.proofs.Common.{◌<◌, ◌^◌, arith}
use Rattle.machine_model.proofs.Fitting.{most_are_open, keys_counted, loop_can, worker_can}
use Rattle.machine_model.proofs.laws.every_step_can.Goals as goal

pub returns-clause-most : goal.returns-clause-most
returns-clause-most g c d r memories first cell events small is_first runs =
    most_are_open d r memories (λ acts world reached. c.every_moment_stands.ensures d r memories acts world small reached) small first cell events is_first runs

pub returns-clause-keys : goal.returns-clause-keys
returns-clause-keys g c d r memories first cell events small is_first runs =
    keys_counted d r memories (λ acts world reached. c.every_moment_stands.ensures d r memories acts world small reached) small first cell events is_first runs

pub returns-clause-asked_by_loop : goal.returns-clause-asked_by_loop
returns-clause-asked_by_loop g c d r memories first cell events op answer loop small is_first runs behind asks =
    let less : d.max < 2 ^ 31 = omega arith in
    loop_can d r memories (λ acts world reached. c.every_moment_stands.ensures d r memories acts world less reached) less first cell events is_first runs op answer loop small behind asks

pub returns-clause-asked_by_worker : goal.returns-clause-asked_by_worker
returns-clause-asked_by_worker g c d r memories first cell events w op answer worker small is_first runs services asks =
    worker_can d r memories (λ acts world reached. c.every_moment_stands.ensures d r memories acts world small reached) small first cell events is_first runs w op answer worker services asks
