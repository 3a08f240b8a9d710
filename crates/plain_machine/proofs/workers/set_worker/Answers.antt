use Rattle.std.proofs.Common.{◌∙◌}
use Rattle.machine_model.specs.Machine.{with_worker}
use Rattle.plain_machine.specs.Seen.{worker_of}
use Rattle.plain_machine.proofs.Seeing.{workers_set}
use Rattle.plain_machine.proofs.workers.set_worker.Goals as goal

pub returns : goal.returns
returns g c =
    workers_set c.make_room.new.workers.items c.args.w c.args.worker (c.in_ok-make_room.ensures {u = tt}).there
    ∙ (λ i. with_worker ((c.in_ok-make_room.ensures {u = tt}).same i) c.args.w (worker_of c.args.worker))
