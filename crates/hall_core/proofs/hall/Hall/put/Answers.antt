use Rattle.std.proofs.Common.{map}
use Rattle.machine_model.specs.HallRule as rule
use Rattle.hall_core.specs.Meant.{ServedHall, with_queue}
use Rattle.hall_core.specs.Asked.{answer_of}
use Rattle.hall_core.proofs.Stepping.{from_view}
use Rattle.hall_core.proofs.hall.Hall.put.Goals as goal

pub returns : goal.returns
returns g c =
    let view : ServedHall = record {
      jobs = c.self.inside.queue.jobs;
      taken = c.self.inside.queue.taken;
      outcomes = c.self.inside.queue.outcomes;
      memories = map (λ h. g.H.Handler.service h) c.self.inside.handlers.items;
      told = g.J.Journal.told c.self.inside.journal;
      faults = g.J.Journal.faults c.self.inside.journal;
      closed = c.self.inside.closed;
      broken = c.self.inside.broken;
    } in
    from_view view c.args.self.now c.self.view_is (rule.put c.args.key c.args.settled) (answer_of c.put.result) (with_queue view c.put.new.queue) (c.put.ensures view)
