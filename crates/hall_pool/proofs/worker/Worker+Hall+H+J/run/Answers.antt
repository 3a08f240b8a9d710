use Rattle.std.proofs.Common.{◌∙◌, refl, sym, subst}
use Rattle.call_rules.specs.Desks.{DeskMeaning}
use Rattle.hall_pool.specs.Turns.{KeepsRunning, EndsRun, AddsRun}
use Rattle.hall_pool.proofs.Adding.{runs_first, runs_next, runs_end}
use Rattle.hall_pool.proofs.worker.Worker+Hall+H+J.run.Goals as goal

pub loop-init : goal.loop-init
loop-init g c =
    record {
      seat = c.requires.seat;
      number = refl;
      runs = runs_first (g.D.Desk.meaning c.args.desk.now) c.args.self.mine;
    }

pub loop-preserved-in-Worked : goal.loop-preserved-in-Worked
loop-preserved-in-Worked g c =
    record {
      seat = c.turn.ensures.seat;
      number = c.turn.ensures.number ∙ c.loop.invariant.number;
      runs = runs_next (g.D.Desk.meaning c.args.desk.now) c.args.self.mine c.loop.worker.mine c.turn.new.self.mine c.turn.result c.loop.invariant.runs c.turn.ensures.turn
          (subst KeepsRunning (sym c.in-Worked.is) tt);
    }

pub loop-preserved : goal.loop-preserved
loop-preserved g c =
    record {
      seat = c.turn.ensures.seat;
      number = c.turn.ensures.number ∙ c.loop.invariant.number;
      runs = runs_next (g.D.Desk.meaning c.args.desk.now) c.args.self.mine c.loop.worker.mine c.turn.new.self.mine c.turn.result c.loop.invariant.runs c.turn.ensures.turn
          (subst KeepsRunning (sym c.in-Empty.is) tt);
    }

pub returns-in-Closed-clause-turns : goal.returns-in-Closed-clause-turns
returns-in-Closed-clause-turns g c =
    let desk : DeskMeaning = g.D.Desk.meaning c.args.desk.now in
    subst (AddsRun desk c.args.self.mine c.turn.new.self.mine) c.in-Closed.is
    (runs_end desk c.args.self.mine c.loop.worker.mine c.turn.new.self.mine c.turn.result c.loop.invariant.runs c.turn.ensures.turn (subst EndsRun (sym c.in-Closed.is) tt))

pub returns-in-Journal-clause-turns : goal.returns-in-Journal-clause-turns
returns-in-Journal-clause-turns g c =
    let desk : DeskMeaning = g.D.Desk.meaning c.args.desk.now in
    subst (AddsRun desk c.args.self.mine c.turn.new.self.mine) c.in-Journal.is
    (runs_end desk c.args.self.mine c.loop.worker.mine c.turn.new.self.mine c.turn.result c.loop.invariant.runs c.turn.ensures.turn (subst EndsRun (sym c.in-Journal.is) tt))
