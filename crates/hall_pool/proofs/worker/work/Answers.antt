use Rattle.std.proofs.Common.{◌≡◌, true, sym, subst}
use Rattle.call_rules.specs.Desks.{DeskMeaning}
use Rattle.machine_model.specs.HallState.{Job}
use Rattle.machine_model.specs.HallRule.{put, done}
use Rattle.machine_model.specs.OwnCalls.{holds_key}
use Rattle.hall_pool.specs.declared.turn.Turn.TheVariants.{Worked}
use Rattle.hall_pool.specs.Turns.{asks_made, AddsTurn}
use Rattle.hall_pool.specs.Jobs.{AddsAsk, SettlesJob}
use Rattle.hall_pool.proofs.Applying.{still_held}
use Rattle.hall_pool.proofs.Adding.{put_turn, stopped_turn}
use Rattle.hall_pool.proofs.worker.work.Goals as goal

pub returns-in_default-clause-turn : goal.returns-in_default-clause-turn
returns-in_default-clause-turn g c = λ before took.
    stopped_turn (g.D.Desk.meaning c.args.desk.now) before c.args.seat.now c.settle.new.seat c.close.new.seat c.args.job.key c.args.job.payload took
    (subst (SettlesJob (g.D.Desk.meaning c.args.desk.now) c.args.seat.now c.settle.new.seat c.args.job.key c.args.job.payload) c.in_default.is c.settle.ensures.settled)
    c.close.ensures.closed

pub put-requires-clause-held : goal.put-requires-clause-held
put-requires-clause-held g c κs within =
    subst (λ (job : Job). holds_key job.key (asks_made c.settle.new.seat.mine) ≡ true) (sym c.job.view_is)
    (still_held (g.D.Desk.meaning c.args.desk.now) c.args.booth.now c.args.seat.now c.settle.new.seat c.args.job.key c.args.job.payload c.in-Some.settled c.requires.job
    (subst (SettlesJob (g.D.Desk.meaning c.args.desk.now) c.args.seat.now c.settle.new.seat c.args.job.key c.args.job.payload) c.in-Some.is c.settle.ensures.settled))

pub returns-clause-turn : goal.returns-clause-turn
returns-clause-turn g c = λ before took.
    let desk : DeskMeaning = g.D.Desk.meaning c.args.desk.now in
    subst (λ (job : Job). AddsTurn desk before c.put.new.seat.mine (Worked job.key)) (sym c.job.view_is)
    (put_turn desk before c.args.seat.now c.settle.new.seat c.put.new.seat c.args.job.key c.args.job.payload took c.in-Some.settled
    (subst (SettlesJob desk c.args.seat.now c.settle.new.seat c.args.job.key c.args.job.payload) c.in-Some.is c.settle.ensures.settled)
    (subst (λ (job : Job). AddsAsk c.settle.new.seat c.put.new.seat (put job.key c.in-Some.settled) done) c.job.view_is c.put.ensures.put))
