use Rattle.std.proofs.Common.{Ok, ap, ◌∙◌}
use Rattle.conn_table.specs.declared.run_limits.Outcome.TheVariants.{All}
use Rattle.loop_conns.specs.Going.{IsAllOver}
use Rattle.host_loop.proofs.Keeping.{halts}
use Rattle.host_loop.proofs.rounds.Serving+Hall+H+J.run_rounds.Goals as goal

pub returns-in-Ok-false-clause-halted : goal.returns-in-Ok-false-clause-halted
returns-in-Ok-false-clause-halted g c =
    let over : IsAllOver (g.L.Links.state c.round.new.links) c.round.new.self.conns = c.round.ensures.over (c.in-Ok-false.is ∙ ap Ok c.in-Ok-false.field-0-test) in
    halts _ _ _ _ _ _ _ _ c.in-Ok-false.ensures.serving All (over.0, over.1, c.in-Ok-false.ensures.serving.going)

pub loop-preserved : goal.loop-preserved
loop-preserved g c = record { serving = c.in-Ok-true.ensures.serving; plan = c.round.ensures.plan ∙ c.loop.invariant.plan }

pub returns-in-Ok-false-clause-plan : goal.returns-in-Ok-false-clause-plan
returns-in-Ok-false-clause-plan g c = c.round.ensures.plan ∙ c.loop.invariant.plan

pub returns-in-Err-clause-halted : goal.returns-in-Err-clause-halted
returns-in-Err-clause-halted g c = c.in-Err.ensures.halted

pub returns-in-Err-clause-plan : goal.returns-in-Err-clause-plan
returns-in-Err-clause-plan g c = c.round.ensures.plan ∙ c.loop.invariant.plan
